use Rattle.std.proofs.Common.{rules, ◌≡◌, false, true, sym, ◌∙◌, below_more, arith}
use Rattle.drm_shape.specs.Corners.{corner_count}
use Rattle.drm_shape.specs.Validity.{turns_left}
use Rattle.drm_shape.proofs.FirstLemmas.{first_broken, never_broken}
use Rattle.drm_shape.proofs.ring.Ring.first_bad_side.Goals as goal

pub returns-then-not-turns_left-clause-place : goal.returns-then-not-turns_left-clause-place
returns-then-not-turns_left-clause-place c =
    let fails : turns_left c.args.self.now c.loop-i.i ≡ false = sym c.turns_left.ensures ∙ search rules in
    sym (first_broken (turns_left c.args.self.now) (corner_count c.args.self.now) c.loop-i.i (omega (arith, c.loop-i-test.true, c.corners-i-end.ensures.count)) c.loop-i.invariant fails)

pub loop-i-preserved : goal.loop-i-preserved
loop-i-preserved c =
    let passes : turns_left c.args.self.now c.loop-i.i ≡ true = sym c.turns_left.ensures ∙ search rules in
    below_more _ _ c.loop-i.invariant passes

pub returns-clause-place : goal.returns-clause-place
returns-clause-place c =
    let done : c.loop-i.i ≡ corner_count c.args.self.now = let end = c.loop-i.auto.i-end in let test = c.loop-i-test.false in omega (arith, c.corners-i-end.ensures.count) in
    sym (never_broken (turns_left c.args.self.now) (corner_count c.args.self.now) (rw done at c.loop-i.invariant))
