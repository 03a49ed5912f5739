use Rattle.std.proofs.Common.{rules, ◌≡◌, false, true, is_none, sym, ap, ◌∙◌, below_more, arith}
use Rattle.drm_shape.specs.Corners.{corner_count}
use Rattle.drm_shape.specs.Validity.{is_on_left}
use Rattle.drm_shape.proofs.FirstLemmas.{first_broken, test_of_each}
use Rattle.drm_shape.proofs.ring.Ring.turns_left.Goals as goal

pub returns-then-not-is_on_left : goal.returns-then-not-is_on_left
returns-then-not-is_on_left c =
    let fails : is_on_left c.args.self.now c.args.i c.loop-k.k ≡ false = sym c.is_on_left.ensures ∙ search rules in
    sym (ap is_none (first_broken (is_on_left c.args.self.now c.args.i) (corner_count c.args.self.now) c.loop-k.k (omega (arith, c.loop-k-test.true, c.corners-corners.ensures.count)) c.loop-k.invariant fails))

pub loop-k-preserved : goal.loop-k-preserved
loop-k-preserved c =
    let passes : is_on_left c.args.self.now c.args.i c.loop-k.k ≡ true = sym c.is_on_left.ensures ∙ search rules in
    below_more _ _ c.loop-k.invariant passes

pub returns : goal.returns
returns c =
    let done : c.loop-k.k ≡ corner_count c.args.self.now = let end = c.loop-k.auto.k-end in let test = c.loop-k-test.false in omega (arith, c.corners-corners.ensures.count) in
    sym (test_of_each (is_on_left c.args.self.now c.args.i) (corner_count c.args.self.now) (rw done at c.loop-k.invariant))
