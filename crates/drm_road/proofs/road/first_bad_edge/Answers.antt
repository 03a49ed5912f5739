use Rattle.std.proofs.Common.{rules, ◌≡◌, false, true, length, sym, ◌∙◌, below_more, arith}
use Rattle.drm_road.specs.RoadFaults.{keeps_edges}
use Rattle.drm_road.proofs.RoadLemmas.{first_broken, never_broken}
use Rattle.drm_road.proofs.road.first_bad_edge.Goals as goal

pub returns-then-not-keeps-clause-place : goal.returns-then-not-keeps-clause-place
returns-then-not-keeps-clause-place c =
    let fails : keeps_edges c.args.nodes c.args.edges.now c.loop-i.i ≡ false = sym c.keeps.ensures ∙ search rules in
    sym (first_broken (keeps_edges c.args.nodes c.args.edges.now) (length c.args.edges.now) c.loop-i.i c.loop-i-test.true c.loop-i.invariant fails)

pub loop-i-preserved : goal.loop-i-preserved
loop-i-preserved c =
    let passes : keeps_edges c.args.nodes c.args.edges.now c.loop-i.i ≡ true = sym c.keeps.ensures ∙ search rules in
    below_more _ _ c.loop-i.invariant passes

pub returns-clause-place : goal.returns-clause-place
returns-clause-place c =
    let done : c.loop-i.i ≡ length c.args.edges.now = let end = c.loop-i.auto.i-end in let test = c.loop-i-test.false in omega arith in
    sym (never_broken (keeps_edges c.args.nodes c.args.edges.now) (length c.args.edges.now) (rw done at c.loop-i.invariant))
