-- One more side each turn.
use Rattle.std.proofs.Common.{IsTrue, ◌≡◌, ◌↔◌, ◌<◌, true, false, rules, subst, below_more, arith}
use Rattle.drm_foot.specs.declared.side.Side.{Side}
use Rattle.drm_foot.specs.Reached.{IsReached}
use Rattle.drm_foot.proofs.SideLemmas.{reached_or_right}
use Rattle.drm_foot.proofs.cell_box.CellBox.meets_sides.Goals as goal

pub returns-then-not-is_reached_by : goal.returns-then-not-is_reached_by
returns-then-not-is_reached_by c =
    let square = c.args.self.now in
    let fails : c.is_reached_by.result ≡ false = search rules in
    let tested = subst (λ (side : Side). IsTrue c.is_reached_by.result ↔ IsReached square side) c.of.ensures.value c.is_reached_by.ensures in
    let below : c.loop-i.i < _ = c.loop-i-test.true in
    let count = c.corners-i-end.ensures.count in (
      λ yes. cc,
      λ all. let passes : c.is_reached_by.result ≡ true = tested.1 ((reached_or_right square.grid c.args.ring.now square.cell c.loop-i.i).0 (all c.loop-i.i (omega arith))) in cc,
    )

pub loop-i-preserved : goal.loop-i-preserved
loop-i-preserved c =
    let square = c.args.self.now in
    let passes : IsTrue c.is_reached_by.result = search rules in
    let tested = subst (λ (side : Side). IsTrue c.is_reached_by.result ↔ IsReached square side) c.of.ensures.value c.is_reached_by.ensures in
    below_more _ _ c.loop-i.invariant ((reached_or_right square.grid c.args.ring.now square.cell c.loop-i.i).1 (tested.0 passes))
