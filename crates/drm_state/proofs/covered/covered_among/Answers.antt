-- One more cell: it counts where a slot covers it.
use Rattle.std.proofs.Common.{arith}
use Rattle.drm_cellmap.proofs.TallyLemmas.{tally_take_has, tally_take_lacks}
use Rattle.drm_state.proofs.covered.covered_among.Goals as goal
use Rattle.drm_state.proofs.covered.covered_among.Goals.{then-is_covered, else-is_covered}

pub loop-cell-preserved : goal.loop-cell-preserved
loop-cell-preserved c =
    elim c.if-is_covered.branch [
      | then-is_covered w ↦ (
        omega arith,
        rw w.count-is
            (tally_take_has _ _ _ 0 _ c.loop-cell-test.true c.loop-cell.invariant.1 (c.is_covered.ensures.0 w.if-is_covered.true)),
      )
      | else-is_covered w ↦ (
        omega arith,
        rw w.count-is
            (tally_take_lacks _ _ _ 0 _ c.loop-cell-test.true c.loop-cell.invariant.1
            (λ covered. let yes = c.is_covered.ensures.1 covered in let is_false = w.if-is_covered.false in cc)),
      )
    ]
