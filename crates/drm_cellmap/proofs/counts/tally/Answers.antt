-- One more cell: it counts where the set has it.
use Rattle.std.proofs.Common.{arith, sym, ◌∙◌}
use Rattle.std.proofs.lemmas.Bool.{false≢true}
use Rattle.drm_cellmap.proofs.TallyLemmas.{tally_take_has, tally_take_lacks}
use Rattle.drm_cellmap.proofs.counts.tally.Goals as goal
use Rattle.drm_cellmap.proofs.counts.tally.Goals.{then-has, else-has}

pub loop-cell-preserved : goal.loop-cell-preserved
loop-cell-preserved c =
    elim c.if-has.branch [
      | then-has w ↦ (omega arith, rw w.count-is (tally_take_has _ _ _ 0 _ c.loop-cell-test.true c.loop-cell.invariant.1 (c.has.ensures.0 w.if-has.true)))
      | else-has w ↦ (omega arith, rw w.count-is (tally_take_lacks _ _ _ 0 _ c.loop-cell-test.true c.loop-cell.invariant.1 (λ has. false≢true (sym w.if-has.false ∙ c.has.ensures.1 has))))
    ]
