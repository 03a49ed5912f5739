-- The slots are taken one after the other.
use Rattle.std.proofs.Common.{◌≡◌, get_or, None, ◌∙◌}
use Rattle.drm_num.proofs.Lists.{any_default}
use Rattle.drm_foot.proofs.OccupiedLemmas.{covered_next}
use Rattle.drm_foot.proofs.occupied.covered_cells.Goals as goal

pub loop-slot-preserved : goal.loop-slot-preserved
loop-slot-preserved c =
    let here : c.slot-item.result ≡ get_or c.args.table.now c.loop-slot.slot-index None = c.slot-item.is ∙ any_default c.args.table.now c.loop-slot.slot-index c.slot-item.result None c.loop-slot-test.true in
    covered_next c.args.grid.now c.args.table.now c.loop-slot.slot-index _ c.loop-slot.set c.mark_slot.new.set
    c.loop-slot-test.true c.loop-slot.invariant c.mark_slot.ensures.size (rw here at c.in_ok-mark_slot.ensures.exact)
