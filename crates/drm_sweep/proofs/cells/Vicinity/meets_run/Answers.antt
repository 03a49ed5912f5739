-- A cell that is not near is passed over.
use Rattle.std.proofs.Common.{◌≡◌, true, false, arith}
use Rattle.drm_grid.specs.Near.{IsNearBox}
use Rattle.drm_sweep.proofs.TakenLemmas.{not_taken_at}
use Rattle.drm_sweep.proofs.RunLemmas.{one_done}
use Rattle.drm_sweep.proofs.cells.Vicinity.meets_run.Goals as goal

pub loop-cell-preserved : goal.loop-cell-preserved
loop-cell-preserved c =
    one_done c.args.self.now.grid.now c.args.self.now.plate c.args.self.now.far c.args.first c.args.end c.loop-cell.next c.in-Some.cell c.args.cells.now c.args.cells.now c.args.cells.now c.in-Some.ensures c.loop-cell.invariant
    (not_taken_at (λ cell. IsNearBox c.args.self.now.grid.now c.args.self.now.plate.x c.args.self.now.plate.y cell c.args.self.now.far) c.in-Some.cell c.args.cells.now
    (λ near. let wrong : false ≡ true = c.if-near_box_in_row.ensures.1 near in absurd (cc)))

pub near_box_in_row-requires-clause-row : goal.near_box_in_row-requires-clause-row
near_box_in_row-requires-clause-row c =
    let from = c.loop-cell.invariant.from in
    let from_next = c.in-Some.ensures.0.from_first in
    c.requires.in_row c.in-Some.cell (omega arith) c.in-Some.ensures.0.before_end
