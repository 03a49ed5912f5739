-- The cell is taken out where it is near.
use Rattle.std.proofs.Common.{◌<◌, subst, sym, IsTrue, arith, rules, length}
use Rattle.drm_grid.specs.Near.{IsNearBox}
use Rattle.drm_sweep.specs.Taken.{TakesOut}
use Rattle.drm_sweep.specs.Runs.{IsNearAt}
use Rattle.drm_sweep.proofs.TakenLemmas.{taken_at}
use Rattle.drm_sweep.proofs.cells.Vicinity.take_one.Goals as goal

pub returns-then-near_box_in_row : goal.returns-then-near_box_in_row
returns-then-near_box_in_row c =
    let below : c.args.cell < length c.args.cells.now = omega arith in
    let near : IsTrue c.near_box_in_row.result = search rules in
    subst (TakesOut (IsNearAt c.args.self.now.grid.now c.args.self.now.plate c.args.self.now.far c.args.cell) c.args.cells.now) (sym c.remove.ensures)
    (taken_at (λ cell. IsNearBox c.args.self.now.grid.now c.args.self.now.plate.x c.args.self.now.plate.y cell c.args.self.now.far) c.args.cell c.args.cells.now below (c.near_box_in_row.ensures.0 near))
