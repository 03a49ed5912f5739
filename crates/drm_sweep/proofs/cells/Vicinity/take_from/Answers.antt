-- Each turn takes out the near cells of a row; near cells are in near rows and columns.
use Rattle.std.proofs.Common.{◌≡◌, ◌+◌, ◌*◌, ℕ, subst, arith}
use Rattle.drm_sweep.specs.Taken.{TakesOut, Among}
use Rattle.drm_sweep.specs.Runs.{IsNearBetween}
use Rattle.drm_sweep.proofs.TakenLemmas.{none_taken, one_more_taken}
use Rattle.drm_sweep.proofs.RunLemmas.{IsNearInRow, run_in_row, row_taken, rows_taken}
use Rattle.drm_sweep.proofs.cells.Vicinity.take_from.Goals as goal

pub loop-row-init : goal.loop-row-init
loop-row-init c = none_taken (IsNearInRow c.args.self.now.grid.now c.args.self.now.plate c.args.self.now.far c.strips_near-columns.result) c.strips_near-rows.result.start c.args.cells.now

pub loop-row-preserved : goal.loop-row-preserved
loop-row-preserved c =
    let columns = c.strips_near-columns.result in
    let run = subst (λ (n : ℕ). TakesOut (IsNearBetween c.args.self.now.grid.now c.args.self.now.plate c.args.self.now.far (c.loop-row.row * n + columns.start) (c.loop-row.row * n + columns.end)) c.loop-row.cells c.take_run.new.cells) c.n-n.ensures.exact c.take_run.ensures in
    one_more_taken (IsNearInRow c.args.self.now.grid.now c.args.self.now.plate c.args.self.now.far columns) c.strips_near-rows.result.start c.loop-row.row c.args.cells.now c.loop-row.cells c.take_run.new.cells c.loop-row.auto.row c.loop-row.invariant
    (row_taken c.args.self.now.grid.now c.args.self.now.plate c.args.self.now.far c.loop-row.row columns c.loop-row.cells c.take_run.new.cells c.strips_near-columns.ensures.within run)

pub returns : goal.returns
returns c =
    let rows = c.strips_near-rows.result in
    let ordered = c.strips_near-rows.ensures.within.ordered in
    let end = c.loop-row.auto.row-end in
    let last : c.loop-row.row ≡ rows.end = omega arith in
    rows_taken c.args.self.now.grid.now c.args.self.now.plate c.args.self.now.far rows c.strips_near-columns.result c.args.cells.now c.loop-row.cells c.requires.size c.strips_near-columns.ensures.exact c.strips_near-rows.ensures.exact
    (λ cell near. c.near_cells_are_in_near_strips.ensures c.args.self.now.grid.now c.args.self.now.plate.x c.args.self.now.plate.y cell c.args.self.now.far near)
    (subst (λ (r : ℕ). TakesOut (Among rows.start r (IsNearInRow c.args.self.now.grid.now c.args.self.now.plate c.args.self.now.far c.strips_near-columns.result)) c.args.cells.now c.loop-row.cells) last c.loop-row.invariant)

pub take_run-requires-clause-in_row : goal.take_run-requires-clause-in_row
take_run-requires-clause-in_row c = run_in_row c.args.self.now.grid.now c.n-n.result c.loop-row.row c.strips_near-columns.result c.n-n.ensures.exact c.strips_near-columns.ensures.within
