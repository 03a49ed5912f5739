-- Each turn appends the columns of the next row, and no row but these has cells of the footprint.
use Rattle.std.proofs.Common.{rules, ◌+◌, ◌*◌, ◌/◌, ◌<◌, FitsSigned, w32, arith}
use Rattle.std.proofs.lemmas.Int.{to_z-of_z}
use Rattle.std.proofs.lemmas.Nat.{div_below}
use Rattle.drm_foot.proofs.FootLemmas.{in_grid_of, row_of_foot}
use Rattle.drm_foot.proofs.RowLemmas.{none_before, before_row, row_added, all_before}
use Rattle.drm_foot.proofs.footprint.cells_of.Goals as goal

pub loop-row-init : goal.loop-row-init
loop-row-init c =
    let grid = c.args.grid.now in
    let y0 : FitsSigned w32 c.of-bounds.result.y0 = search rules in
    let y1 : FitsSigned w32 c.of-bounds.result.y1 = search rules in
    let some : 0 < grid.n = let least = c.n-n.ensures.limits.n.least in omega arith in
    let rows = simp to_z-of_z at c.strips_met-rows.ensures.exact in
    rw c.in_ok-cells.ensures.items (none_before grid c.args.shape.now c.strips_met-rows.result.start
    (λ cell touches. ((rows (cell / grid.n) (div_below cell grid.n grid.n some (in_grid_of grid c.args.shape.now cell touches))).0 (row_of_foot grid c.args.shape.now c.of-bounds.result cell c.of-bounds.ensures touches)).from_start))

pub columns_of-columns-requires-clause-met : goal.columns_of-columns-requires-clause-met
columns_of-columns-requires-clause-met c =
    let y0 : FitsSigned w32 c.of-bounds.result.y0 = search rules in
    let y1 : FitsSigned w32 c.of-bounds.result.y1 = search rules in
    let rows = simp to_z-of_z at c.strips_met-rows.ensures.exact in
    let below = c.loop-row-test.true in
    let within = c.strips_met-rows.ensures.within.within in
    (rows c.loop-row.row (omega arith)).1 (record { from_start = c.loop-row.auto.row; before_end = c.loop-row-test.true })

pub push_run-requires-clause-increasing : goal.push_run-requires-clause-increasing
push_run-requires-clause-increasing c = c.loop-row.invariant.increasing

pub push_run-requires-clause-above : goal.push_run-requires-clause-above
push_run-requires-clause-above c =
    let grid = c.args.grid.now in
    let some : 0 < grid.n = let least = c.n-n.ensures.limits.n.least in omega arith in
    rw c.n-n.ensures.exact (before_row grid c.args.shape.now c.loop-row.row (c.loop-row.row * grid.n + c.columns_of-columns.result.start) c.loop-row.cells.items some (omega arith) c.loop-row.invariant)

pub loop-row-preserved : goal.loop-row-preserved
loop-row-preserved c =
    let grid = c.args.grid.now in
    let some : 0 < grid.n = let least = c.n-n.ensures.limits.n.least in omega arith in
    row_added grid c.args.shape.now c.loop-row.row c.columns_of-columns.result c.loop-row.cells.items c.push_run.new.cells.items some
    c.columns_of-columns.ensures (rw c.n-n.ensures.exact at c.in_ok-push_run.ensures) c.loop-row.invariant

pub returns-clause-cells : goal.returns-clause-cells
returns-clause-cells c =
    let grid = c.args.grid.now in
    let y0 : FitsSigned w32 c.of-bounds.result.y0 = search rules in
    let y1 : FitsSigned w32 c.of-bounds.result.y1 = search rules in
    let some : 0 < grid.n = let least = c.n-n.ensures.limits.n.least in omega arith in
    let rows = simp to_z-of_z at c.strips_met-rows.ensures.exact in
    let last = c.loop-row-test.false in
    all_before grid c.args.shape.now c.loop-row.row c.loop-row.cells.items
    (λ cell touches.
    let place = (rows (cell / grid.n) (div_below cell grid.n grid.n some (in_grid_of grid c.args.shape.now cell touches))).0 (row_of_foot grid c.args.shape.now c.of-bounds.result cell c.of-bounds.ensures touches) in
    let before = place.before_end in
    omega arith)
    c.loop-row.invariant
