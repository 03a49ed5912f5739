-- One more cell, or the fault of one.
use Rattle.std.proofs.Common.{ℕ, ap, length, length-append, arith}
use Rattle.std.proofs.lemmas.Result.{err_from_is_err_and}
use Rattle.drm_mapfile.specs.Reading.{cell_at, least_behind}
use Rattle.drm_mapfile.proofs.Loops.{goes_on, ends, is_done}
use Rattle.drm_mapfile.proofs.RoadLoops.{least_push}
use Rattle.drm_mapfile.proofs.sweeps.take_cells.Goals as goal

pub returns-in_err-cell-clause-exact : goal.returns-in_err-cell-clause-exact
returns-in_err-cell-clause-exact c =
    let p = err_from_is_err_and c.from_residual-in_err-cell.result c.from_residual-in_err-cell.ensures.1 in
    let here = rw c.loop.invariant.least at c.in_err-cell.ensures in
    rw (p.1, p.2) (ends (λ front. cell_at c.args.total c.args.cells (least_behind front)) c.in_err-cell.field-0.0 c.args.count c.loop.counter c.loop.sweep.items c.loop.rest.now _ c.loop-test.true here c.loop.invariant.so_far)

pub loop-preserved : goal.loop-preserved
loop-preserved c =
    let here = rw c.loop.invariant.least at c.in_ok-cell.ensures in
    let last = least_push c.loop.sweep.items c.in_ok-cell.cell in
    let pushed = ap least_behind c.in_ok-push.ensures.items in
    let longer = ap length c.in_ok-push.ensures.items in
    record {
      so_far = goes_on (λ front. cell_at c.args.total c.args.cells (least_behind front)) c.args.count c.loop.counter c.loop.sweep.items c.push.new.self.items c.loop.rest.now c.in_ok-cell.after.now c.in_ok-cell.cell _ c.loop-test.true here c.in_ok-push.ensures.items c.loop.invariant.so_far;
      least = omega (arith, last, pushed);
      counted = omega (arith, longer, length-append {A = ℕ}, c.loop.invariant.counted);
    }

pub returns-clause-exact : goal.returns-clause-exact
returns-clause-exact c = is_done (λ front. cell_at c.args.total c.args.cells (least_behind front)) c.args.count c.loop.counter c.loop.sweep.items c.loop.rest.now _ c.loop-test.false c.loop.invariant.so_far
