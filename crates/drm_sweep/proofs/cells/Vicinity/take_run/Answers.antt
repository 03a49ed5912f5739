-- The next cell is one of the run, so it is in the row.
use Rattle.std.proofs.Common.{arith}
use Rattle.drm_sweep.proofs.cells.Vicinity.take_run.Goals as goal

pub take_one-requires-clause-in_row : goal.take_one-requires-clause-in_row
take_one-requires-clause-in_row c =
    let from = c.loop-cell.invariant.from in
    let from_next = c.in-Some.ensures.0.from_first in
    c.requires.in_row c.in-Some.cell (omega arith) c.in-Some.ensures.0.before_end
