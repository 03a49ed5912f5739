-- A run gives what its halves give, or nothing where no cell is near its box.
use Rattle.std.proofs.Common.{◌+◌, ◌-◌, ◌/◌, ◌≤◌, arith}
use Rattle.drm_sweep.specs.Runs.{IsNearPiece}
use Rattle.drm_sweep.proofs.PoseLemmas.{runs_taken}
use Rattle.drm_sweep.proofs.pieces.Pieces.+take_run.Goals as goal

pub returns-then-end-first-gt-LONG_RUN : goal.returns-then-end-first-gt-LONG_RUN
returns-then-end-first-gt-LONG_RUN t c =
    let of = c.args.self.now in
    let some = c.requires.some in
    let middle = c.args.first + (c.args.end - c.args.first) / 2 in
    let before : c.args.first ≤ middle = omega arith in
    let after : middle ≤ c.args.end = omega arith in
    runs_taken (IsNearPiece of.grid.now of.pose.now of.link of.cut of.far) c.args.first middle c.args.end c.args.cells.now c.take_run.new.cells c.take_run-then-end-first-gt-LONG_RUN.new.cells before after c.take_run.ensures c.take_run-then-end-first-gt-LONG_RUN.ensures
