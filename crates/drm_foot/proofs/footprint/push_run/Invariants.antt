-- The numbers below the current one are there, and the list has room for those from it on.
use Rattle.std.proofs.Common.{◌+◌, ◌-◌, ◌≤◌, vec_len, vec_capacity}
use Rattle.drm_foot.specs.Block.{AddsRun}
use Rattle.drm_foot.proofs.footprint.push_run.Given as goal

abbrev pub invariant-loop-cell : goal.invariant-loop-cell
invariant-loop-cell l = AddsRun l.initial.cells.items l.cells.items l.first l.cell × (vec_len l.cells + (l.end - l.cell) ≤ vec_capacity l.cells)
