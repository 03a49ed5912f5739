-- The set has the cells so far.
use Rattle.std.proofs.Common.{◌≡◌, length}
use Rattle.drm_grid.specs.Layout.{cell_count}
use Rattle.drm_mapfile.proofs.JudgingLemmas.{HasFirst}
use Rattle.drm_mapfile.proofs.judging.set_of.Given as goal

abbrev pub invariant-loop-cell : goal.invariant-loop-cell
invariant-loop-cell l = record {
  size : length l.set ≡ cell_count l.grid;
  first : HasFirst l.set l.cells l.cell-index;
}
