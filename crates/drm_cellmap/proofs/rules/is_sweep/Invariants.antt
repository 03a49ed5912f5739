-- The cells so far rise and are below the number of cells.
use Rattle.drm_cellmap.proofs.RuleLoops.{RiseTo}
use Rattle.drm_cellmap.proofs.rules.is_sweep.Given as goal

abbrev pub invariant-loop-cell : goal.invariant-loop-cell
invariant-loop-cell l = RiseTo l.count l.cells l.cell-index l.least
