-- The sets so far were listed.
use Rattle.std.proofs.Common.{take}
use Rattle.std.specs.List.{AllZip}
use Rattle.drm_grid.specs.CellSet.{AreCells}
use Rattle.drm_build.proofs.sets.lists.Given as goal

abbrev pub invariant-loop-set : goal.invariant-loop-set
invariant-loop-set l = AllZip AreCells (take l.set-index l.sets) l.lists.items
