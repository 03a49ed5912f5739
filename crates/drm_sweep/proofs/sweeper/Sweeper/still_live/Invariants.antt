-- Of the links before the current one, those that a cell is near are live.
use Rattle.std.proofs.Common.{◌≡◌, length}
use Rattle.drm_sweep.proofs.LiveLemmas.{AreLiveBelow}
use Rattle.drm_sweep.proofs.sweeper.Sweeper.still_live.Given as goal

abbrev pub invariant-loop-k : goal.invariant-loop-k
invariant-loop-k l = (length l.still ≡ 6) × AreLiveBelow l.self.grid.now l.self.arm.now l.pose l.self.pad l.k l.still l.cells
