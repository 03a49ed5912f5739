-- A motion is halved at most 20 times.
use Rattle.std.proofs.Common.{◌-◌}
use Rattle.drm_sweep.proofs.sweeper.Sweeper.+take_first_leaves.Given as goal

abbrev pub decreases-take_first_leaves : goal.decreases-take_first_leaves
decreases-take_first_leaves l = 20 - l.piece.now.depth
