-- A motion is halved at most 20 times.
use Rattle.std.proofs.Common.{◌-◌}
use Rattle.drm_sweep.proofs.sweeper.Sweeper.+take_piece.Given as goal

abbrev pub decreases-take_piece : goal.decreases-take_piece
decreases-take_piece l = 20 - l.piece.now.depth
