-- A run of pieces gets shorter.
use Rattle.std.proofs.Common.{◌-◌}
use Rattle.drm_sweep.proofs.pieces.Pieces.+take_run.Given as goal

abbrev pub decreases-take_run : goal.decreases-take_run
decreases-take_run l = l.end - l.first
