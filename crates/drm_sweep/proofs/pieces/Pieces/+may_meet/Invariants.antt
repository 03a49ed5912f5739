-- A run of pieces gets shorter.
use Rattle.std.proofs.Common.{◌-◌}
use Rattle.drm_sweep.proofs.pieces.Pieces.+may_meet.Given as goal

abbrev pub decreases-may_meet : goal.decreases-may_meet
decreases-may_meet l = l.end - l.first
