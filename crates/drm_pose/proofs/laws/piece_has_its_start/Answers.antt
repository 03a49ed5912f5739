use Rattle.drm_pose.proofs.CoverLemmas.{piece_start}
use Rattle.drm_pose.proofs.laws.piece_has_its_start.Goals as goal

pub returns : goal.returns
returns c = piece_start
