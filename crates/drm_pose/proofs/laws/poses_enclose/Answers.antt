use Rattle.drm_pose.proofs.EnclosureLemmas.{poses_enclose}
use Rattle.drm_pose.proofs.laws.poses_enclose.Goals as goal

pub returns : goal.returns
returns c = poses_enclose
