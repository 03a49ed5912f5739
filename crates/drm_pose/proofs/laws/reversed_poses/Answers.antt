use Rattle.drm_pose.proofs.ReversalLemmas.{reversed_pose}
use Rattle.drm_pose.proofs.laws.reversed_poses.Goals as goal

pub returns : goal.returns
returns c = reversed_pose
