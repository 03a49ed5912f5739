use Rattle.drm_pose.proofs.SpreadLemmas.{deep_is_leaf}
use Rattle.drm_pose.proofs.laws.deep_poses_are_leaves.Goals as goal

pub returns : goal.returns
returns c = deep_is_leaf
