use Rattle.drm_pose.proofs.ReachLemmas.{reached_within}
use Rattle.drm_pose.proofs.laws.reached_is_within.Goals as goal

pub returns : goal.returns
returns c = reached_within
