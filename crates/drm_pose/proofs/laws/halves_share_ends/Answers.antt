use Rattle.drm_pose.proofs.EndLemmas.{halves_share}
use Rattle.drm_pose.proofs.laws.halves_share_ends.Goals as goal

pub returns : goal.returns
returns c = halves_share
