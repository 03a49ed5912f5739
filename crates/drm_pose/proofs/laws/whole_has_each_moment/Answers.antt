use Rattle.drm_pose.proofs.CoverLemmas.{whole}
use Rattle.drm_pose.proofs.laws.whole_has_each_moment.Goals as goal

pub returns : goal.returns
returns c = whole
