use Rattle.drm_pose.proofs.LeafLemmas.{parts_narrow}
use Rattle.drm_pose.proofs.laws.parts_of_leaves_are_narrow.Goals as goal

pub returns : goal.returns
returns c = parts_narrow
