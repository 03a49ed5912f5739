use Rattle.drm_pose.proofs.CoverLemmas.{halves}
use Rattle.drm_pose.proofs.laws.halves_cover.Goals as goal

pub returns : goal.returns
returns c = halves
