use Rattle.drm_pose.proofs.CoverLemmas.{parts}
use Rattle.drm_pose.proofs.laws.parts_cover.Goals as goal

pub returns : goal.returns
returns c = parts
