use Rattle.drm_pose.proofs.CoverLemmas.{part_start}
use Rattle.drm_pose.proofs.laws.part_has_its_start.Goals as goal

pub returns : goal.returns
returns c = part_start
