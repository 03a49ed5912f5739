use Rattle.drm_pose.proofs.InclusionLemmas.{halves_inside}
use Rattle.drm_pose.proofs.laws.halves_are_inside.Goals as goal

pub returns : goal.returns
returns c = halves_inside c.turns_keep_inclusion.ensures.cosines c.turns_keep_inclusion.ensures.sines
