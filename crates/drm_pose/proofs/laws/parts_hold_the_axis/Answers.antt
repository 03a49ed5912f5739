use Rattle.drm_pose.proofs.PieceLemmas.{parts_hold_the_axis}
use Rattle.drm_pose.proofs.laws.parts_hold_the_axis.Goals as goal

pub returns : goal.returns
returns c = parts_hold_the_axis
