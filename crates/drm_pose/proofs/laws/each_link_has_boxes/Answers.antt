use Rattle.drm_pose.proofs.EnclosureLemmas.{each_has_boxes}
use Rattle.drm_pose.proofs.laws.each_link_has_boxes.Goals as goal

pub returns : goal.returns
returns c = each_has_boxes
