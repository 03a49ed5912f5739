use Rattle.std.proofs.Common.{subst}
use Rattle.drm_pose.specs.Widths.{IsPose}
use Rattle.drm_pose.proofs.SpanLemmas.{place_in}
use Rattle.drm_pose.proofs.WidthLemmas.{pose_at}
use Rattle.drm_pose.proofs.enclosure.Pose.boxes_of.Goals as goal

pub returns-clause-place : goal.returns-clause-place
returns-clause-place c = place_in c.self.inside.links c.self.inside.count c.args.self.now c.args.link c.index-self-link.result c.self.view_is c.requires

pub returns-clause-limits : goal.returns-clause-limits
returns-clause-limits c = pose_at c.args.self.now c.args.link _ (subst IsPose c.self.view_is c.self.invariant.1) (returns-clause-place c)
