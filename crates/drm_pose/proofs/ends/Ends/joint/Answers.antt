use Rattle.drm_pose.proofs.SpanLemmas.{place_in}
use Rattle.drm_pose.proofs.ends.Ends.joint.Goals as goal

pub returns : goal.returns
returns c = place_in c.self.inside.joints c.self.inside.count c.args.self.now c.args.k c.index-self-k.result c.self.view_is c.requires
