use Rattle.drm_pose.proofs.EndLemmas.{spans_of}
use Rattle.drm_pose.proofs.LoopLemmas.{SoFar}
use Rattle.drm_pose.proofs.enclosure.enclose_between.Given as goal

abbrev pub invariant-loop-k : goal.invariant-loop-k
invariant-loop-k l = SoFar l.arm (spans_of l.arm l.start l.end) l.k l.direction l.tip l.links
