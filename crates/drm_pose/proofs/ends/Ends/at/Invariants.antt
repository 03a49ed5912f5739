-- The tangents of the joints before the current one stand.
use Rattle.std.proofs.Common.{◌≡◌, take}
use Rattle.drm_pose.specs.Boxes.{tangents_at}
use Rattle.drm_pose.proofs.ends.Ends.at.Given as goal

abbrev pub invariant-loop-k : goal.invariant-loop-k
invariant-loop-k l = take l.k l.joints ≡ take l.k (tangents_at l.motion l.depth l.place)
