use Rattle.std.proofs.Common.{◌≡◌, take}
use Rattle.drm_pose.specs.Boxes.{spread_of}
use Rattle.drm_pose.proofs.enclosure.widest.Given as goal

abbrev pub invariant-loop-link : goal.invariant-loop-link
invariant-loop-link l = l.most ≡ spread_of (take l.link-index l.links)
