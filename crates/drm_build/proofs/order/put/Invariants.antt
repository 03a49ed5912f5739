-- Some of the sets were put, and there are slots for the others.
use Rattle.std.proofs.Common.{length}
use Rattle.drm_build.proofs.OrderLemmas.{IsOnTheWay}
use Rattle.drm_build.proofs.order.put.Given as goal

abbrev pub invariant-loop-found : goal.invariant-loop-found
invariant-loop-found l = IsOnTheWay l.fn.hand.items l.left.items l.fn.slots l.slots

abbrev pub decreases-loop-found : goal.decreases-loop-found
decreases-loop-found l = length l.left.items
