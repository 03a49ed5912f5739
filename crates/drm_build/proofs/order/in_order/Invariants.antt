-- The hands that are left have found what is right, and so are the sets in the slots.
use Rattle.std.proofs.Common.{All, length}
use Rattle.drm_build.specs.Found.{AreSlotsOf, IsFound}
use Rattle.drm_build.proofs.order.in_order.Given as goal

abbrev pub invariant-loop-hand : goal.invariant-loop-hand
invariant-loop-hand l =
    All (λ hand. All (IsFound l.fn.robot l.fn.road) hand.items) l.left.items
    × AreSlotsOf l.fn.robot l.fn.road l.slots.items

abbrev pub decreases-loop-hand : goal.decreases-loop-hand
decreases-loop-hand l = length l.left.items
