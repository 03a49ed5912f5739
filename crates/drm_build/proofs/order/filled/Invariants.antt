-- The sets so far are right, and so are those that are left in the slots.
use Rattle.std.proofs.Common.{◌≡◌, ◌<◌, [], length}
use Rattle.std.specs.Prelude.{ℕ, slice_index_or}
use Rattle.drm_build.specs.Sets.{IsSetAt}
use Rattle.drm_build.specs.Found.{AreSlotsOf}
use Rattle.drm_build.proofs.order.filled.Given as goal

abbrev pub invariant-loop-place : goal.invariant-loop-place
invariant-loop-place l =
    AreSlotsOf l.fn.robot l.fn.road l.left.items
    × (length l.sets.items ≡ l.place)
    × ((k : ℕ) → k < l.place → IsSetAt l.fn.robot l.fn.road k (slice_index_or l.sets.items k []))
