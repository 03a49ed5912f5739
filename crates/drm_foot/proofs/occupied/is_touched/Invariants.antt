-- No slot so far has the cell in its footprint.
use Rattle.std.proofs.Common.{◌≡◌, ℕ, ◌<◌, Some, get_or}
use Rattle.drm_shape.specs.declared.Shape.{Shape}
use Rattle.drm_foot.specs.Foot.{Foot}
use Rattle.drm_foot.proofs.occupied.is_touched.Given as goal

abbrev pub invariant-loop-slot : goal.invariant-loop-slot
invariant-loop-slot l = (k : ℕ) (shape : Shape) → k < l.slot-index → get_or l.table k (Some shape) ≡ Some shape → Foot l.square.grid shape l.square.cell → ⊥
