-- The bounds are those of the corners so far.
use Rattle.drm_shape.specs.Corners.{corner_at}
use Rattle.drm_foot.specs.Bounds.{IsSpan}
use Rattle.drm_foot.proofs.bounds.Bounds.of_ring.Given as goal

abbrev pub invariant-loop-i : goal.invariant-loop-i
invariant-loop-i l = IsSpan l.i (λ k. (corner_at l.ring k).x) l.bounds.x0 l.bounds.x1 × IsSpan l.i (λ k. (corner_at l.ring k).y) l.bounds.y0 l.bounds.y1
