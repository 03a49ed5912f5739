-- The sides so far turn left.
use Rattle.std.proofs.Common.{◌≡◌, ℕ, ◌<◌, true}
use Rattle.drm_shape.specs.Validity.{turns_left}
use Rattle.drm_shape.proofs.ring.Ring.first_bad_side.Given as goal

abbrev pub invariant-loop-i : goal.invariant-loop-i
invariant-loop-i l = (j : ℕ) → j < l.i → turns_left l.self j ≡ true
