-- The corners so far are ends of the side, or on its left.
use Rattle.std.proofs.Common.{◌≡◌, ℕ, ◌<◌, true}
use Rattle.drm_shape.specs.Validity.{is_on_left}
use Rattle.drm_shape.proofs.ring.Ring.turns_left.Given as goal

abbrev pub invariant-loop-k : goal.invariant-loop-k
invariant-loop-k l = (j : ℕ) → j < l.k → is_on_left l.self l.i j ≡ true
