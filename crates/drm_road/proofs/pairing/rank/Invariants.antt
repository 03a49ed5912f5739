use Rattle.std.proofs.Common.{◌≡◌, ℕ, ◌<◌, ◌≤◌, length, Some}
use Rattle.std.specs.List.{slice_get}
use Rattle.drm_road.specs.declared.pairing.Place.{Place}
use Rattle.drm_road.proofs.pairing.rank.Given as goal

abbrev pub invariant-loop-at : goal.invariant-loop-at
invariant-loop-at l = (l.at ≤ length l.best) × ((p : ℕ) (e : Place) → l.at ≤ p → slice_get l.best p ≡ Some e → l.far < e.far)

abbrev pub decreases-loop-at : goal.decreases-loop-at
decreases-loop-at l = l.at
