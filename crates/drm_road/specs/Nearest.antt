-- The nodes nearest to a node, as they are found one by one.
use Rattle.std.specs.Prelude.{◌≡◌, ◌≢◌, ◌⊎◌, ℕ, ◌<◌, ◌≤◌, not, nat_eq, ℤ, List, length, take, count_by, slice_get, Some}
use Rattle.std.specs.List.{range_with_len, insert}
use Rattle.drm_road.specs.declared.pairing.Place.{Place}
use Rattle.drm_road.specs.Pairs.{gap, rank}

-- how many of the first `count` nodes are not node i
abbrev pub others_among : ℕ → ℕ → ℕ
others_among i count = count_by (λ k. not (nat_eq k i)) (range_with_len 0 count)

-- of the first `count` nodes, the list has those that are nearest to node i, the nearest first
pub record AreNearest (nodes : List (List ℤ)) (near i count : ℕ) (best : List Place) : Type 0 where
  pub few : length best ≤ near
  pub placed : (p : ℕ) (place : Place) → slice_get best p ≡ Some place → (place.node < count) × (place.node ≢ i) × (place.far ≡ gap nodes i place.node) × (rank nodes i count place.node ≡ p)
  pub others : (k : ℕ) → k < count → k ≢ i → ((p : ℕ) × (place : Place) × (slice_get best p ≡ Some place) × (place.node ≡ k)) ⊎ (near ≤ rank nodes i count k)
  pub full : (length best ≡ near) ⊎ (length best ≡ others_among i count)

-- the distances do not fall
abbrev pub IsByDistance : List Place → Type 0
IsByDistance best = (p q : ℕ) (e f : Place) → p < q → slice_get best p ≡ Some e → slice_get best q ≡ Some f → e.far ≤ f.far

-- the place stands behind all that are no further, and what is then more than `near` is dropped
pub record Offers (near : ℕ) (before : List Place) (place : Place) (after : List Place) : Type 0 where
  pub at : ℕ
  pub within : at ≤ length before
  pub below : (p : ℕ) (e : Place) → p < at → slice_get before p ≡ Some e → e.far ≤ place.far
  pub above : (p : ℕ) (e : Place) → at ≤ p → slice_get before p ≡ Some e → place.far < e.far
  pub is : after ≡ take near (insert before at place)
