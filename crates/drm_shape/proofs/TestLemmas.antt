-- The tests of the rules of validity say what the rules say.
use Rattle.std.proofs.Common.{◌≡◌, ◌⊎◌, inl, inr, ℕ, zero, suc, ◌+◌, ◌*◌, ◌<◌, ◌≤◌, ℤ, pos, neg_ℤ, ◌<ℤ◌, ◌≤ℤ◌, Bool, true, false, ◌||◌, ◌&&◌, nat_eq, nat_le, int_le, int_lt, List, [], ◌∷◌, refl, arith}
use Rattle.std.specs.List.{All, list_all, range_with_len}
use Rattle.std.proofs.lemmas.Bool.{eqb-true, eq-eqb}
use Rattle.std.proofs.lemmas.Int.{ints}
use Rattle.drm_shape.specs.Limits.{farthest}
use Rattle.drm_shape.specs.Corners.{corner_count, corner_at, next_of, turn}
use Rattle.drm_shape.specs.Validity.{IsCoordinate, is_coordinate, is_on_left, turns_left, HasOthersOnLeft}
use Rattle.drm_shape.proofs.FirstLemmas.{each_of_test, test_of_each}

both : (b c : Bool) → (b && c) ≡ true → (b ≡ true) × (c ≡ true)
both true c h = (refl, h)
both false c h = cc

pub le_means : (a b : ℤ) → int_le a b ≡ true → a ≤ℤ b
le_means a b h = grind (arith, ints)

pub le_is : (a b : ℤ) → a ≤ℤ b → int_le a b ≡ true
le_is a b h = grind (arith, ints)

lt_means : (a b : ℤ) → int_lt a b ≡ true → a <ℤ b
lt_means a b h = grind (arith, ints)

lt_is : (a b : ℤ) → a <ℤ b → int_lt a b ≡ true
lt_is a b h = grind (arith, ints)

within : (low high z : ℤ) → (int_le low z && int_le z high) ≡ true → (low ≤ℤ z) × (z ≤ℤ high)
within low high z h = let each = both (int_le low z) (int_le z high) h in (le_means low z each.0, le_means z high each.1)

is_within : (low high z : ℤ) → low ≤ℤ z → z ≤ℤ high → (int_le low z && int_le z high) ≡ true
is_within low high z above below = rw (le_is low z above, le_is z high below) refl

pub coordinate : (z : ℤ) → is_coordinate z ≡ true → IsCoordinate z
coordinate z h = let ends = within (neg_ℤ farthest) farthest z h in record { above = ends.0; below = ends.1 }

pub is_one : (z : ℤ) → IsCoordinate z → is_coordinate z ≡ true
is_one z h = is_within (neg_ℤ farthest) farthest z h.above h.below

-- all numbers of a list
pub all_in : (xs : List ℤ) → list_all is_coordinate xs ≡ true → All IsCoordinate xs
all_in [] h k d below = absurd (omega arith)
all_in (x ∷ xs) h zero d below = coordinate x (both (is_coordinate x) (list_all is_coordinate xs) h).0
all_in (x ∷ xs) h (suc k) d below = all_in xs (both (is_coordinate x) (list_all is_coordinate xs) h).1 k d (omega arith)

pub in_all : (xs : List ℤ) → All IsCoordinate xs → list_all is_coordinate xs ≡ true
in_all [] h = refl
in_all (x ∷ xs) h = rw (is_one x (h 0 x (omega arith))) (in_all xs (λ k d below. h (suc k) d (omega arith)))

-- a corner is an end of the side, or on its left
left_of : (k i next : ℕ) (z : ℤ) → (nat_eq k i || (nat_eq k next || int_lt (pos 0) z)) ≡ true → (k ≡ i → ⊥) → (k ≡ next → ⊥) → pos 0 <ℤ z
left_of k i next z h other_first other_second = at_first (nat_eq k i) (nat_eq k next) refl refl h
  where
    at_first : (b c : Bool) → nat_eq k i ≡ b → nat_eq k next ≡ c → (b || (c || int_lt (pos 0) z)) ≡ true → pos 0 <ℤ z
    at_first true c first second is = absurd (other_first (eqb-true k i first))
    at_first false true first second is = absurd (other_second (eqb-true k next second))
    at_first false false first second is = lt_means (pos 0) z is

is_left : (k i next : ℕ) (z : ℤ) → ((k ≡ i → ⊥) → (k ≡ next → ⊥) → pos 0 <ℤ z) → (nat_eq k i || (nat_eq k next || int_lt (pos 0) z)) ≡ true
is_left k i next z h = at_first (nat_eq k i) (nat_eq k next) refl refl
  where
    apart : (m : ℕ) → nat_eq k m ≡ false → k ≡ m → ⊥
    apart m e same = let is = eq-eqb k m same in cc

    at_first : (b c : Bool) → nat_eq k i ≡ b → nat_eq k next ≡ c → (b || (c || int_lt (pos 0) z)) ≡ true
    at_first true c first second = refl
    at_first false true first second = refl
    at_first false false first second = lt_is (pos 0) z (h (apart i first) (apart next second))

-- a side has all corners but its own two on its left
pub others_on_left : (ring : List ℤ) (i : ℕ) → turns_left ring i ≡ true → HasOthersOnLeft ring i
others_on_left ring i h k below other_first other_second =
    left_of k i (next_of ring i) (turn (corner_at ring i) (corner_at ring (next_of ring i)) (corner_at ring k))
    (each_of_test (is_on_left ring i) (corner_count ring) h k below) other_first other_second

pub is_left_turn : (ring : List ℤ) (i : ℕ) → HasOthersOnLeft ring i → turns_left ring i ≡ true
is_left_turn ring i h =
    test_of_each (is_on_left ring i) (corner_count ring)
    (λ k below. is_left k i (next_of ring i) (turn (corner_at ring i) (corner_at ring (next_of ring i)) (corner_at ring k)) (λ a b. h k below a b))

-- the coordinates of a corner are among the ring's
pub corner_across : (ring : List ℤ) (i : ℕ) → All IsCoordinate ring → i < corner_count ring → IsCoordinate (corner_at ring i).x
corner_across ring i h below = h (2 * i) (pos 0) (omega arith)

pub corner_up : (ring : List ℤ) (i : ℕ) → All IsCoordinate ring → i < corner_count ring → IsCoordinate (corner_at ring i).y
corner_up ring i h below = h (2 * i + 1) (pos 0) (omega arith)
