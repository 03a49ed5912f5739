-- A side of a ring has a box wholly beyond it where its fall over the columns is above its lift over the rows.
use Rattle.std.proofs.Common.{FitsSigned, w64, true, false, ◌≡◌, ◌↔◌, inl, inr, ℕ, ◌+◌, ◌*◌, ◌<◌, subst, refl, sym, ap, ◌∙◌, arith}
use Rattle.std.specs.Prelude.{ℤ, pos, neg_ℤ, ◌+ℤ◌, ◌-ℤ◌, ◌*ℤ◌, ◌≤ℤ◌, ◌<ℤ◌, List, [], ◌∷◌}
use Rattle.std.specs.Int.{int_min, int_max}
use Rattle.std.proofs.lemmas.Bool.{cases_lt}
use Rattle.std.proofs.lemmas.Int.{ints, clamps}
use lib.Signed.{lt_z, le_z}
use Rattle.drm_num.specs.Quotient.{IsFloor}
use Rattle.drm_num.proofs.Integers.{along, trans, keeps, turns, comm, not_above, zero_times}
use Rattle.drm_num.proofs.Ring.{ring, Var, Sum, Prod, Neg}
use Rattle.drm_grid.specs.Layout.{Layout, line_at, row_of, column_of}
use Rattle.std.specs.List.{All}
use Rattle.drm_num.specs.Small.{IsSmall}
use Rattle.drm_shape.specs.Corners.{Corner, corner_count, corner_at}
use Rattle.drm_shape.specs.Validity.{IsCoordinate}
use Rattle.drm_foot.specs.Separation.{HasCellOnRight}
use Rattle.drm_foot.specs.Sides.{side_from, side_at, IsSmallSide, lift, fall}

-- the least of two numbers is at most the greatest of two others where not each of those is below each of these
not_all_below : (p1 p2 q1 q2 : ℤ)
    → ((p1 -ℤ q1) <ℤ pos 0 → (p1 -ℤ q2) <ℤ pos 0 → (p2 -ℤ q1) <ℤ pos 0 → (p2 -ℤ q2) <ℤ pos 0 → ⊥) → int_min q1 q2 ≤ℤ int_max p1 p2
not_all_below p1 p2 q1 q2 h =
    not_above (λ (less : int_max p1 p2 <ℤ int_min q1 q2). h (omega (arith, ints, clamps)) (omega (arith, ints, clamps)) (omega (arith, ints, clamps)) (omega (arith, ints, clamps)))

all_below : (p1 p2 q1 q2 : ℤ) → int_min q1 q2 ≤ℤ int_max p1 p2
    → (p1 -ℤ q1) <ℤ pos 0 → (p1 -ℤ q2) <ℤ pos 0 → (p2 -ℤ q1) <ℤ pos 0 → (p2 -ℤ q2) <ℤ pos 0 → ⊥
all_below p1 p2 q1 q2 least a b c d = absurd (omega (arith, ints, clamps))

-- the cell is not wholly on the right of the side exactly where the side reaches it
pub reached_or_right : (grid : Layout) (ring : List ℤ) (cell i : ℕ)
    → (HasCellOnRight grid ring cell i → ⊥) ↔ (fall (side_at ring i) (line_at grid (column_of grid cell)) (line_at grid (column_of grid cell + 1)) ≤ℤ lift (side_at ring i) (line_at grid (row_of grid cell)) (line_at grid (row_of grid cell + 1)))
reached_or_right grid ring cell i =
    let side = side_at ring i in
    let left = line_at grid (column_of grid cell) in
    let right = line_at grid (column_of grid cell + 1) in
    let bottom = line_at grid (row_of grid cell) in
    let top = line_at grid (row_of grid cell + 1) in (
      λ never. not_all_below (side.dx *ℤ (bottom -ℤ side.y)) (side.dx *ℤ (top -ℤ side.y)) (side.dy *ℤ (left -ℤ side.x)) (side.dy *ℤ (right -ℤ side.x))
          (λ a b c d. never (record { low_left = a; low_right = b; high_left = c; high_right = d })),
      λ least on_right. all_below (side.dx *ℤ (bottom -ℤ side.y)) (side.dx *ℤ (top -ℤ side.y)) (side.dy *ℤ (left -ℤ side.x)) (side.dy *ℤ (right -ℤ side.x))
          least on_right.low_left on_right.low_right on_right.high_left on_right.high_right,
    )

-- for a side that goes up, the left end of an interval decides
pub rising : (x dy left right up q : ℤ) → pos 0 <ℤ dy → left ≤ℤ right → IsFloor up dy q
    → (int_min (dy *ℤ (left -ℤ x)) (dy *ℤ (right -ℤ x)) ≤ℤ up) ↔ (left ≤ℤ (x +ℤ q))
rising x dy left right up q positive order quotient =
    let up_or_flat : pos 0 ≤ℤ dy = omega (arith, ints) in
    let shifted : (left -ℤ x) ≤ℤ (right -ℤ x) = omega (arith, ints) in
    let first : (dy *ℤ (left -ℤ x)) ≤ℤ (dy *ℤ (right -ℤ x)) = keeps dy up_or_flat shifted in (
      λ least. not_above (λ (less : (x +ℤ q) <ℤ left).
          let small : (dy *ℤ (left -ℤ x)) ≤ℤ up = omega (arith, ints, clamps) in
          let over : (q +ℤ pos 1) ≤ℤ (left -ℤ x) = omega (arith, ints) in
          let product : (dy *ℤ (q +ℤ pos 1)) ≤ℤ (dy *ℤ (left -ℤ x)) = keeps dy up_or_flat over in
          absurd (omega (arith, ints, comm dy (q +ℤ pos 1), product, small, quotient.next_is_above))),
      λ most.
          let under : (left -ℤ x) ≤ℤ q = omega (arith, ints) in
          let product : (dy *ℤ (left -ℤ x)) ≤ℤ (dy *ℤ q) = keeps dy up_or_flat under in
          let small : (dy *ℤ (left -ℤ x)) ≤ℤ up = trans product (along (comm q dy) refl quotient.at_most) in
          omega (arith, ints, clamps),
    )

-- the product of two differences, both turned round
turned : (dy right x : ℤ) → dy *ℤ (right -ℤ x) ≡ neg_ℤ dy *ℤ (x -ℤ right)
turned dy right x =
    let d = Var 0 in
    let r = Var 1 in
    let z = Var 2 in
    ring (dy ∷ right ∷ x ∷ []) (Prod d (Sum r (Neg z))) (Prod (Neg d) (Sum z (Neg r))) refl

-- for a side that goes down, the right end decides
pub falling : (x dy left right up q : ℤ) → dy <ℤ pos 0 → left ≤ℤ right → IsFloor up (neg_ℤ dy) q
    → (int_min (dy *ℤ (left -ℤ x)) (dy *ℤ (right -ℤ x)) ≤ℤ up) ↔ ((x -ℤ q) ≤ℤ right)
falling x dy left right up q negative order quotient =
    let down : dy ≤ℤ pos 0 = omega (arith, ints) in
    let positive : pos 0 ≤ℤ neg_ℤ dy = omega (arith, ints) in
    let shifted : (left -ℤ x) ≤ℤ (right -ℤ x) = omega (arith, ints) in
    let first : (dy *ℤ (right -ℤ x)) ≤ℤ (dy *ℤ (left -ℤ x)) = turns dy down shifted in
    let same = turned dy right x in (
      λ least. not_above (λ (less : right <ℤ (x -ℤ q)).
          let small : (dy *ℤ (right -ℤ x)) ≤ℤ up = omega (arith, ints, clamps) in
          let over : (q +ℤ pos 1) ≤ℤ (x -ℤ right) = omega (arith, ints) in
          let product : (neg_ℤ dy *ℤ (q +ℤ pos 1)) ≤ℤ (neg_ℤ dy *ℤ (x -ℤ right)) = keeps (neg_ℤ dy) positive over in
          absurd (omega (arith, ints, comm (neg_ℤ dy) (q +ℤ pos 1), product, small, same, quotient.next_is_above))),
      λ most.
          let under : (x -ℤ right) ≤ℤ q = omega (arith, ints) in
          let product : (neg_ℤ dy *ℤ (x -ℤ right)) ≤ℤ (neg_ℤ dy *ℤ q) = keeps (neg_ℤ dy) positive under in
          let small : (dy *ℤ (right -ℤ x)) ≤ℤ up = along (sym same) refl (trans product (along (comm q (neg_ℤ dy)) refl quotient.at_most)) in
          omega (arith, ints, clamps),
    )

-- for a level side, the sign of the lift decides
pub level : (x dy left right up : ℤ) → dy ≡ pos 0 → (int_min (dy *ℤ (left -ℤ x)) (dy *ℤ (right -ℤ x)) ≤ℤ up) ↔ (pos 0 ≤ℤ up)
level x dy left right up flat =
    let a : dy *ℤ (left -ℤ x) ≡ pos 0 = ap (λ (z : ℤ). z *ℤ (left -ℤ x)) flat ∙ zero_times (left -ℤ x) in
    let b : dy *ℤ (right -ℤ x) ≡ pos 0 = ap (λ (z : ℤ). z *ℤ (right -ℤ x)) flat ∙ zero_times (right -ℤ x) in
    (λ h. omega (arith, ints, clamps), λ h. omega (arith, ints, clamps))

-- a span that is cut off on the right, on the left, or everywhere
pub cut_right : (low high most left right : ℤ) {P : Type 0} → (P ↔ (left ≤ℤ most))
    → ((low ≤ℤ right) × (left ≤ℤ int_min high most)) ↔ (((low ≤ℤ right) × (left ≤ℤ high)) × P)
cut_right low high most left right says = (
  λ (a, b). ((a, omega (arith, ints, clamps)), says.1 (omega (arith, ints, clamps))),
  λ ((a, b), p). let q = says.0 p in (a, omega (arith, ints, clamps)),
)

pub cut_left : (low high least left right : ℤ) {P : Type 0} → (P ↔ (least ≤ℤ right))
    → ((int_max low least ≤ℤ right) × (left ≤ℤ high)) ↔ (((low ≤ℤ right) × (left ≤ℤ high)) × P)
cut_left low high least left right says = (
  λ (a, b). ((omega (arith, ints, clamps), b), says.1 (omega (arith, ints, clamps))),
  λ ((a, b), p). let q = says.0 p in (omega (arith, ints, clamps), b),
)

pub cut_all : (low high left right up : ℤ) {P : Type 0} → neg_ℤ (pos 65536) ≤ℤ left → up <ℤ pos 0 → (P ↔ (pos 0 ≤ℤ up))
    → ((low ≤ℤ right) × (left ≤ℤ int_min high (neg_ℤ (pos 65537)))) ↔ (((low ≤ℤ right) × (left ≤ℤ high)) × P)
cut_all low high left right up line below says = (
  λ (a, b). absurd (omega (arith, ints, clamps)),
  λ ((a, b), p). let q = says.0 p in absurd (omega (arith, ints)),
)

pub cut_none : (low high left right up : ℤ) {P : Type 0} → pos 0 ≤ℤ up → (P ↔ (pos 0 ≤ℤ up))
    → ((low ≤ℤ right) × (left ≤ℤ high)) ↔ (((low ≤ℤ right) × (left ≤ℤ high)) × P)
cut_none low high left right up above says = (λ both. (both, says.1 above), λ both. both.0)

-- a corner of a ring within the limits
pub corner_small : (ring : List ℤ) (i : ℕ) → All IsCoordinate ring → i < corner_count ring → IsSmall (pos 65536) (corner_at ring i).x × IsSmall (pos 65536) (corner_at ring i).y
corner_small ring i range below =
    let across = range (2 * i) (pos 0) (omega arith) in
    let up = range (2 * i + 1) (pos 0) (omega arith) in
    (record { low = across.above; high = across.below }, record { low = up.above; high = up.below })

pub side_made : (a b : Corner) (x y dx dy : ℤ) → x ≡ a.x → y ≡ a.y → dx ≡ b.x -ℤ a.x → dy ≡ b.y -ℤ a.y → (record { x = x; y = y; dx = dx; dy = dy }) ≡ side_from a b
side_made a b x y dx dy is_x is_y is_dx is_dy = rw (is_x, is_y, is_dx, is_dy) refl

pub side_small : (a b : Corner) → IsSmall (pos 65536) a.x → IsSmall (pos 65536) a.y → IsSmall (pos 65536) b.x → IsSmall (pos 65536) b.y → IsSmallSide (side_from a b)
side_small a b ax ay bx by = record { x = ax; y = ay; dx = between a.x b.x ax bx; dy = between a.y b.y ay by }
  where
    between : (z w : ℤ) → IsSmall (pos 65536) z → IsSmall (pos 65536) w → IsSmall (pos 131072) (w -ℤ z)
    between z w h k = let a0 = h.low in let a1 = h.high in let b0 = k.low in let b1 = k.high in record { low = omega (arith, ints); high = omega (arith, ints) }

pub difference_fits : (z w : ℤ) → IsSmall (pos 65536) z → IsSmall (pos 65536) w → FitsSigned w64 (w -ℤ z)
difference_fits z w h k = let a0 = h.low in let a1 = h.high in let b0 = k.low in let b1 = k.high in omega (arith, ints)

-- such numbers fit the machine's
pub fits_corner : (z : ℤ) → IsSmall (pos 65536) z → FitsSigned w64 z
fits_corner z h = let low = h.low in let high = h.high in omega (arith, ints)

pub fits_way : (z : ℤ) → IsSmall (pos 131072) z → FitsSigned w64 z
fits_way z h = let low = h.low in let high = h.high in omega (arith, ints)

pub fits_opposite : (z : ℤ) → IsSmall (pos 131072) z → FitsSigned w64 (pos 0 -ℤ z)
fits_opposite z h = let low = h.low in let high = h.high in omega (arith, ints)

pub fits_product : (z : ℤ) → IsSmall (pos 17179869184) z → FitsSigned w64 z
fits_product z h = let low = h.low in let high = h.high in omega (arith, ints)

pub sum_fits : (x q : ℤ) → IsSmall (pos 65536) x → IsSmall (pos 17179869184) q → FitsSigned w64 (x +ℤ q)
sum_fits x q h k = let a = h.low in let b = h.high in let d = k.low in let e = k.high in omega (arith, ints)

pub rest_fits : (x q : ℤ) → IsSmall (pos 65536) x → IsSmall (pos 17179869184) q → FitsSigned w64 (x -ℤ q)
rest_fits x q h k = let a = h.low in let b = h.high in let d = k.low in let e = k.high in omega (arith, ints)

-- what the comparisons of the program say
pub lt_from_test : (a b : ℤ) → lt_z a b ≡ true → a <ℤ b
lt_from_test a b test = grind (arith, ints)

pub not_lt_from_test : (a b : ℤ) → lt_z a b ≡ false → b ≤ℤ a
not_lt_from_test a b test = grind (arith, ints)

-- what all sides so far and one more say
pub one_more_side : (n : ℕ) (P : ℕ → Type 0) {A B C : Type 0} → (B ↔ (A × ((k : ℕ) → k < n → P k))) → (C ↔ (B × P n)) → C ↔ (A × ((k : ℕ) → k < n + 1 → P k))
one_more_side n P so_far now = (
  λ c. let both = now.0 c in let before = so_far.0 both.0 in (
    before.0,
    λ k below. elim (cases_lt k n) [
      | inl earlier ↦ before.1 k earlier
      | inr last ↦ (let same : n ≡ k = omega arith in subst P same both.1)
    ],
  ),
  λ all. now.1 (so_far.1 (all.0, λ k below. all.1 k (omega arith)), all.1 n (omega arith)),
)

pub opposite_is : (z : ℤ) → pos 0 -ℤ z ≡ neg_ℤ z
opposite_is z = omega (arith, ints)

pub le_from_test : (a b : ℤ) → le_z a b ≡ true → a ≤ℤ b
le_from_test a b test = grind (arith, ints)

pub test_from_le : (a b : ℤ) → a ≤ℤ b → le_z a b ≡ true
test_from_le a b order = grind (arith, ints)
