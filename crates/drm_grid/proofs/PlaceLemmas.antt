-- A point that is no farther from the base than the grid's edge lies in a cell.
use Rattle.std.proofs.Common.{◌≡◌, ℕ, zero, suc, ◌+◌, ◌-◌, ◌*◌, ◌/◌, ◌<◌, ◌≤◌, ℤ, pos, neg_ℤ, ◌+ℤ◌, ◌-ℤ◌, ◌*ℤ◌, ◌≤ℤ◌, ◌<ℤ◌, refl, sym, ap, subst, ◌∙◌, [], ◌∷◌, arith}
use Rattle.std.proofs.lemmas.Int.{ints, by_lt_z}
use Rattle.std.proofs.lemmas.Nat.{div-add-mod'}
use Rattle.drm_num.proofs.Integers.{along, trans, keeps_right, le_of_lt_z, product_not_negative, negated_left, negates}
use Rattle.drm_num.proofs.Ring.{Var, Prod, Neg, ring}
use Rattle.drm_grid.specs.Layout.{Layout, IsGrid, line_at}
use Rattle.drm_grid.specs.Laws.{IsInSomeCell}
use Rattle.drm_grid.proofs.NearLemmas.{gap_below, gap_below_second, cell_at}

-- of numbers of which the first is not above x and the last is not below it, there are two in turn that hold x
step_at : (f : ℕ → ℤ) (k : ℕ) (x : ℤ) → f 0 ≤ℤ x → x ≤ℤ f (k + 1) → (j : ℕ) × (j < k + 1) × (f j ≤ℤ x) × (x ≤ℤ f (j + 1))
step_at f zero x low high = (0, omega arith, low, high)
step_at f (suc k) x low high =
    let next : k + 1 ≡ suc k = omega arith in
    by_lt_z x (f (k + 1))
    (λ below. let (j, small, from, to) = step_at f k x low (le_of_lt_z below) in (j, omega arith, from, to))
    (λ above. (suc k, omega arith, subst (λ (i : ℕ). f i ≤ℤ x) next above, high))

turned_square : (x : ℤ) → neg_ℤ x *ℤ neg_ℤ x ≡ x *ℤ x
turned_square x = let u = Var 0 in ring (x ∷ []) (Prod (Neg u) (Neg u)) (Prod u u) refl

-- neither number is farther from 0 than the root of the sum of their squares
low_end : (x y r : ℤ) → pos 0 ≤ℤ r → ((x *ℤ x) +ℤ (y *ℤ y)) ≤ℤ (r *ℤ r) → neg_ℤ r ≤ℤ x
low_end x y r r_up within =
    let turned : neg_ℤ x ≤ℤ r = gap_below (neg_ℤ x) y r r_up (along (ap (λ (s : ℤ). s +ℤ (y *ℤ y)) (sym (turned_square x))) refl within) in
    omega (arith, ints)

low_end_second : (x y r : ℤ) → pos 0 ≤ℤ r → ((x *ℤ x) +ℤ (y *ℤ y)) ≤ℤ (r *ℤ r) → neg_ℤ r ≤ℤ y
low_end_second x y r r_up within =
    let turned : neg_ℤ y ≤ℤ r = gap_below_second x (neg_ℤ y) r r_up (along (ap (λ (s : ℤ). (x *ℤ x) +ℤ s) (sym (turned_square y))) refl within) in
    omega (arith, ints)

-- the first line and the last one are equally far from the base
first_line : (grid : Layout) → line_at grid 0 ≡ neg_ℤ (pos (grid.side * (grid.n / 2)))
first_line grid =
    let half = grid.n / 2 in
    let none : pos 0 -ℤ pos half ≡ neg_ℤ (pos half) = omega (arith, ints) in
    let other : half * grid.side ≡ grid.side * half = omega arith in
    let product : neg_ℤ (pos half *ℤ pos grid.side) ≡ neg_ℤ (pos (grid.side * half)) = ap (λ (m : ℕ). neg_ℤ (pos m)) other in
    subst (λ (z : ℤ). z *ℤ pos grid.side ≡ neg_ℤ (pos (grid.side * half))) (sym none) (negated_left (pos half) (pos grid.side) ∙ product)

last_line : (grid : Layout) → IsGrid grid → line_at grid grid.n ≡ pos (grid.side * (grid.n / 2))
last_line grid is_grid =
    let half = grid.n / 2 in
    let whole = div-add-mod' grid.n 2 in
    let even = is_grid.n.even in
    let twice : pos grid.n -ℤ pos half ≡ pos half = omega (arith, ints) in
    let other : half * grid.side ≡ grid.side * half = omega arith in
    let product : pos half *ℤ pos grid.side ≡ pos (grid.side * half) = ap (λ (m : ℕ). pos m) other in
    subst (λ (z : ℤ). z *ℤ pos grid.side ≡ pos (grid.side * half)) (sym twice) product

-- a coordinate within the grid is between two lines
strip_of : (grid : Layout) (far : ℕ) (x d : ℤ) → IsGrid grid → far ≤ grid.side * (grid.n / 2) → pos 0 <ℤ d
    → neg_ℤ (pos far *ℤ d) ≤ℤ x → x ≤ℤ (pos far *ℤ d)
    → (j : ℕ) × (j < grid.n) × ((line_at grid j *ℤ d) ≤ℤ x) × (x ≤ℤ (line_at grid (j + 1) *ℤ d))
strip_of grid far x d is_grid within d_up low high =
    let edge = grid.side * (grid.n / 2) in
    let d_not_below : pos 0 ≤ℤ d = le_of_lt_z d_up in
    let smaller : pos far ≤ℤ pos edge = omega (arith, ints) in
    let inside : (pos far *ℤ d) ≤ℤ (pos edge *ℤ d) = keeps_right d d_not_below smaller in
    let start : (line_at grid 0 *ℤ d) ≤ℤ x =
    subst (λ (z : ℤ). (z *ℤ d) ≤ℤ x) (sym (first_line grid)) (along (sym (negated_left (pos edge) d)) refl (trans (negates inside) low)) in
    let least = is_grid.n.least in
    let last : grid.n - 1 + 1 ≡ grid.n = omega arith in
    let end : x ≤ℤ (line_at grid grid.n *ℤ d) = subst (λ (z : ℤ). x ≤ℤ (z *ℤ d)) (sym (last_line grid is_grid)) (trans high inside) in
    let (j, small, from, to) = step_at (λ (k : ℕ). line_at grid k *ℤ d) (grid.n - 1) x start (subst (λ (k : ℕ). x ≤ℤ (line_at grid k *ℤ d)) (sym last) end) in
    (j, omega arith, from, to)

pub in_some_cell : (grid : Layout) (far : ℕ) (x y d : ℤ) → IsGrid grid → far ≤ grid.side * (grid.n / 2) → pos 0 <ℤ d
    → ((x *ℤ x) +ℤ (y *ℤ y)) ≤ℤ ((pos far *ℤ d) *ℤ (pos far *ℤ d)) → IsInSomeCell grid x y d
in_some_cell grid far x y d is_grid within d_up near =
    let far_up : pos 0 ≤ℤ pos far = omega (arith, ints) in
    let r_up : pos 0 ≤ℤ (pos far *ℤ d) = product_not_negative far_up (le_of_lt_z d_up) in
    let (j, in_columns, left, right) = strip_of grid far x d is_grid within d_up (low_end x y (pos far *ℤ d) r_up near) (gap_below x y (pos far *ℤ d) r_up near) in
    let (i, in_rows, bottom, top) = strip_of grid far y d is_grid within d_up (low_end_second x y (pos far *ℤ d) r_up near) (gap_below_second x y (pos far *ℤ d) r_up near) in
    let at = cell_at grid i j in_rows in_columns in
    record {
      cell = i * grid.n + j;
      in_grid = at.in_grid;
      inside = record {
        left = subst (λ (k : ℕ). (line_at grid k *ℤ d) ≤ℤ x) (sym at.column) left;
        right = subst (λ (k : ℕ). x ≤ℤ (line_at grid (k + 1) *ℤ d)) (sym at.column) right;
        bottom = subst (λ (k : ℕ). (line_at grid k *ℤ d) ≤ℤ y) (sym at.row) bottom;
        top = subst (λ (k : ℕ). y ≤ℤ (line_at grid (k + 1) *ℤ d)) (sym at.row) top;
      };
    }
