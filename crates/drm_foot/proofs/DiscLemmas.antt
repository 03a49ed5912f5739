-- A disc and a closed cell share a point exactly where the cell's point that is nearest to the centre is in the disc.
use Rattle.std.proofs.Common.{◌≡◌, ◌↔◌, ◌⊎◌, inl, inr, ℕ, ◌+◌, ◌*◌, ◌<◌, ◌≤◌, refl, ap, ap₂, sym, ◌∙◌, arith}
use Rattle.std.specs.Prelude.{ℤ, pos, neg_ℤ, ◌+ℤ◌, ◌-ℤ◌, ◌*ℤ◌, ◌≤ℤ◌, ◌<ℤ◌}
use Rattle.std.specs.Int.{int_max, int_min}
use Rattle.std.proofs.lemmas.Int.{ints, clamps}
use Rattle.drm_num.proofs.Integers.{along, cancels, comm, swap_middle, distrib, distrib_right, negated_left, negated_right, times_one, zero_times, trans, sums, not_above, product_not_negative, square_not_negative, sign, product_above_zero, max_is}
use Rattle.drm_num.proofs.Distances.{squares_order, root_order}
use Rattle.drm_grid.specs.Layout.{Layout, cell_count, line_at, row_of, column_of}
use Rattle.drm_grid.specs.Strips.{MeetsStrip}
use Rattle.drm_grid.proofs.StripLemmas.{line_at-next}
use Rattle.drm_shape.specs.declared.Shape.TheVariants.{Disc}
use Rattle.drm_foot.specs.Foot.{SharesPoint}
use Rattle.drm_foot.specs.Gap.{gap}

-- the squares of a number and of its opposite are the same
opposite : (z : ℤ) → neg_ℤ z *ℤ neg_ℤ z ≡ z *ℤ z
opposite z = negated_left z (neg_ℤ z) ∙ (ap neg_ℤ (negated_right z z) ∙ twice (z *ℤ z))
  where
    twice : (w : ℤ) → neg_ℤ (neg_ℤ w) ≡ w
    twice w = omega (arith, ints)

-- a number between 0 and another's size has the lesser square
lesser_square : (g z : ℤ) → pos 0 ≤ℤ g → (g ≤ℤ z) ⊎ (g ≤ℤ neg_ℤ z) → (g *ℤ g) ≤ℤ (z *ℤ z)
lesser_square g z low (inl up) = squares_order low up
lesser_square g z low (inr down) = let order = squares_order low down in along refl (opposite z) order

-- the gap is one of three numbers
gap_not_negative : (at low high : ℤ) → pos 0 ≤ℤ gap at low high
gap_not_negative at low high = omega (arith, ints, clamps)

-- z is the number of the interval that is nearest to `at`
record IsNearest (at low high z : ℤ) : Type 0 where
  from_low : (low *ℤ pos 1) ≤ℤ z
  to_high : z ≤ℤ (high *ℤ pos 1)
  square : ((z -ℤ (at *ℤ pos 1)) *ℤ (z -ℤ (at *ℤ pos 1))) ≡ (gap at low high *ℤ gap at low high)

square_of : (a g : ℤ) → (a ≡ g) ⊎ (a ≡ neg_ℤ g) → a *ℤ a ≡ g *ℤ g
square_of a g (inl same) = ap₂ (λ (p : ℤ) (q : ℤ). p *ℤ q) same same
square_of a g (inr other) = ap₂ (λ (p : ℤ) (q : ℤ). p *ℤ q) other other ∙ opposite g

near_point : (at low high : ℤ) → low ≤ℤ high → IsNearest at low high (int_max low (int_min at high))
near_point at low high order =
    let z = int_max low (int_min at high) in
    let either : ((z -ℤ (at *ℤ pos 1)) ≡ gap at low high) ⊎ ((z -ℤ (at *ℤ pos 1)) ≡ neg_ℤ (gap at low high)) = elim (sign (z -ℤ (at *ℤ pos 1))) [
      | inl up ↦ inl (omega (arith, ints, clamps))
      | inr down ↦ inr (omega (arith, ints, clamps))
    ] in
    record {
      from_low = omega (arith, ints, clamps);
      to_high = omega (arith, ints, clamps);
      square = square_of (z -ℤ (at *ℤ pos 1)) (gap at low high) either;
    }

-- a point of the interval, as a fraction over d, is no nearer than the gap
no_nearer : (at low high x d : ℤ) → pos 0 <ℤ d → (low *ℤ d) ≤ℤ x → x ≤ℤ (high *ℤ d) → (d *ℤ gap at low high) ≤ℤ (x -ℤ (at *ℤ d)) ⊎ ((d *ℤ gap at low high) ≤ℤ neg_ℤ (x -ℤ (at *ℤ d))) ⊎ (gap at low high ≡ pos 0)
no_nearer at low high x d positive from to = elim (max_is (pos 0) (int_max (low -ℤ at) (at -ℤ high))) [
  | inl none ↦ inr (inr none)
  | inr some ↦ elim (max_is (low -ℤ at) (at -ℤ high)) [
    | inl left ↦ inl (along (sym (ap (λ (z : ℤ). d *ℤ z) (some ∙ left) ∙ spread_left)) refl (omega (arith, ints)))
    | inr right ↦ inr (inl (along (sym (ap (λ (z : ℤ). d *ℤ z) (some ∙ right) ∙ spread_right)) refl (omega (arith, ints))))
  ]
]
  where
    spread : (a b : ℤ) → (a -ℤ b) *ℤ d ≡ (a *ℤ d) -ℤ (b *ℤ d)
    spread a b = distrib_right a (neg_ℤ b) d ∙ ap (λ (z : ℤ). (a *ℤ d) +ℤ z) (negated_left b d)

    spread_left : d *ℤ (low -ℤ at) ≡ (low *ℤ d) -ℤ (at *ℤ d)
    spread_left = comm d (low -ℤ at) ∙ spread low at

    spread_right : d *ℤ (at -ℤ high) ≡ (at *ℤ d) -ℤ (high *ℤ d)
    spread_right = comm d (at -ℤ high) ∙ spread at high

-- so its square, times d², is at most the square of the point's distance
no_nearer_square : (at low high x d : ℤ) → pos 0 <ℤ d → (low *ℤ d) ≤ℤ x → x ≤ℤ (high *ℤ d)
    → ((d *ℤ gap at low high) *ℤ (d *ℤ gap at low high)) ≤ℤ ((x -ℤ (at *ℤ d)) *ℤ (x -ℤ (at *ℤ d)))
no_nearer_square at low high x d positive from to =
    let g = gap at low high in
    let scaled : pos 0 ≤ℤ (d *ℤ g) = product_not_negative (omega (arith, ints)) (gap_not_negative at low high) in
    elim (no_nearer at low high x d positive from to) [
      | inl up ↦ lesser_square (d *ℤ g) (x -ℤ (at *ℤ d)) scaled (inl up)
      | inr other ↦ elim other [
        | inl down ↦ lesser_square (d *ℤ g) (x -ℤ (at *ℤ d)) scaled (inr down)
        | inr none ↦ along (sym (ap (λ (z : ℤ). (d *ℤ z) *ℤ (d *ℤ z)) none ∙ nothing)) refl (square_not_negative (x -ℤ (at *ℤ d)))
      ]
    ]
  where
    nothing : (d *ℤ pos 0) *ℤ (d *ℤ pos 0) ≡ pos 0
    nothing = ap (λ (z : ℤ). z *ℤ z) (comm d (pos 0) ∙ zero_times d)

-- the squared distance of the cell's nearest point is at most the squared radius
abbrev pub IsNear : Layout → ℤ → ℤ → ℕ → ℕ → ℕ → Type 0
IsNear grid cx cy r column row =
    ((gap cx (line_at grid column) (line_at grid (column + 1)) *ℤ gap cx (line_at grid column) (line_at grid (column + 1)))
    +ℤ (gap cy (line_at grid row) (line_at grid (row + 1)) *ℤ gap cy (line_at grid row) (line_at grid (row + 1))))
    ≤ℤ (pos r *ℤ pos r)

-- then the disc and the cell share that point
pub from_near : (grid : Layout) (cx cy : ℤ) (r cell : ℕ) → cell < cell_count grid → IsNear grid cx cy r (column_of grid cell) (row_of grid cell) → SharesPoint grid (Disc cx cy r) cell
from_near grid cx cy r cell in_grid near =
    let column = column_of grid cell in
    let row = row_of grid cell in
    let across = near_point cx (line_at grid column) (line_at grid (column + 1)) (line_at-next grid column) in
    let up = near_point cy (line_at grid row) (line_at grid (row + 1)) (line_at-next grid row) in (
      int_max (line_at grid column) (int_min cx (line_at grid (column + 1))),
      int_max (line_at grid row) (int_min cy (line_at grid (row + 1))),
      pos 1,
      record {
        in_grid = in_grid;
        positive = omega (arith, ints);
        in_cell = record { left = across.from_low; right = across.to_high; bottom = up.from_low; top = up.to_high };
        in_shape = along (sym (ap₂ (λ (p : ℤ) (q : ℤ). p +ℤ q) across.square up.square)) (sym (ap (λ (z : ℤ). z *ℤ z) (times_one (pos r)))) near;
      },
    )

-- and where they share a point, it is
pub near_from : (grid : Layout) (cx cy : ℤ) (r cell : ℕ) → SharesPoint grid (Disc cx cy r) cell → IsNear grid cx cy r (column_of grid cell) (row_of grid cell)
near_from grid cx cy r cell (x, y, d, point) =
    let column = column_of grid cell in
    let row = row_of grid cell in
    let g = gap cx (line_at grid column) (line_at grid (column + 1)) in
    let h = gap cy (line_at grid row) (line_at grid (row + 1)) in
    let across = no_nearer_square cx (line_at grid column) (line_at grid (column + 1)) x d point.positive point.in_cell.left point.in_cell.right in
    let up = no_nearer_square cy (line_at grid row) (line_at grid (row + 1)) y d point.positive point.in_cell.bottom point.in_cell.top in
    let both : (((d *ℤ g) *ℤ (d *ℤ g)) +ℤ ((d *ℤ h) *ℤ (d *ℤ h))) ≤ℤ ((pos r *ℤ d) *ℤ (pos r *ℤ d)) = trans (sums across up) point.in_shape in
    let left : ((d *ℤ g) *ℤ (d *ℤ g)) +ℤ ((d *ℤ h) *ℤ (d *ℤ h)) ≡ (d *ℤ d) *ℤ ((g *ℤ g) +ℤ (h *ℤ h)) =
    ap₂ (λ (p : ℤ) (q : ℤ). p +ℤ q) (swap_middle d g d g) (swap_middle d h d h) ∙ sym (distrib (d *ℤ d) (g *ℤ g) (h *ℤ h)) in
    let right : (pos r *ℤ d) *ℤ (pos r *ℤ d) ≡ (d *ℤ d) *ℤ (pos r *ℤ pos r) = swap_middle (pos r) d (pos r) d ∙ comm (pos r *ℤ pos r) (d *ℤ d) in
    cancels (d *ℤ d) (product_above_zero point.positive point.positive) (along left right both)

-- the cells of a row that are near are those that the disc's width at the row's nearest height meets
pub near_in_row : (grid : Layout) (cx cy : ℤ) (r up half column row : ℕ) → pos up ≡ gap cy (line_at grid row) (line_at grid (row + 1))
    → half * half + up * up ≤ r * r → r * r < (half + 1) * (half + 1) + up * up
    → IsNear grid cx cy r column row ↔ MeetsStrip grid (cx -ℤ pos half) (cx +ℤ pos half) column
near_in_row grid cx cy r up half column row is within greatest =
    let g = gap cx (line_at grid column) (line_at grid (column + 1)) in
    let h = gap cy (line_at grid row) (line_at grid (row + 1)) in
    let low = gap_not_negative cx (line_at grid column) (line_at grid (column + 1)) in
    let same : h *ℤ h ≡ pos (up * up) = sym (ap (λ (z : ℤ). z *ℤ z) is) in (
      λ near.
          let small : g ≤ℤ pos half = not_above (λ (less : pos half <ℤ g).
          let over : pos (half + 1) ≤ℤ g = omega (arith, ints) in
          let square : (pos (half + 1) *ℤ pos (half + 1)) ≤ℤ (g *ℤ g) = squares_order (omega (arith, ints)) over in
          let lower : pos ((half + 1) * (half + 1)) ≤ℤ (g *ℤ g) = square in
          let upper : ((g *ℤ g) +ℤ pos (up * up)) ≤ℤ pos (r * r) = along (ap (λ (z : ℤ). (g *ℤ g) +ℤ z) same) refl near in
          absurd (omega (arith, ints))) in
          record { starts = omega (arith, ints, clamps); ends = omega (arith, ints, clamps) },
      λ meets.
          let first = meets.starts in
          let second = meets.ends in
          let small : g ≤ℤ pos half = omega (arith, ints, clamps) in
          let square : (g *ℤ g) ≤ℤ (pos half *ℤ pos half) = squares_order low small in
          let lower : (g *ℤ g) ≤ℤ pos (half * half) = square in
          along (sym (ap (λ (z : ℤ). (g *ℤ g) +ℤ z) same)) refl (let sum : ((g *ℤ g) +ℤ pos (up * up)) ≤ℤ pos (r * r) = omega (arith, ints) in sum),
    )

-- a near cell is in a row that the disc's bounds meet
pub near_row : (grid : Layout) (cx cy : ℤ) (r column row : ℕ) → IsNear grid cx cy r column row → MeetsStrip grid (cy -ℤ pos r) (cy +ℤ pos r) row
near_row grid cx cy r column row near =
    let g = gap cx (line_at grid column) (line_at grid (column + 1)) in
    let h = gap cy (line_at grid row) (line_at grid (row + 1)) in
    let some = square_not_negative g in
    let small : (h *ℤ h) ≤ℤ (pos r *ℤ pos r) = omega (arith, ints) in
    let short : h ≤ℤ pos r = root_order (omega (arith, ints)) small in
    record { starts = omega (arith, ints, clamps); ends = omega (arith, ints, clamps) }

-- such a row's gap is at most the radius
pub gap_in_row : (grid : Layout) (cy : ℤ) (r row : ℕ) → MeetsStrip grid (cy -ℤ pos r) (cy +ℤ pos r) row → gap cy (line_at grid row) (line_at grid (row + 1)) ≤ℤ pos r
gap_in_row grid cy r row meets =
    let first = meets.starts in
    let second = meets.ends in
    omega (arith, ints, clamps)

-- the test in numbers of the program
pub near_by_numbers : (grid : Layout) (cx cy : ℤ) (r column row across up : ℕ) → pos across ≡ gap cx (line_at grid column) (line_at grid (column + 1)) → pos up ≡ gap cy (line_at grid row) (line_at grid (row + 1))
    → (across * across + up * up ≤ r * r) ↔ IsNear grid cx cy r column row
near_by_numbers grid cx cy r column row across up a u =
    let squares : pos (across * across + up * up) ≡ (gap cx (line_at grid column) (line_at grid (column + 1)) *ℤ gap cx (line_at grid column) (line_at grid (column + 1))) +ℤ (gap cy (line_at grid row) (line_at grid (row + 1)) *ℤ gap cy (line_at grid row) (line_at grid (row + 1))) =
    ap₂ (λ (p : ℤ) (q : ℤ). (p *ℤ p) +ℤ (q *ℤ q)) a u in (
      λ small. let is_small : pos (across * across + up * up) ≤ℤ pos (r * r) = omega (arith, ints) in along squares refl is_small,
      λ near. let small : pos (across * across + up * up) ≤ℤ pos (r * r) = along (sym squares) refl near in omega (arith, ints),
    )
