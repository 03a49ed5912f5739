-- The footprint of a ring, by its bounds and its sides; and it has each cell with which the ring shares a point.
use Rattle.std.proofs.Common.{◌≡◌, ◌↔◌, inl, inr, ℕ, ◌+◌, ◌<◌, refl, sym, ap, ◌∙◌, arith}
use Rattle.std.specs.Prelude.{ℤ, pos, neg_ℤ, ◌+ℤ◌, ◌-ℤ◌, ◌*ℤ◌, ◌≤ℤ◌, ◌<ℤ◌, List}
use Rattle.std.specs.Int.{int_min, int_max}
use Rattle.std.proofs.lemmas.Int.{ints}
use Rattle.drm_num.proofs.Integers.{along, trans, keeps, turns, comm, left_middle, not_above, cancels, negated_left, distrib_right, sign, min_first, min_second, max_first, max_second}
use Rattle.drm_grid.specs.Layout.{Layout, IsInCell, cell_count, line_at, row_of, column_of}
use Rattle.drm_shape.specs.Corners.{corner_count, corner_at}
use Rattle.drm_shape.specs.declared.Shape.TheVariants.{Poly}
use Rattle.drm_shape.specs.Held.{Holds}
use Rattle.drm_shape.specs.Validity.{IsValid}
use Rattle.drm_foot.specs.declared.bounds.Bounds.{Bounds}
use Rattle.drm_foot.specs.Bounds.{IsSpan, IsBoundsOf, ReachesCell}
use Rattle.drm_foot.specs.Separation.{HasCellOnRight, IsUnseparated}
use Rattle.drm_foot.specs.Sides.{side_at, lift, fall}
use Rattle.drm_foot.proofs.SideLemmas.{reached_or_right}
use Rattle.drm_foot.proofs.CornerLemmas.{some_corner_left, some_corner_right, some_corner_below, some_corner_above}

-- not all of some numbers are below a bound exactly where the greatest is not
not_all_less : (count : ℕ) (at : ℕ → ℤ) (low high bound : ℤ) → IsSpan count at low high → (((i : ℕ) → i < count → at i <ℤ bound) → ⊥) ↔ (bound ≤ℤ high)
not_all_less count at low high bound span = (
  λ never. not_above (λ (less : high <ℤ bound). never (λ i below. let order = span.most i below in omega (arith, ints))),
  λ order all. let (i, below, is) = span.has_most in let less = all i below in absurd (omega (arith, ints)),
)

not_all_greater : (count : ℕ) (at : ℕ → ℤ) (low high bound : ℤ) → IsSpan count at low high → (((i : ℕ) → i < count → bound <ℤ at i) → ⊥) ↔ (low ≤ℤ bound)
not_all_greater count at low high bound span = (
  λ never. not_above (λ (less : bound <ℤ low). never (λ i below. let order = span.least i below in omega (arith, ints))),
  λ order all. let (i, below, is) = span.has_least in let less = all i below in absurd (omega (arith, ints)),
)

-- a cell is in the footprint where the bounds reach it and no side has it on its right
pub ring_foot : (grid : Layout) (ring : List ℤ) (bounds : Bounds) (cell : ℕ) → IsBoundsOf (Poly ring) bounds → cell < cell_count grid
    → (ReachesCell grid bounds cell × ((i : ℕ) → i < corner_count ring → HasCellOnRight grid ring cell i → ⊥)) ↔ IsUnseparated grid ring cell
ring_foot grid ring bounds cell (across, up) in_grid =
    let n = corner_count ring in
    let xs : ℕ → ℤ = λ i. (corner_at ring i).x in
    let ys : ℕ → ℤ = λ i. (corner_at ring i).y in
    let left = not_all_less n xs bounds.x0 bounds.x1 (line_at grid (column_of grid cell)) across in
    let right = not_all_greater n xs bounds.x0 bounds.x1 (line_at grid (column_of grid cell + 1)) across in
    let bottom = not_all_less n ys bounds.y0 bounds.y1 (line_at grid (row_of grid cell)) up in
    let top = not_all_greater n ys bounds.y0 bounds.y1 (line_at grid (row_of grid cell + 1)) up in (
      λ ((columns, rows), sides). record {
        in_grid = in_grid;
        by_ring = sides;
        by_left = left.1 columns.ends;
        by_right = right.1 columns.starts;
        by_bottom = bottom.1 rows.ends;
        by_top = top.1 rows.starts;
      },
      λ apart. ((record { starts = right.0 apart.by_right; ends = left.0 apart.by_left }, record { starts = top.0 apart.by_top; ends = bottom.0 apart.by_bottom }), apart.by_ring),
    )

-- the fall and the lift at a point between lines, over a common bottom
spread : (a b d : ℤ) → (a -ℤ b) *ℤ d ≡ (a *ℤ d) -ℤ (b *ℤ d)
spread a b d = distrib_right a (neg_ℤ b) d ∙ ap (λ (z : ℤ). (a *ℤ d) +ℤ z) (negated_left b d)

-- k times (a - b), times d
scaled : (k a b d : ℤ) → k *ℤ ((a *ℤ d) -ℤ (b *ℤ d)) ≡ d *ℤ (k *ℤ (a -ℤ b))
scaled k a b d = ap (λ (z : ℤ). k *ℤ z) (sym (spread a b d) ∙ comm (a -ℤ b) d) ∙ left_middle k d (a -ℤ b)

held_falls : (k low high base x d : ℤ) → pos 0 <ℤ d → (low *ℤ d) ≤ℤ x → x ≤ℤ (high *ℤ d) → (d *ℤ int_min (k *ℤ (low -ℤ base)) (k *ℤ (high -ℤ base))) ≤ℤ (k *ℤ (x -ℤ (base *ℤ d)))
held_falls k low high base x d positive from to =
    let not_negative : pos 0 ≤ℤ d = omega (arith, ints) in
    elim (sign k) [
      | inl up ↦ (let shifted : ((low *ℤ d) -ℤ (base *ℤ d)) ≤ℤ (x -ℤ (base *ℤ d)) = omega (arith, ints) in
          let product = keeps k up shifted in
          trans (keeps d not_negative (min_first (k *ℤ (low -ℤ base)) (k *ℤ (high -ℤ base)))) (along (scaled k low base d) refl product))
      | inr down ↦ (let shifted : (x -ℤ (base *ℤ d)) ≤ℤ ((high *ℤ d) -ℤ (base *ℤ d)) = omega (arith, ints) in
          let product = turns k down shifted in
          trans (keeps d not_negative (min_second (k *ℤ (low -ℤ base)) (k *ℤ (high -ℤ base)))) (along (scaled k high base d) refl product))
    ]

held_lifts : (k low high base x d : ℤ) → pos 0 <ℤ d → (low *ℤ d) ≤ℤ x → x ≤ℤ (high *ℤ d) → (k *ℤ (x -ℤ (base *ℤ d))) ≤ℤ (d *ℤ int_max (k *ℤ (low -ℤ base)) (k *ℤ (high -ℤ base)))
held_lifts k low high base x d positive from to =
    let not_negative : pos 0 ≤ℤ d = omega (arith, ints) in
    elim (sign k) [
      | inl up ↦ (let shifted : (x -ℤ (base *ℤ d)) ≤ℤ ((high *ℤ d) -ℤ (base *ℤ d)) = omega (arith, ints) in
          let product = keeps k up shifted in
          trans (along refl (scaled k high base d) product) (keeps d not_negative (max_second (k *ℤ (low -ℤ base)) (k *ℤ (high -ℤ base)))))
      | inr down ↦ (let shifted : ((low *ℤ d) -ℤ (base *ℤ d)) ≤ℤ (x -ℤ (base *ℤ d)) = omega (arith, ints) in
          let product = turns k down shifted in
          trans (along refl (scaled k low base d) product) (keeps d not_negative (max_first (k *ℤ (low -ℤ base)) (k *ℤ (high -ℤ base)))))
    ]

-- a cell that holds a point of a valid ring is not separated from it
pub held_in_foot : (grid : Layout) (ring : List ℤ) (cell : ℕ) (x y d : ℤ) → cell < cell_count grid → IsValid (Poly ring) → pos 0 <ℤ d → IsInCell grid cell x y d → Holds (Poly ring) x y d → IsUnseparated grid ring cell
held_in_foot grid ring cell x y d in_grid valid positive in_cell holds = record {
  in_grid = in_grid;
  by_ring = λ i below. (reached_or_right grid ring cell i).1 (reached i below);
  by_left = some_corner_right ring x y d (line_at grid (column_of grid cell)) valid holds positive in_cell.left;
  by_right = some_corner_left ring x y d (line_at grid (column_of grid cell + 1)) valid holds positive in_cell.right;
  by_bottom = some_corner_above ring x y d (line_at grid (row_of grid cell)) valid holds positive in_cell.bottom;
  by_top = some_corner_below ring x y d (line_at grid (row_of grid cell + 1)) valid holds positive in_cell.top;
}
  where
    reached : (i : ℕ) → i < corner_count ring
        → fall (side_at ring i) (line_at grid (column_of grid cell)) (line_at grid (column_of grid cell + 1)) ≤ℤ lift (side_at ring i) (line_at grid (row_of grid cell)) (line_at grid (row_of grid cell + 1))
    reached i below =
        let side = side_at ring i in
        let left = line_at grid (column_of grid cell) in
        let right = line_at grid (column_of grid cell + 1) in
        let bottom = line_at grid (row_of grid cell) in
        let top = line_at grid (row_of grid cell + 1) in
        let down : (d *ℤ fall side left right) ≤ℤ (side.dy *ℤ (x -ℤ (side.x *ℤ d))) = held_falls side.dy left right side.x x d positive in_cell.left in_cell.right in
        let up : (side.dx *ℤ (y -ℤ (side.y *ℤ d))) ≤ℤ (d *ℤ lift side bottom top) = held_lifts side.dx bottom top side.y y d positive in_cell.bottom in_cell.top in
        let turn : pos 0 ≤ℤ ((side.dx *ℤ (y -ℤ (side.y *ℤ d))) -ℤ (side.dy *ℤ (x -ℤ (side.x *ℤ d)))) = holds i below in
        let between : (side.dy *ℤ (x -ℤ (side.x *ℤ d))) ≤ℤ (side.dx *ℤ (y -ℤ (side.y *ℤ d))) = ordered (side.dx *ℤ (y -ℤ (side.y *ℤ d))) (side.dy *ℤ (x -ℤ (side.x *ℤ d))) turn in
        cancels d {a = fall side left right} {b = lift side bottom top} positive (trans down (trans between up))
      where
        ordered : (a b : ℤ) → pos 0 ≤ℤ (a -ℤ b) → b ≤ℤ a
        ordered a b h = omega (arith, ints)
