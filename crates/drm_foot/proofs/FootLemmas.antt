-- What the footprints of all shapes have in common.
use Rattle.std.proofs.Common.{◌≡◌, ◌↔◌, ℕ, ◌+◌, ◌*◌, ◌/◌, ◌<◌, ◌≤◌, subst, sym, arith}
use Rattle.std.specs.Prelude.{ℤ, pos, neg_ℤ, ◌+ℤ◌, ◌-ℤ◌, ◌<ℤ◌, ◌≤ℤ◌, List, min, max}
use Rattle.std.specs.Int.{int_min, int_max}
use Rattle.std.specs.declared.ops.Range.{Range}
use Rattle.drm_grid.specs.Layout.{Layout, IsGrid, IsInCell, cell_count, row_of, column_of, line_at}
use Rattle.std.proofs.lemmas.Int.{ints, clamps}
use Rattle.drm_num.specs.Small.{IsSmall}
use Rattle.drm_num.proofs.SmallLemmas.{IsSmall-product}
use Rattle.drm_grid.specs.Strips.{MeetsStrip, IsBetween, IsRangeUpTo}
use Rattle.drm_shape.specs.Corners.{corner_count}
use Rattle.drm_shape.specs.declared.Shape.{Shape}
use Rattle.drm_shape.specs.declared.Shape.TheVariants.{Rect, Disc, Poly}
use Rattle.drm_shape.specs.Held.{Holds}
use Rattle.drm_shape.specs.Validity.{IsValid}
use Rattle.drm_foot.specs.declared.bounds.Bounds.{Bounds}
use Rattle.drm_foot.specs.Bounds.{IsBoundsOf, ReachesCell}
use Rattle.drm_foot.specs.Foot.{Foot}
use Rattle.drm_foot.specs.Separation.{IsUnseparated}
use Rattle.drm_foot.specs.Sides.{side_at, lift, fall}
use Rattle.drm_foot.specs.Gap.{gap}
use Rattle.drm_foot.specs.Block.{AreColumns}
use Rattle.drm_foot.proofs.RectLemmas.{from_reached, column_reached, row_reached}
use Rattle.drm_foot.proofs.DiscLemmas.{IsNear, from_near, near_from, near_in_row, near_row}
use Rattle.drm_foot.proofs.RingLemmas.{ring_foot, held_in_foot}
use Rattle.drm_foot.proofs.SideLemmas.{reached_or_right}
use Rattle.drm_foot.proofs.RowLemmas.{place}

-- a cell of the footprint is a cell of the grid
pub in_grid_of : (grid : Layout) (shape : Shape) (cell : ℕ) → Foot grid shape cell → cell < cell_count grid
in_grid_of grid (Rect x0 y0 x1 y1) cell (x, y, d, point) = point.in_grid
in_grid_of grid (Disc cx cy r) cell (x, y, d, point) = point.in_grid
in_grid_of grid (Poly ring) cell apart = apart.in_grid

-- its row is one that the bounds of the shape reach
pub row_of_foot : (grid : Layout) (shape : Shape) (bounds : Bounds) (cell : ℕ) → IsBoundsOf shape bounds → Foot grid shape cell → MeetsStrip grid bounds.y0 bounds.y1 (row_of grid cell)
row_of_foot grid (Rect x0 y0 x1 y1) bounds cell is touches =
    subst (λ (b : Bounds). MeetsStrip grid b.y0 b.y1 (row_of grid cell)) (sym is) (row_reached grid x0 y0 x1 y1 cell touches)
row_of_foot grid (Disc cx cy r) bounds cell is touches =
    subst (λ (b : Bounds). MeetsStrip grid b.y0 b.y1 (row_of grid cell)) (sym is) (near_row grid cx cy r (column_of grid cell) (row_of grid cell) (near_from grid cx cy r cell touches))
row_of_foot grid (Poly ring) bounds cell is apart = ((ring_foot grid ring bounds cell is apart.in_grid).1 apart).0.1

-- a cell that holds a point of a valid shape is in its footprint
pub held_points : (grid : Layout) (shape : Shape) (cell : ℕ) (x y d : ℤ) → cell < cell_count grid → IsValid shape → pos 0 <ℤ d → IsInCell grid cell x y d → Holds shape x y d → Foot grid shape cell
held_points grid (Rect x0 y0 x1 y1) cell x y d in_grid valid positive in_cell in_shape = (x, y, d, record { in_grid = in_grid; positive = positive; in_cell = in_cell; in_shape = in_shape })
held_points grid (Disc cx cy r) cell x y d in_grid valid positive in_cell in_shape = (x, y, d, record { in_grid = in_grid; positive = positive; in_cell = in_cell; in_shape = in_shape })
held_points grid (Poly ring) cell x y d in_grid valid positive in_cell in_shape = held_in_foot grid ring cell x y d in_grid valid positive in_cell in_shape

-- the columns of a row in which a box that meets the row touches cells
pub rect_columns : (grid : Layout) (x0 y0 x1 y1 : ℤ) (row : ℕ) (columns : Range ℕ) → IsValid (Rect x0 y0 x1 y1) → row < grid.n → MeetsStrip grid y0 y1 row
    → IsRangeUpTo grid.n columns → ((k : ℕ) → k < grid.n → MeetsStrip grid x0 x1 k ↔ IsBetween columns k) → AreColumns grid (Rect x0 y0 x1 y1) row columns
rect_columns grid x0 y0 x1 y1 row columns valid inside met within across = record {
  within = within;
  exact = λ k below. let at = place grid.n row k inside below in (
    λ touches. (across k below).0 (subst (λ (j : ℕ). MeetsStrip grid x0 x1 j) at.at_column (column_reached grid x0 y0 x1 y1 (row * grid.n + k) touches)),
    λ between. from_reached grid x0 y0 x1 y1 (row * grid.n + k) at.in_grid valid
        (subst (λ (j : ℕ). MeetsStrip grid x0 x1 j) (sym at.at_column) ((across k below).1 between))
        (subst (λ (j : ℕ). MeetsStrip grid y0 y1 j) (sym at.at_row) met),
  );
}

-- and those in which a disc does
pub disc_columns : (grid : Layout) (cx cy : ℤ) (r up half row : ℕ) (columns : Range ℕ) → row < grid.n
    → pos up ≡ gap cy (line_at grid row) (line_at grid (row + 1)) → half * half + up * up ≤ r * r → r * r < (half + 1) * (half + 1) + up * up
    → IsRangeUpTo grid.n columns → ((k : ℕ) → k < grid.n → MeetsStrip grid (cx -ℤ pos half) (cx +ℤ pos half) k ↔ IsBetween columns k) → AreColumns grid (Disc cx cy r) row columns
disc_columns grid cx cy r up half row columns inside is small greatest within across = record {
  within = within;
  exact = λ k below. let at = place grid.n row k inside below in let near = near_in_row grid cx cy r up half k row is small greatest in (
    λ touches. (across k below).0 (near.0
        (subst (λ (j : ℕ). IsNear grid cx cy r j row) at.at_column (subst (λ (i : ℕ). IsNear grid cx cy r (column_of grid (row * grid.n + k)) i) at.at_row (near_from grid cx cy r (row * grid.n + k) touches)))),
    λ between. from_near grid cx cy r (row * grid.n + k) at.in_grid
        (subst (λ (i : ℕ). IsNear grid cx cy r (column_of grid (row * grid.n + k)) i) (sym at.at_row) (subst (λ (j : ℕ). IsNear grid cx cy r j row) (sym at.at_column) (near.1 ((across k below).1 between)))),
  );
}

-- all sides of the ring reach the cell at a column and a row
abbrev pub AllReach : Layout → List ℤ → ℕ → ℕ → Type 0
AllReach grid ring column row =
    (i : ℕ) → i < corner_count ring → fall (side_at ring i) (line_at grid column) (line_at grid (column + 1)) ≤ℤ lift (side_at ring i) (line_at grid row) (line_at grid (row + 1))

reached_in_foot : (grid : Layout) (ring : List ℤ) (bounds : Bounds) (cell : ℕ) → IsBoundsOf (Poly ring) bounds → cell < cell_count grid
    → (ReachesCell grid bounds cell × AllReach grid ring (column_of grid cell) (row_of grid cell)) ↔ IsUnseparated grid ring cell
reached_in_foot grid ring bounds cell is in_grid =
    let foot = ring_foot grid ring bounds cell is in_grid in (
      λ (reach, sides). foot.0 (reach, λ i below. (reached_or_right grid ring cell i).1 (sides i below)),
      λ apart. let both = foot.1 apart in (both.0, λ i below. (reached_or_right grid ring cell i).0 (both.1 i below)),
    )

-- and those in which a ring does whose bounds meet the row
pub ring_columns : (grid : Layout) (ring : List ℤ) (bounds : Bounds) (row : ℕ) (columns : Range ℕ) → IsBoundsOf (Poly ring) bounds → row < grid.n → MeetsStrip grid bounds.y0 bounds.y1 row
    → IsRangeUpTo grid.n columns
    → ((k : ℕ) → k < grid.n → (((bounds.x0 ≤ℤ line_at grid (k + 1)) × (line_at grid k ≤ℤ bounds.x1)) × AllReach grid ring k row) ↔ IsBetween columns k)
    → AreColumns grid (Poly ring) row columns
ring_columns grid ring bounds row columns is inside met within across = record {
  within = within;
  exact = λ k below.
      let at = place grid.n row k inside below in
      let cell = row * grid.n + k in
      let foot = reached_in_foot grid ring bounds cell is at.in_grid in (
        λ apart.
            let both = foot.1 apart in
            let column = subst (λ (j : ℕ). MeetsStrip grid bounds.x0 bounds.x1 j) at.at_column both.0.0 in
            let sides = subst (λ (j : ℕ). AllReach grid ring j row) at.at_column (subst (λ (i : ℕ). AllReach grid ring (column_of grid cell) i) at.at_row both.1) in
            (across k below).0 ((column.starts, column.ends), sides),
        λ between.
            let both = (across k below).1 between in
            let column = subst (λ (j : ℕ). MeetsStrip grid bounds.x0 bounds.x1 j) (sym at.at_column) (record { starts = both.0.0; ends = both.0.1 }) in
            let line = subst (λ (i : ℕ). MeetsStrip grid bounds.y0 bounds.y1 i) (sym at.at_row) met in
            let sides = subst (λ (i : ℕ). AllReach grid ring (column_of grid cell) i) (sym at.at_row) (subst (λ (j : ℕ). AllReach grid ring j row) (sym at.at_column) both.1) in
            foot.0 ((column, line), sides),
      );
}

-- a line of a grid within the limits is at most 65,536 from the middle
pub line_small : (grid : Layout) (k : ℕ) → IsGrid grid → k ≤ grid.n → IsSmall (pos 65536) (line_at grid k)
line_small grid k limits below =
    let most = limits.n.most in
    let half : grid.n / 2 ≤ 64 = omega arith in
    let rest : grid.n ≤ grid.n / 2 + 64 = omega arith in
    let place : IsSmall (pos 64) (pos k -ℤ pos (grid.n / 2)) = record { low = omega (arith, ints); high = omega (arith, ints) } in
    let wide = limits.side.most in
    let side : IsSmall (pos 1024) (pos grid.side) = record { low = omega (arith, ints); high = omega (arith, ints) } in
    IsSmall-product place side

-- a number that is cut to the lines and one unit more on either side lies on the same side of each line
cut_below : (z w line : ℤ) → w ≡ int_max (neg_ℤ (pos 65537)) (int_min z (pos 65537)) → IsSmall (pos 65536) line → (z ≤ℤ line) ↔ (w ≤ℤ line)
cut_below z w line is small = let low = small.low in let high = small.high in (λ h. omega (arith, ints, clamps), λ h. omega (arith, ints, clamps))

cut_above : (z w line : ℤ) → w ≡ int_max (neg_ℤ (pos 65537)) (int_min z (pos 65537)) → IsSmall (pos 65536) line → (line ≤ℤ z) ↔ (line ≤ℤ w)
cut_above z w line is small = let low = small.low in let high = small.high in (λ h. omega (arith, ints, clamps), λ h. omega (arith, ints, clamps))

-- so a span meets a strip where the span that is cut so does
pub columns_cut : (grid : Layout) (low high from_low to_high : ℤ) (columns : Range ℕ) (k : ℕ) → IsGrid grid → k < grid.n
    → from_low ≡ int_max (neg_ℤ (pos 65537)) (int_min low (pos 65537)) → to_high ≡ int_max (neg_ℤ (pos 65537)) (int_min high (pos 65537))
    → (MeetsStrip grid from_low to_high k ↔ IsBetween columns k)
    → ((low ≤ℤ line_at grid (k + 1)) × (line_at grid k ≤ℤ high)) ↔ IsBetween columns k
columns_cut grid low high from_low to_high columns k limits below is_low is_high met =
    let starts = cut_below low from_low (line_at grid (k + 1)) is_low (line_small grid (k + 1) limits (omega arith)) in
    let ends = cut_above high to_high (line_at grid k) is_high (line_small grid k limits (omega arith)) in (
      λ (a, b). met.0 (record { starts = starts.0 a; ends = ends.0 b }),
      λ between. let strip = met.1 between in (starts.1 strip.starts, ends.1 strip.ends),
    )

-- the strips that reach down to a number and up to another are those from the one on and up to the other
pub columns_both : (grid : Layout) (low high : ℤ) (first second : Range ℕ) (start end last k : ℕ) → IsGrid grid → k < grid.n
    → (MeetsStrip grid low (pos 65537) k ↔ IsBetween first k) → (MeetsStrip grid (neg_ℤ (pos 65537)) high k ↔ IsBetween second k)
    → start ≡ max first.start second.start → end ≡ min first.end second.end → last ≡ max end start
    → MeetsStrip grid low high k ↔ IsBetween (record { start = start; end = last }) k
columns_both grid low high first second start end last k limits below from up_to is_start is_end is_last =
    let here = line_small grid k limits (omega arith) in
    let next = line_small grid (k + 1) limits (omega arith) in
    let here_high = here.high in
    let next_low = next.low in (
      λ met.
          let one = from.0 (record { starts = met.starts; ends = omega (arith, ints) }) in
          let two = up_to.0 (record { starts = omega (arith, ints); ends = met.ends }) in
          let p = one.from_start in let q = one.before_end in let r = two.from_start in let s = two.before_end in
          record { from_start = omega arith; before_end = omega arith },
      λ between.
          let p = between.from_start in
          let q = between.before_end in
          let one = from.1 (record { from_start = omega arith; before_end = omega arith }) in
          let two = up_to.1 (record { from_start = omega arith; before_end = omega arith }) in
          record { starts = one.starts; ends = two.ends },
    )
