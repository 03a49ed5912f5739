-- The near cells of a run, of a row and of a grid.
use Rattle.std.proofs.Common.{◌≡◌, inl, inr, ℕ, ◌+◌, ◌*◌, ◌≤◌, ◌<◌, ◌↔◌, Bool, List, length, Some, None, refl, sym, subst, ◌∙◌, arith}
use Rattle.std.specs.declared.ops.Range.{Range}
use Rattle.std.proofs.lemmas.Bool.{cases_lt}
use Rattle.std.proofs.lemmas.Nat.{mod_below, div_below}
use Rattle.drm_num.proofs.Rows.{row_cells}
use Rattle.drm_grid.specs.CellSet.{HasBetween, IsLeast}
use Rattle.drm_grid.specs.Layout.{Layout, cell_count, row_of, column_of}
use Rattle.drm_grid.specs.Near.{IsNearBox}
use Rattle.drm_grid.specs.Strips.{IsStripNear, IsBetween, IsRangeUpTo}
use Rattle.drm_pose.specs.declared.boxes.Plate.{Plate}
use Rattle.drm_sweep.specs.Taken.{TakesOut, Among}
use Rattle.drm_sweep.specs.Runs.{IsNearAt, IsNearBetween}
use Rattle.drm_sweep.proofs.TakenLemmas.{Has-below, same_kind}

-- the cells before `next` are done
pub record IsDone (grid : Layout) (plate : Plate) (far first end next : ℕ) (s t : List Bool) : Type 0 where
  pub from : first ≤ next
  pub up_to : next ≤ end
  pub taken : TakesOut (IsNearBetween grid plate far first next) s t

pub none_done : (grid : Layout) (plate : Plate) (far first end : ℕ) (s : List Bool) → first ≤ end → IsDone grid plate far first end first s s
none_done grid plate far first end s ordered = record {
  from = omega arith;
  up_to = ordered;
  taken = record { size = refl; kept = λ cell has. (has, λ (from, below, is). absurd (omega arith)); gone = λ cell has. inl has };
}

pub one_done : (grid : Layout) (plate : Plate) (far first end next at : ℕ) (s t u : List Bool) → IsLeast (HasBetween t next end) (Some at)
    → IsDone grid plate far first end next s t → TakesOut (IsNearAt grid plate far at) t u → IsDone grid plate far first end (at + 1) s u
one_done grid plate far first end next at s t u least done now =
    let from_next = least.0.from_first in
    let before_end = least.0.before_end in
    let from_first = done.from in
    record {
      from = omega arith;
      up_to = omega arith;
      taken = record {
        size = now.size ∙ done.taken.size;
        kept = λ cell has.
            let (has_t, not_now) = now.kept cell has in
            let (has_s, not_before) = done.taken.kept cell has_t in (
              has_s,
              λ (from, below, near). elim (cases_lt cell next) [
                | inl earlier ↦ not_before (from, earlier, near)
                | inr later ↦ elim (cases_lt cell at) [
                  | inl between ↦ least.1 cell between (record { from_first = later; before_end = omega arith; has = has_t })
                  | inr last ↦ not_now (omega arith, near)
                ]
              ],
            );
        gone = λ cell has. elim (done.taken.gone cell has) [
          | inl has_t ↦ elim (now.gone cell has_t) [ inl left ↦ inl left | inr (same, near) ↦ inr (omega arith, omega arith, near) ]
          | inr (from, below, near) ↦ inr (from, omega arith, near)
        ];
      };
    }

pub all_done : (grid : Layout) (plate : Plate) (far first end next : ℕ) (s t : List Bool) → IsLeast (HasBetween t next end) None
    → IsDone grid plate far first end next s t → TakesOut (IsNearBetween grid plate far first end) s t
all_done grid plate far first end next s t none done = record {
  size = done.taken.size;
  kept = λ cell has.
      let (has_s, not_before) = done.taken.kept cell has in (
        has_s,
        λ (from, below, near). elim (cases_lt cell next) [
          | inl earlier ↦ not_before (from, earlier, near)
          | inr later ↦ none cell (record { from_first = later; before_end = below; has = has })
        ],
      );
  gone = λ cell has. elim (done.taken.gone cell has) [
    | inl left ↦ inl left
    | inr (from, below, near) ↦ (let end_of = done.up_to in inr (from, omega arith, near))
  ];
}

-- ---- rows

-- the cell is near the box, in the row and in one of the columns
abbrev pub IsNearInRow : Layout → Plate → ℕ → Range ℕ → ℕ → ℕ → Type 0
IsNearInRow grid plate far columns row cell = (row_of grid cell ≡ row) × IsBetween columns (column_of grid cell) × IsNearBox grid plate.x plate.y cell far

-- the cells of a run in a row's columns are in the row
pub run_in_row : (grid : Layout) (n row : ℕ) (columns : Range ℕ) → n ≡ grid.n → IsRangeUpTo grid.n columns
    → (cell : ℕ) → row * n + columns.start ≤ cell → cell < row * n + columns.end → row ≡ row_of grid cell
run_in_row grid n row columns same range cell =
    subst (λ (m : ℕ). row * m + columns.start ≤ cell → cell < row * m + columns.end → row ≡ row_of grid cell) (sym same)
    (λ from below. sym (((row_cells grid.n row columns.start columns.end cell range.within).0 (from, below)).0))

pub row_taken : (grid : Layout) (plate : Plate) (far row : ℕ) (columns : Range ℕ) (s t : List Bool) → IsRangeUpTo grid.n columns
    → TakesOut (IsNearBetween grid plate far (row * grid.n + columns.start) (row * grid.n + columns.end)) s t → TakesOut (IsNearInRow grid plate far columns row) s t
row_taken grid plate far row columns s t range taken =
    same_kind (IsNearBetween grid plate far (row * grid.n + columns.start) (row * grid.n + columns.end)) (IsNearInRow grid plate far columns row) s t
    (λ cell has. let here = row_cells grid.n row columns.start columns.end cell range.within in (
      (λ (from, below, near). let place = here.0 (from, below) in (place.0, record { from_start = place.1; before_end = place.2 }, near)),
      (λ (in_row, column, near). let place = here.1 (in_row, column.from_start, column.before_end) in (place.0, place.1, near)),
    ))
    taken

-- a grid with a cell has a row
some_rows : (n cell : ℕ) → cell < n * n → 0 < n
some_rows n cell below = elim (cases_lt 0 n) [
  | inl some ↦ some
  | inr none ↦ (let zero_n : n ≡ 0 = omega arith in let empty : cell < 0 * 0 = subst (λ (m : ℕ). cell < m * m) zero_n below in absurd (omega arith))
]

-- the near cells of the near rows and columns are all near cells
pub rows_taken : (grid : Layout) (plate : Plate) (far : ℕ) (rows columns : Range ℕ) (s t : List Bool) → length s ≡ cell_count grid
    → ((k : ℕ) → k < grid.n → IsStripNear grid plate.x far k ↔ IsBetween columns k)
    → ((k : ℕ) → k < grid.n → IsStripNear grid plate.y far k ↔ IsBetween rows k)
    → ((cell : ℕ) → IsNearBox grid plate.x plate.y cell far → IsStripNear grid plate.x far (column_of grid cell) × IsStripNear grid plate.y far (row_of grid cell))
    → TakesOut (Among rows.start rows.end (IsNearInRow grid plate far columns)) s t → TakesOut (λ cell. IsNearBox grid plate.x plate.y cell far) s t
rows_taken grid plate far rows columns s t size across up strips taken =
    same_kind (Among rows.start rows.end (IsNearInRow grid plate far columns)) (λ cell. IsNearBox grid plate.x plate.y cell far) s t
    (λ cell has. (
      (λ (row, from, below, in_row). in_row.2),
      (λ near.
          let in_grid : cell < cell_count grid = let below = Has-below s cell has in omega arith in
          let some : 0 < grid.n = some_rows grid.n cell in_grid in
          let strip = strips cell near in
          let column = (across (column_of grid cell) (mod_below cell grid.n some)).0 strip.0 in
          let row = (up (row_of grid cell) (div_below cell grid.n grid.n some in_grid)).0 strip.1 in
          (row_of grid cell, row.from_start, row.before_end, (refl, column, near))),
    ))
    taken
