-- The sweeps: what is read are sweeps of the grid and spelled so, and what was spelled is read again.
use Rattle.std.proofs.Common.{◌≡◌, ℕ, zero, suc, ◌+◌, ◌*◌, ◌^◌, ◌<◌, ◌≤◌, Bool, true, ◌&&◌, nat_le, nat_lt, List, [], ◌∷◌, ◌++◌, length, Result, Ok, sym, ap, subst, ◌∙◌, append_assoc, arith}
use Rattle.std.specs.Prelude.{All, sum_by, flat_map, slice_index}
use Rattle.std.specs.List.Sorted.{IsStrictlyIncreasing}
use Rattle.std.specs.Int.{w16}
use Rattle.std.proofs.lemmas.Bool.Decides.{nat_tests}
use Rattle.std.proofs.lemmas.List.Elements.{All-head, All-tail}
use Rattle.drm_grid.specs.Layout.{Layout, IsGrid, cell_count}
use Rattle.drm_cellmap.specs.Limits.{max_entries}
use Rattle.drm_cellmap.specs.Roadmap.{IsSweep, entries_of}
use Rattle.drm_mapfile.specs.declared.fault.FileFault.{FileFault}
use Rattle.drm_mapfile.specs.Fields.{number_field, many}
use Rattle.drm_mapfile.specs.Text.{number, sweep_text}
use Rattle.drm_mapfile.specs.Reading.{least_behind, cell_at, sweep_at, sweeps_at}
use Rattle.drm_mapfile.proofs.FieldLaws.{IsBytes, Takes, takes_then, bind_ok, on_ok, both, together, wide16, number_takes, number_again}
use Rattle.drm_mapfile.proofs.ManyLaws.{AllAfter, all_takes, many_again, after_all, sum_after, sums_fit}
use Rattle.drm_mapfile.proofs.RoadLoops.{least_push}
use Rattle.drm_mapfile.proofs.WritingLemmas.{sweep_few, sweep_short}

-- ---- cells

-- a cell may stand behind others
abbrev pub CellFits : ℕ → List ℕ → ℕ → Type 0
CellFits count front cell = (cell < count) × (least_behind front ≤ cell)

abbrev cell_keeps : ℕ → ℕ → ℕ → Bool
cell_keeps count least cell = nat_lt cell count && nat_le least cell

cell_means : (count least cell : ℕ) → cell_keeps count least cell ≡ true → (cell < count) × (least ≤ cell)
cell_means count least cell h = let p = both (nat_lt cell count) (nat_le least cell) h in (below cell count p.0, up least cell p.1) where
  below : (m n : ℕ) → nat_lt m n ≡ true → m < n
  below m n h = grind (arith, nat_tests)

  up : (m n : ℕ) → nat_le m n ≡ true → m ≤ n
  up m n h = grind (arith, nat_tests)

cell_is : (count least cell : ℕ) → cell < count → least ≤ cell → cell_keeps count least cell ≡ true
cell_is count least cell a b = together (nat_lt cell count) (nat_le least cell) (below cell count a) (up least cell b) where
  below : (m n : ℕ) → m < n → nat_lt m n ≡ true
  below m n h = grind (arith, nat_tests)

  up : (m n : ℕ) → m ≤ n → nat_le m n ≡ true
  up m n h = grind (arith, nat_tests)

cell_takes : (total count : ℕ) (front : List ℕ) (s : List ℕ) (cell : ℕ) (more : List ℕ) → IsBytes s → cell_at total count (least_behind front) s ≡ Ok (cell, more) → Takes s (number cell) more × CellFits count front cell
cell_takes total count front s cell more fits e =
    let t = number_takes w16 (2 ^ 16) wide16 total (cell_keeps count (least_behind front)) s cell more fits e in
    (t.0, cell_means count (least_behind front) cell t.2)

cell_again : (total count : ℕ) (front : List ℕ) (cell : ℕ) (more : List ℕ) → count ≤ 2 ^ 16 → CellFits count front cell → cell_at total count (least_behind front) (number cell ++ more) ≡ Ok (cell, more)
cell_again total count front cell more small fit =
    number_again w16 (2 ^ 16) wide16 total (cell_keeps count (least_behind front)) cell more (omega (arith, fit.0)) (cell_is count (least_behind front) cell fit.0 fit.1)

rises_after : (count : ℕ) (front cells : List ℕ) → AllAfter (CellFits count) front cells → IsStrictlyIncreasing cells
rises_after count front [] fit = λ k inside. absurd (omega arith)
rises_after count front (cell ∷ []) fit = λ k inside. absurd (omega arith)
rises_after count front (cell ∷ next ∷ cells) fit =
    rising (omega (arith, least_push front cell, fit.1.0.1)) (rises_after count (front ++ cell ∷ []) (next ∷ cells) fit.1) where
      rising : cell < next → IsStrictlyIncreasing (next ∷ cells) → IsStrictlyIncreasing (cell ∷ next ∷ cells)
      rising first later zero inside = first
      rising first later (suc k) inside =
          let same : suc k + 1 ≡ suc (k + 1) = omega arith in
          subst (λ (j : ℕ). slice_index (next ∷ cells) k < slice_index (cell ∷ next ∷ cells) j) (sym same) (later k (omega arith))

-- the first of the cells is the least one or above it
abbrev StartsAt : ℕ → List ℕ → Type 0
StartsAt least [] = Unit {0}
StartsAt least (cell ∷ cells) = least ≤ cell

next_starts : (cell : ℕ) (cells : List ℕ) → IsStrictlyIncreasing (cell ∷ cells) → StartsAt (cell + 1) cells
next_starts cell [] rise = tt
next_starts cell (next ∷ cells) rise = omega (arith, rise 0 (omega arith))

rest_rises : (cell : ℕ) (cells : List ℕ) → IsStrictlyIncreasing (cell ∷ cells) → IsStrictlyIncreasing cells
rest_rises cell cells rise k inside =
    let same : suc k + 1 ≡ suc (k + 1) = omega arith in
    subst (λ (j : ℕ). slice_index cells k < slice_index (cell ∷ cells) j) same (rise (suc k) (omega arith))

cells_fit : (count : ℕ) (front cells : List ℕ) → IsStrictlyIncreasing cells → All (λ cell. cell < count) cells → StartsAt (least_behind front) cells → AllAfter (CellFits count) front cells
cells_fit count front [] rise each starts = tt
cells_fit count front (cell ∷ cells) rise each starts =
    let C : ℕ → Type 0 = λ cell. cell < count in
    ((All-head C cell cells each, starts), cells_fit count (front ++ cell ∷ []) cells (rest_rises cell cells rise) (All-tail C cell cells each) (subst (λ (least : ℕ). StartsAt least cells) (sym (least_push front cell)) (next_starts cell cells rise)))

from_zero : (cells : List ℕ) → StartsAt 0 cells
from_zero [] = tt
from_zero (cell ∷ cells) = omega arith

-- ---- a sweep

-- a sweep may stand behind others
abbrev pub SweepFits : Layout → List (List ℕ) → List ℕ → Type 0
SweepFits grid front cells = IsSweep grid cells × (sum_by (λ cells. length cells) front + length cells ≤ max_entries)

abbrev m_keeps : ℕ → ℕ → ℕ → Bool
m_keeps count so_far n = nat_le n count && nat_le (so_far + n) max_entries

abbrev read_cell : ℕ → ℕ → List ℕ → List ℕ → Result (ℕ × List ℕ) FileFault
read_cell total count front = cell_at total count (least_behind front)

abbrev with_m : ℕ → ℕ → ℕ × List ℕ → Result (List ℕ × List ℕ) FileFault
with_m total count m = many (λ front. cell_at total count (least_behind front)) m.0 [] m.1

m_means : (count so_far n : ℕ) → m_keeps count so_far n ≡ true → so_far + n ≤ max_entries
m_means count so_far n h = up (so_far + n) (both (nat_le n count) (nat_le (so_far + n) max_entries) h).1 where
  up : (m : ℕ) → nat_le m max_entries ≡ true → m ≤ max_entries
  up m h = grind (arith, nat_tests)

m_is : (count so_far n : ℕ) → n ≤ count → so_far + n ≤ max_entries → m_keeps count so_far n ≡ true
m_is count so_far n a b = together (nat_le n count) (nat_le (so_far + n) max_entries) (up n count a) (most (so_far + n) b) where
  up : (m n : ℕ) → m ≤ n → nat_le m n ≡ true
  up m n h = grind (arith, nat_tests)

  most : (m : ℕ) → m ≤ max_entries → nat_le m max_entries ≡ true
  most m h = grind (arith, nat_tests)

sweep_takes : (total : ℕ) (grid : Layout) (front : List (List ℕ)) (s cells more : List ℕ) → IsBytes s → sweep_at total (cell_count grid) (entries_of front) s ≡ Ok (cells, more) → Takes s (sweep_text cells) more × SweepFits grid front cells
unfolding sweep_at
sweep_takes total grid front s cells more fits e =
    let count = cell_count grid in
    let m = bind_ok (number_field w16 total (m_keeps count (entries_of front)) s) (with_m total count) (cells, more) e in
    let t0 = number_takes w16 (2 ^ 16) wide16 total (m_keeps count (entries_of front)) s m.0.0 m.0.1 fits m.1 in
    let t1 = all_takes (read_cell total count) number (CellFits count) (λ front s cell more fits e. cell_takes total count front s cell more fits e) m.0.0 cells m.0.1 more t0.0.rest_fits m.2 in
    let joined = takes_then s (number m.0.0) m.0.1 (flat_map number cells) more t0.0 t1.taken in
    let few = m_means count (entries_of front) m.0.0 t0.2 in (
      subst (λ (n : ℕ). Takes s (number n ++ flat_map number cells) more) (sym t1.counted) joined,
      (record { increasing = rises_after count [] cells t1.fit; in_grid = after_all (CellFits count) (λ cell. cell < count) (λ front cell fit. fit.0) [] cells t1.fit }, omega (arith, t1.counted)),
    )

sweep_again : (total : ℕ) (grid : Layout) (front : List (List ℕ)) (cells more : List ℕ) → IsGrid grid → SweepFits grid front cells → sweep_at total (cell_count grid) (entries_of front) (sweep_text cells ++ more) ≡ Ok (cells, more)
unfolding sweep_at
sweep_again total grid front cells more is fit =
    let count = cell_count grid in
    let behind = flat_map number cells ++ more in
    let small : count ≤ 2 ^ 16 = square grid.n is.n.most in
    ap (sweep_at total count (entries_of front)) (append_assoc (number (length cells)) (flat_map number cells) more)
    ∙ on_ok (number_field w16 total (m_keeps count (entries_of front)) (number (length cells) ++ behind)) (with_m total count) (length cells, behind) (Ok (cells, more)) (number_again w16 (2 ^ 16) wide16 total (m_keeps count (entries_of front)) (length cells) behind (sweep_short grid cells is fit.0) (m_is count (entries_of front) (length cells) (sweep_few grid cells fit.0) fit.1))
    (many_again (read_cell total count) number (CellFits count) (λ front cell more fit. cell_again total count front cell more small fit) [] cells more (cells_fit count [] cells fit.0.increasing fit.0.in_grid (from_zero cells)))
  where
    square : (n : ℕ) → n ≤ 128 → n * n ≤ 2 ^ 16
    square n h = grind arith

-- ---- the sweeps

abbrev read_sweep : ℕ → ℕ → List (List ℕ) → List ℕ → Result (List ℕ × List ℕ) FileFault
read_sweep total count front = sweep_at total count (entries_of front)

pub sweeps_take : (total : ℕ) (grid : Layout) (elements : ℕ) (s : List ℕ) (sweeps : List (List ℕ)) (more : List ℕ) → IsBytes s → sweeps_at total (cell_count grid) elements s ≡ Ok (sweeps, more)
    → Takes s (flat_map sweep_text sweeps) more × (length sweeps ≡ elements) × All (IsSweep grid) sweeps × (entries_of sweeps ≤ max_entries)
unfolding sweeps_at
sweeps_take total grid elements s sweeps more fits e =
    let t = all_takes (read_sweep total (cell_count grid)) sweep_text (SweepFits grid) (λ front s cells more fits e. sweep_takes total grid front s cells more fits e) elements sweeps s more fits e in
    (t.taken, t.counted, after_all (SweepFits grid) (IsSweep grid) (λ front cells fit. fit.0) [] sweeps t.fit, sum_after (SweepFits grid) (λ cells. length cells) max_entries (λ front cells fit. fit.1) [] sweeps (omega arith) t.fit)

pub sweeps_again : (total : ℕ) (grid : Layout) (sweeps : List (List ℕ)) (more : List ℕ) → IsGrid grid → All (IsSweep grid) sweeps → entries_of sweeps ≤ max_entries → sweeps_at total (cell_count grid) (length sweeps) (flat_map sweep_text sweeps ++ more) ≡ Ok (sweeps, more)
unfolding sweeps_at
sweeps_again total grid sweeps more is each few =
    many_again (read_sweep total (cell_count grid)) sweep_text (SweepFits grid) (λ front cells more fit. sweep_again total grid front cells more is fit) [] sweeps more
    (sums_fit (SweepFits grid) (IsSweep grid) (λ cells. length cells) max_entries (λ front cells one bound. (one, bound)) [] sweeps each few)
