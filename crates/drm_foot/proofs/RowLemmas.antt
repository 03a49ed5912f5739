-- The footprint grows row by row.
use Rattle.std.proofs.Common.{◌≡◌, inl, inr, ℕ, ◌+◌, ◌*◌, ◌/◌, ◌%◌, ◌<◌, ◌≤◌, List, [], subst, sym, arith}
use Rattle.std.specs.List.{Contains}
use Rattle.std.proofs.lemmas.Bool.{cases_lt}
use Rattle.std.proofs.lemmas.Nat.{div-add-mod', mod_below}
use Rattle.std.proofs.Math.Nat.{mul-le-mul_right}
use Rattle.std.specs.declared.ops.Range.{Range}
use Rattle.drm_num.proofs.Rows.{row_cells}
use Rattle.drm_grid.specs.Layout.{Layout}
use Rattle.drm_shape.specs.declared.Shape.{Shape}
use Rattle.drm_foot.specs.Foot.{Foot, IsFootprint}
use Rattle.drm_foot.specs.Block.{AreColumns, IsFootBefore, AddsRun}

-- the cell at a row and a column
pub record IsPlace (n row k cell : ℕ) : Type 0 where
  pub at_row : cell / n ≡ row
  pub at_column : cell % n ≡ k
  pub in_grid : cell < n * n

pub place : (n row k : ℕ) → row < n → k < n → IsPlace n row k (row * n + k)
place n row k up across =
    let here = (row_cells n row k (k + 1) (row * n + k) (omega arith)).0 (omega arith, omega arith) in
    let rows = mul-le-mul_right n up in
    record { at_row = here.0; at_column = omega (arith, here.1, here.2); in_grid = omega arith }

-- a cell is the one at its row and column
whole : (n cell : ℕ) → (cell / n) * n + cell % n ≡ cell
whole n cell = div-add-mod' cell n

-- a cell whose row is before this one is below the row's first cell
below_row : (n row cell : ℕ) → 0 < n → cell / n < row → cell < row * n
below_row n row cell some before =
    let all = div-add-mod' cell n in
    let rest = mod_below cell n some in
    let rows = mul-le-mul_right n before in
    omega arith

pub before_row : (grid : Layout) (shape : Shape) (row first : ℕ) (cells : List ℕ) → 0 < grid.n → row * grid.n ≤ first → IsFootBefore grid shape row cells
    → (cell : ℕ) → Contains cells cell → cell < first
before_row grid shape row first cells some start before cell has =
    let below = below_row grid.n row cell some ((before.exact cell).0 has).1 in
    omega arith

-- before the first row of the footprint there is no cell
pub none_before : (grid : Layout) (shape : Shape) (row : ℕ) → ((cell : ℕ) → Foot grid shape cell → row ≤ cell / grid.n) → IsFootBefore grid shape row []
none_before grid shape row from = record {
  increasing = λ k h. absurd (omega arith);
  exact = λ cell. (λ (k, below, _). absurd (omega arith), λ (touches, before). let after = from cell touches in absurd (omega arith));
}

-- after its last row all are there
pub all_before : (grid : Layout) (shape : Shape) (row : ℕ) (cells : List ℕ) → ((cell : ℕ) → Foot grid shape cell → cell / grid.n < row) → IsFootBefore grid shape row cells → IsFootprint grid shape cells
all_before grid shape row cells before all = record {
  increasing = all.increasing;
  exact = λ cell. (λ has. ((all.exact cell).0 has).0, λ touches. (all.exact cell).1 (touches, before cell touches));
}

-- a row's columns are added
pub row_added : (grid : Layout) (shape : Shape) (row : ℕ) (columns : Range ℕ) (old new : List ℕ) → 0 < grid.n
    → AreColumns grid shape row columns → AddsRun old new (row * grid.n + columns.start) (row * grid.n + columns.end)
    → IsFootBefore grid shape row old → IsFootBefore grid shape (row + 1) new
row_added grid shape row columns old new some are run before = record {
  increasing = run.increasing;
  exact = λ cell. let here = row_cells grid.n row columns.start columns.end cell are.within.within in (
    (λ has. elim ((run.exact cell).0 has) [
      | inl had ↦ (let was = (before.exact cell).0 had in let low = was.1 in (was.0, omega arith))
      | inr added ↦ (let at = here.0 added in
          let column = mod_below cell grid.n some in
          let touches = (are.exact (cell % grid.n) column).1 (record { from_start = at.1; before_end = at.2 }) in
          let same : row * grid.n + cell % grid.n ≡ cell = subst (λ (i : ℕ). i * grid.n + cell % grid.n ≡ cell) at.0 (whole grid.n cell) in
          (subst (λ (c : ℕ). Foot grid shape c) same touches, let is = at.0 in omega arith))
    ]),
    (λ (touches, low). elim (cases_lt (cell / grid.n) row) [
      | inl earlier ↦ (run.exact cell).1 (inl ((before.exact cell).1 (touches, earlier)))
      | inr now ↦ (let is : cell / grid.n ≡ row = omega arith in
          let column = mod_below cell grid.n some in
          let same : row * grid.n + cell % grid.n ≡ cell = subst (λ (i : ℕ). i * grid.n + cell % grid.n ≡ cell) is (whole grid.n cell) in
          let between = (are.exact (cell % grid.n) column).0 (subst (λ (c : ℕ). Foot grid shape c) (sym same) touches) in
          (run.exact cell).1 (inr (here.1 (is, between.from_start, between.before_end))))
    ]),
  );
}
