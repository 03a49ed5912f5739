-- A set of cells, as the list of its flags: one for each cell below the set's size.
use Rattle.std.specs.Prelude.{ℕ, Bool, true, List, slice_get, ◌≡◌, ◌<◌, ◌≤◌, ◌↔◌, Option, Some, None, Contains}
use Rattle.std.specs.List.Sorted.{IsStrictlyIncreasing}

-- the set has the cell
abbrev pub Has : List Bool → ℕ → Type 0
Has set cell = slice_get set cell ≡ Some true

-- both sets have the cell
abbrev pub IsCommon : List Bool → List Bool → ℕ → Type 0
IsCommon set other cell = Has set cell × Has other cell

-- the first set has the cell, and the second does not
abbrev pub IsMissing : List Bool → List Bool → ℕ → Type 0
IsMissing set other cell = Has set cell × (¬ Has other cell)

-- the set has the cell, which is one from `first` on and below `end`
pub record HasBetween (set : List Bool) (first end cell : ℕ) : Type 0 where
  pub from_first : first ≤ cell
  pub before_end : cell < end
  pub has : Has set cell

-- the least of the cells of a kind, or none exactly where there is none
abbrev pub IsLeast : (ℕ → Type 0) → Option ℕ → Type 0
IsLeast Is None = (cell : ℕ) → ¬ Is cell
IsLeast Is (Some least) = Is least × ((cell : ℕ) → cell < least → ¬ Is cell)

-- the list has exactly the cells of the set, in increasing order
pub record AreCells (set : List Bool) (cells : List ℕ) : Type 0 where
  pub increasing : IsStrictlyIncreasing cells
  pub exact : (cell : ℕ) → Contains cells cell ↔ Has set cell
