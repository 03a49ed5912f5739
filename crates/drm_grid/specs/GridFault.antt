-- Which number a grid may not have is told first.
use Rattle.std.specs.Prelude.{ℕ, ◌%◌, Bool, ◌&&◌, nat_le, nat_eq, [], ◌∷◌, Option}
use Rattle.drm_num.specs.FirstBroken.{unless, first_of}
use Rattle.drm_grid.specs.Limits.{least_side, greatest_side, side_step, least_rows, greatest_rows}
use Rattle.drm_grid.specs.declared.grid.GridFault.{GridFault}
use Rattle.drm_grid.specs.declared.grid.GridFault.TheVariants.{Side, Count}

-- the tests of the side and of the number of rows
abbrev pub is_side : ℕ → Bool
is_side side = nat_le least_side side && nat_le side greatest_side && nat_eq (side % side_step) 0

abbrev pub is_row_count : ℕ → Bool
is_row_count n = nat_le least_rows n && nat_le n greatest_rows && nat_eq (n % 2) 0

-- the first of the two numbers that is outside its limits, or none
abbrev pub grid_fault : ℕ → ℕ → Option GridFault
grid_fault side n = first_of (unless (is_side side) Side ∷ unless (is_row_count n) Count ∷ [])
