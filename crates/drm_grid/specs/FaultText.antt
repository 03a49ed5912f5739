-- What a fault of a grid prints.
use Rattle.std.specs.Prelude.{ℕ, List, ◌++◌, codes, decimal}
use Rattle.drm_grid.specs.Limits.{least_side, greatest_side, side_step, least_rows, greatest_rows}
use Rattle.drm_grid.specs.declared.grid.GridFault.{GridFault}
use Rattle.drm_grid.specs.declared.grid.GridFault.TheVariants.{Side, Count}

-- the number that a grid may not have, and the numbers that it may have
abbrev pub grid_fault_text : GridFault → List ℕ
grid_fault_text Side =
    codes "the side of a cell is not a multiple of "
    ++ (decimal side_step ++ (codes " from " ++ (decimal least_side ++ (codes " to " ++ decimal greatest_side))))
grid_fault_text Count =
    codes "the number of rows is not an even number from "
    ++ (decimal least_rows ++ (codes " to " ++ decimal greatest_rows))
