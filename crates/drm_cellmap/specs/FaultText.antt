-- How faults print.
use Rattle.std.specs.Prelude.{ℕ, List, ◌++◌, codes, decimal}
use Rattle.drm_cellmap.specs.declared.map.MapFault.{MapFault}
use Rattle.drm_cellmap.specs.declared.map.MapFault.TheVariants.{Fit, Node, Sweeps, Order, Total, Memory}

-- the words for a fault of a map
abbrev pub fault_text : MapFault → List ℕ
fault_text Fit = codes "the arm, stretched out, leaves the grid"
fault_text (Node i) = codes "node " ++ (decimal i ++ codes " is no configuration of the arm")
fault_text (Sweeps n) = codes "there are " ++ (decimal n ++ codes " sweeps, and not one for each node and edge")
fault_text (Order i) = codes "sweep " ++ (decimal i ++ codes " is not in order, or has a cell that the grid lacks")
fault_text (Total n) = codes "the sweeps have " ++ (decimal n ++ codes " cells together, and 16777216 are allowed at most")
fault_text Memory = codes "there was no memory for the map"
