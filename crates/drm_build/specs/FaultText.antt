-- How faults print.
use Rattle.std.specs.Prelude.{ℕ, List, ◌++◌, codes, decimal}
use Rattle.drm_build.specs.declared.building.BuildFault.{BuildFault}
use Rattle.drm_build.specs.declared.building.BuildFault.TheVariants.{Total, Memory}

-- the words for a fault of a build
abbrev pub fault_text : BuildFault → List ℕ
fault_text (Total n) = codes "the sweeps have " ++ (decimal n ++ codes " cells together, and 16777216 are allowed at most")
fault_text Memory = codes "there was no memory to build the map"
