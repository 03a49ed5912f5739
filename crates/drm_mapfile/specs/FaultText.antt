-- How faults print.
use Rattle.std.specs.Prelude.{ℕ, List, ◌++◌, codes, decimal}
use Rattle.drm_mapfile.specs.declared.fault.FileFault.{FileFault}
use Rattle.drm_mapfile.specs.declared.fault.FileFault.TheVariants.{Magic, Version, Short, Field, Excess, Memory}

-- the words for a fault of a map file
abbrev pub fault_text : FileFault → List ℕ
fault_text Magic = codes "the mark DRMP does not stand in front"
fault_text (Version v) = codes "the version is " ++ (decimal v ++ codes ", and 1 is read")
fault_text (Short p) = codes "the file ends at byte " ++ (decimal p ++ codes ", within a field")
fault_text (Field p) = codes "the field at byte " ++ (decimal p ++ codes " is not allowed there")
fault_text (Excess p) = codes "the map ends at byte " ++ (decimal p ++ codes ", and the file does not")
fault_text Memory = codes "there was no memory to read the map"
