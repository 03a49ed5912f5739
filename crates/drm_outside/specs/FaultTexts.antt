-- What the faults print.
use Rattle.std.specs.Prelude.{ℕ, List, ◌++◌, codes, decimal}
use Rattle.drm_outside.specs.declared.faults.LoadFault.{LoadFault}
use Rattle.drm_outside.specs.declared.faults.LoadFault.TheVariants.{Failed as LoadFailed, TooLong as LoadTooLong, Memory as LoadMemory}
use Rattle.drm_outside.specs.declared.faults.ReadAllFault.{ReadAllFault}
use Rattle.drm_outside.specs.declared.faults.ReadAllFault.TheVariants.{Failed as ReadFailed, TooLong as ReadTooLong, Memory as ReadMemory}
use Rattle.drm_outside.specs.declared.faults.WriteFault.{WriteFault}
use Rattle.drm_outside.specs.declared.faults.WriteFault.TheVariants.{Failed as WriteFailed, Memory as WriteMemory}

-- there was no memory
abbrev pub memory_text : List ℕ
memory_text = codes "no memory"

-- there were more bytes than the limit
abbrev pub too_long_text : ℕ → List ℕ
too_long_text limit = codes "too long: more than " ++ (decimal limit ++ codes " bytes")

-- something outside failed
abbrev pub failed_text : List ℕ
failed_text = codes "the outside failed"

-- why a write took nothing
abbrev pub write_fault_text : WriteFault → List ℕ
write_fault_text WriteFailed = codes "the bytes could not be written"
write_fault_text WriteMemory = memory_text

-- why a source was not read to its end
abbrev pub read_all_fault_text : ReadAllFault → List ℕ
read_all_fault_text ReadFailed = codes "the source could not be read"
read_all_fault_text (ReadTooLong limit) = too_long_text limit
read_all_fault_text ReadMemory = memory_text

-- why a shelf gave nothing for a name
abbrev pub load_fault_text : LoadFault → List ℕ
load_fault_text LoadFailed = codes "the name is missing, or could not be loaded"
load_fault_text (LoadTooLong limit) = too_long_text limit
load_fault_text LoadMemory = memory_text
