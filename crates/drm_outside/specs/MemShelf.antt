-- A shelf that keeps its names in memory: what its calls leave, and which of them fail.
use Rattle.std.specs.Prelude.{◌≡◌, ℕ, ◌<◌, ◌≤◌, List, [], length, Option, Some, None, IsSome, Contains}
use Rattle.std.specs.Map.{lookup}
use Rattle.std.specs.Str.{bytes_eq}
use Rattle.drm_outside.specs.Causes.{counted_up}
use Rattle.drm_outside.specs.declared.faults.LoadFault.{LoadFault}
use Rattle.drm_outside.specs.declared.faults.LoadFault.TheVariants.{Failed, TooLong, Memory}
use Rattle.drm_outside.specs.declared.faults.WriteFault.{WriteFault}
use Rattle.drm_outside.specs.declared.faults.WriteFault.TheVariants.{Failed as WriteFailed, Memory as WriteMemory}
use Rattle.drm_outside.specs.Shelving.{Names, HoldsOthers}

-- the names with the bytes that each holds, the numbers of the calls that fail, the calls so far, and the faults so far
pub record MemNames : Type 0 where
  pub names : List (List ℕ × List ℕ)
  pub failing : List ℕ
  pub calls : ℕ
  pub faults : ℕ

-- what each name holds
abbrev pub held_by : MemNames → Names
held_by s name = lookup (bytes_eq name) s.names

-- a shelf with no name
abbrev pub bare : List ℕ → MemNames
bare failing = record { names = []; failing = failing; calls = 0; faults = 0 }

-- the next call is one of those that fail
abbrev pub NextCallFails : MemNames → Type 0
NextCallFails s = Contains s.failing (counted_up s.calls)

-- the shelf lacks the name
abbrev pub Lacks : MemNames → List ℕ → Type 0
Lacks s name = held_by s name ≡ None

-- why what a name holds is not given: there is nothing, or it is over the limit
abbrev pub IsNotCopied : LoadFault → Option (List ℕ) → ℕ → Type 0
IsNotCopied Failed held limit = held ≡ None
IsNotCopied (TooLong n) held limit = (n ≡ limit) × ((bytes : List ℕ) × (held ≡ Some bytes) × (limit < length bytes))
IsNotCopied Memory held limit = IsSome held

-- the bytes are what a name holds, at most `limit` of them
pub record IsCopied (held : Option (List ℕ)) (limit : ℕ) (bytes : List ℕ) : Type 0 where
  pub whole : held ≡ Some bytes
  pub within : length bytes ≤ limit

-- the shelf after a call that changed no name
abbrev pub after_call : MemNames → MemNames
after_call s = record s { calls = counted_up s.calls }

-- the shelf after a call that failed
abbrev pub after_failed_call : MemNames → MemNames
after_failed_call s = record s { calls = counted_up s.calls; faults = counted_up s.faults }

-- the shelf after a load that was refused: a fault is counted with its call, a load of too many bytes is a call, and
-- want of memory leaves all as it was
abbrev pub after_refused_load : MemNames → LoadFault → MemNames
after_refused_load s Failed = after_failed_call s
after_refused_load s (TooLong n) = after_call s
after_refused_load s Memory = s

-- the shelf after a save that was refused
abbrev pub after_refused_save : MemNames → WriteFault → MemNames
after_refused_save s WriteFailed = after_failed_call s
after_refused_save s WriteMemory = s

-- the name holds the bytes now, every other name what it held, and the plan and the faults are as they were
pub record Puts (old new : MemNames) (name bytes : List ℕ) : Type 0 where
  pub here : held_by new name ≡ Some bytes
  pub others : HoldsOthers (Some (held_by old)) (Some (held_by new)) name
  pub plan : new.failing ≡ old.failing
  pub faults : new.faults ≡ old.faults

-- the same, by a call that was numbered
pub record PutsByCall (old new : MemNames) (name bytes : List ℕ) : Type 0 where
  pub put : Puts old new name bytes
  pub counted : new.calls ≡ counted_up old.calls
