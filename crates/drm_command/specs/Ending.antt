-- How a call ends, and what becomes of its outcome, whose text is written in whole or in part.
use Rattle.std.specs.Prelude.{ℕ, ◌≡◌, ◌⊎◌, List, Option, Result, Ok, Err}
use Rattle.std.specs.Io.KnownBytes.{Appends, Keeps}
use Rattle.std.specs.declared.alloc.Global.{Global}
use Rattle.std.specs.declared.vec.Vec.{Vec}
use Rattle.drm_outside.specs.Writing.{AppendsPrefix}
use Rattle.drm_command.specs.Status.{done, source_failed, sink_failed, shelf_failed, no_memory}
use Rattle.drm_command.specs.Refusal.{told, line_of}
use Rattle.drm_command.specs.declared.refusal.Refusal.{Refusal}
use Rattle.drm_command.specs.declared.stop.Stop.{Stop}
use Rattle.drm_command.specs.declared.stop.Stop.TheVariants.{Refused, Load, Save, Source, Memory}
use Rattle.drm_command.specs.declared.ending.End.{End}
use Rattle.drm_command.specs.declared.ending.End.TheVariants.{Done, Stopped, Sink}

-- the status of an end
abbrev pub status_of : End → ℕ
status_of Done = done
status_of (Stopped (Refused refusal)) = (told refusal).status
status_of (Stopped Load) = shelf_failed
status_of (Stopped Save) = shelf_failed
status_of (Stopped Source) = source_failed
status_of (Stopped Memory) = no_memory
status_of Sink = sink_failed

-- the call stops with a refusal that is called for, or because something failed
abbrev pub StopsWith : (Refusal → Type 0) → Stop → Type 0
StopsWith Calls (Refused refusal) = Calls refusal
StopsWith Calls Load = Unit {0}
StopsWith Calls Save = Unit {0}
StopsWith Calls Source = Unit {0}
StopsWith Calls Memory = Unit {0}

-- what a command comes to: its text, or why there is none
abbrev pub Outcome : Type 0
Outcome = Result (Vec ℕ Global) Stop

-- the outcome has this text, and this end where all of it was written
abbrev pub Tells : Outcome → End → List ℕ → Type 0
Tells (Ok bytes) end text = (end ≡ Done) × (text ≡ bytes.items)
Tells (Err (Refused refusal)) end text = (end ≡ Stopped (Refused refusal)) × (text ≡ line_of refusal)
Tells (Err Load) end text = ⊥
Tells (Err Save) end text = ⊥
Tells (Err Source) end text = ⊥
Tells (Err Memory) end text = ⊥

-- the outcome has no text, and this end
abbrev pub TellsNothing : Outcome → End → Type 0
TellsNothing (Ok bytes) end = ⊥
TellsNothing (Err (Refused refusal)) end = ⊥
TellsNothing (Err Load) end = end ≡ Stopped Load
TellsNothing (Err Save) end = end ≡ Stopped Save
TellsNothing (Err Source) end = end ≡ Stopped Source
TellsNothing (Err Memory) end = end ≡ Stopped Memory

-- a text was not written whole, since the sink failed or there was no memory
abbrev pub FallsShort : End → Type 0
FallsShort end = (end ≡ Sink) ⊎ (end ≡ Stopped Memory)

-- the text of the outcome was written whole
abbrev pub EndsWhole : Outcome → End → Option (List ℕ) → Option (List ℕ) → Type 0
EndsWhole outcome end old new = (text : List ℕ) × Tells outcome end text × Appends old new text

-- a prefix of it was written
abbrev pub EndsShort : Outcome → End → Option (List ℕ) → Option (List ℕ) → Type 0
EndsShort outcome end old new = (whole : End) × (text : List ℕ) × Tells outcome whole text × AppendsPrefix old new text × FallsShort end

-- there was nothing to write
abbrev pub EndsBare : Outcome → End → Option (List ℕ) → Option (List ℕ) → Type 0
EndsBare outcome end old new = TellsNothing outcome end × Keeps old new

-- one of the three
abbrev pub Ends : Outcome → End → Option (List ℕ) → Option (List ℕ) → Type 0
Ends outcome end old new = EndsWhole outcome end old new ⊎ (EndsShort outcome end old new ⊎ EndsBare outcome end old new)

-- a text was handed to the sink, with this end where all of it was written
abbrev pub IsWritten : End → List ℕ → End → Option (List ℕ) → Option (List ℕ) → Type 0
IsWritten whole text end old new = ((end ≡ whole) × Appends old new text) ⊎ (FallsShort end × AppendsPrefix old new text)
