-- The note that the program tells a person.
use Rattle.std.specs.Prelude.{ℕ, ◌≡◌, ◌⊎◌, List}
use Rattle.drm_command.specs.Ending.{status_of}
use Rattle.drm_command.specs.Note.{note_of, bare_note_of}
use Rattle.drm_command.specs.declared.refusal.Refusal.{Refusal}
use Rattle.drm_command.specs.declared.stop.Stop.{Stop}
use Rattle.drm_command.specs.declared.stop.Stop.TheVariants.{Refused, Load, Save, Source, Memory}
use Rattle.drm_command.specs.declared.ending.End.{End}
use Rattle.drm_command.specs.declared.ending.End.TheVariants.{Done, Stopped, Sink}

-- the call stopped because of that: its refusal was called for, or the shelf failed at the load or at the save
abbrev pub IsTrueStop : (Refusal → Type 0) → Type 0 → Type 0 → Stop → Type 0
IsTrueStop CallsFor FailsAtLoad FailsAtSave (Refused refusal) = CallsFor refusal
IsTrueStop CallsFor FailsAtLoad FailsAtSave Load = FailsAtLoad
IsTrueStop CallsFor FailsAtLoad FailsAtSave Save = FailsAtSave
IsTrueStop CallsFor FailsAtLoad FailsAtSave Source = Unit {0}
IsTrueStop CallsFor FailsAtLoad FailsAtSave Memory = Unit {0}

-- the call ended so; what the other ends say is known of their status
abbrev pub IsTrueEnd : (Refusal → Type 0) → Type 0 → Type 0 → End → Type 0
IsTrueEnd CallsFor FailsAtLoad FailsAtSave Done = Unit {0}
IsTrueEnd CallsFor FailsAtLoad FailsAtSave (Stopped stop) = IsTrueStop CallsFor FailsAtLoad FailsAtSave stop
IsTrueEnd CallsFor FailsAtLoad FailsAtSave Sink = Unit {0}

-- the note of a true end with this status, over these words, was told, if need be without the reason of a fault
pub record IsNoted (status : ℕ) (words : List (List ℕ)) (True : End → Type 0) (Told : List ℕ → Type 0) : Type 0 where
  pub end : End
  pub numbered : status ≡ status_of end
  pub ended : True end
  pub told : Told (note_of end words) ⊎ Told (bare_note_of end words)
