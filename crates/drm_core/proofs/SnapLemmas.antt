-- What a table of slots covers is what stands after the entries, and what a core keeps over events.
use Rattle.std.proofs.Common.{◌≡◌, ℕ, [], ◌∷◌, ◌++◌, length, refl, Bool, true, false, length-set}
use Rattle.std.specs.Prelude.{slice_set, if◌then◌else◌, is_some}
use Rattle.drm_talk.specs.declared.Entry.{Entry}
use Rattle.drm_core.specs.Machine.{Machine, after, may_see, refusal}
use Rattle.drm_core.specs.declared.event.Event.{Event}
use Rattle.drm_core.specs.declared.event.Event.TheVariants.{Edit, See}

edited : (machine : Machine) (entry : Entry) (b : Bool) → length (if b then machine else record machine { history = machine.history ++ entry ∷ [] }).seen ≡ length machine.seen
edited machine entry true = refl
edited machine entry false = refl

looked : (machine : Machine) (caller n : ℕ) (b : Bool) → length (if b then record machine { seen = slice_set machine.seen caller n } else machine).seen ≡ length machine.seen
looked machine caller n true = length-set machine.seen caller n
looked machine caller n false = refl

-- events leave the number of callers
pub after_seen : (machine : Machine) (event : Event) → length (after machine event).seen ≡ length machine.seen
after_seen machine (Edit entry) = edited machine entry (is_some (refusal machine.history entry))
after_seen machine (See caller n) = looked machine caller n (may_see machine caller n)
