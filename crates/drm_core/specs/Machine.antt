-- The core: a history, and what each caller has seen of it; and what events do to these.
use Rattle.std.specs.Prelude.{ℕ, ◌≡◌, ◌+◌, ◌<◌, ◌≤◌, Bool, ltb, leb, ◌&&◌, ◌||◌, if◌then◌else◌, List, [], ◌∷◌, ◌++◌, length, All, Option, Some, is_some, IfSome, slice_index, slice_set, replicate}
use Rattle.std.specs.Option.{unwrap_or}
use Rattle.drm_num.specs.FirstBroken.{unless, first_of}
use Rattle.drm_shape.specs.Validity.{IsValid}
use Rattle.drm_talk.specs.declared.Entry.{Entry}
use Rattle.drm_talk.specs.History.{shape_in}
use Rattle.drm_talk.specs.Limits.{slots, full}
use Rattle.drm_cellmap.specs.Roadmap.{Roadmap}
use Rattle.drm_core.specs.declared.event.Event.{Event}
use Rattle.drm_core.specs.declared.event.Event.TheVariants.{Edit, See}
use Rattle.drm_core.specs.declared.event.Told.{Told}
use Rattle.drm_core.specs.declared.event.Told.TheVariants.{Number, Slot, Full, Empty, Seen}
use Rattle.drm_core.specs.declared.event.CoreFault.{CoreFault}
use Rattle.drm_core.specs.declared.event.CoreFault.TheVariants.{Slot as slot_fault, Full as full_fault, Empty as empty_fault, Memory as memory_fault}

-- the map, the history, and for each caller how many entries of the history it has seen
pub record Machine : Type 0 where
  pub map : Roadmap
  pub history : List Entry
  pub seen : List ℕ

-- nothing was edited, and nothing seen
abbrev pub beginning : Roadmap → ℕ → Machine
beginning map callers = record { map = map; history = []; seen = replicate callers 0 }

-- the first rule that the entry breaks after the history: its slot is one, there is room, and a delete finds a shape
abbrev pub refusal : List Entry → Entry → Option Told
refusal history entry =
    first_of (
    unless (ltb entry.slot slots) Slot
    ∷ unless (ltb (length history) full) (Full (length history))
    ∷ unless (is_some entry.shape || is_some (shape_in history entry.slot)) (Empty (length history))
    ∷ [])

-- the caller has seen no more than this, and there is so much
abbrev pub may_see : Machine → ℕ → ℕ → Bool
may_see machine caller n = leb (slice_index machine.seen caller) n && leb n (length machine.history)

-- what the core answers to an event
abbrev pub answer : Machine → Event → Told
answer machine (Edit entry) = unwrap_or (refusal machine.history entry) (Number (length machine.history + 1))
answer machine (See caller n) = Seen (may_see machine caller n)

-- the history has gained the entry
abbrev pub added : Machine → Entry → Machine
added machine entry = record machine { history = machine.history ++ entry ∷ [] }

-- the caller has seen n entries
abbrev pub shown_to : Machine → ℕ → ℕ → Machine
shown_to machine caller n = record machine { seen = slice_set machine.seen caller n }

-- the core after an event: the history has gained the entry, or the caller has seen n, or nothing has changed
abbrev pub after : Machine → Event → Machine
after machine (Edit entry) = if is_some (refusal machine.history entry) then machine else added machine entry
after machine (See caller n) = if may_see machine caller n then shown_to machine caller n else machine

-- the answers to events, one after the other
abbrev pub answers : Machine → List Event → List Told
answers machine [] = []
answers machine (event ∷ events) = answer machine event ∷ answers (after machine event) events

-- the event may come to a core for so many callers: its shape is valid, or its caller is one of them
abbrev pub MayCome : ℕ → Event → Type 0
MayCome callers (Edit entry) = IfSome entry.shape IsValid
MayCome callers (See caller n) = caller < callers

-- the fault is the first rule that the entry breaks; want of memory may come at any time
abbrev pub IsRefusal : List Entry → Entry → CoreFault → Type 0
IsRefusal history entry slot_fault = refusal history entry ≡ Some Slot
IsRefusal history entry (full_fault n) = refusal history entry ≡ Some (Full n)
IsRefusal history entry (empty_fault n) = refusal history entry ≡ Some (Empty n)
IsRefusal history entry memory_fault = Unit {0}

-- every entry has a slot and a valid shape or none, and there are not too many
pub record IsKept (history : List Entry) : Type 0 where
  pub within : length history ≤ full
  pub slots : All (λ entry. entry.slot < slots) history
  pub shapes : All (λ entry. IfSome entry.shape IsValid) history
