-- What the answer to an edit tells the caller.
use Rattle.std.specs.Prelude.{ℕ, ◌≡◌, ◌<◌, ◌≤◌, List, [], ◌∷◌, ◌++◌, length, Option, IsNone, Result, Ok, Err}
use Rattle.drm_shape.specs.declared.Shape.{Shape}
use Rattle.drm_talk.specs.declared.Entry.{Entry}
use Rattle.drm_talk.specs.Front.{IsFull, LacksSlot}
use Rattle.drm_talk.specs.Limits.{slots}
use Rattle.drm_share.specs.Seen.{Seen, ReadsOn, EditsOn}
use Rattle.drm_share.specs.declared.fault.EditFault.{EditFault}
use Rattle.drm_share.specs.declared.fault.EditFault.TheVariants.{Slot, Full, Empty, Memory}

-- the edit is entry n of the history; or it was refused, for a cause that the front shows
abbrev pub EditAnswers : Seen → Seen → ℕ → Option Shape → Result ℕ EditFault → Type 0
EditAnswers before after slot content (Ok n) = (slot < slots) × EditsOn before after n slot content
EditAnswers before after slot content (Err Slot) = (slots ≤ slot) × ReadsOn before after
EditAnswers before after slot content (Err (Full n)) =
    (slot < slots) × ReadsOn before after × (n ≡ length after.front) × IsFull after.front
EditAnswers before after slot content (Err (Empty n)) =
    (slot < slots) × ReadsOn before after × (n ≡ length after.front) × LacksSlot after.front slot × IsNone content
EditAnswers before after slot content (Err Memory) = (slot < slots) × ReadsOn before after

-- what an edit did at the lock: the history has gained one entry, or is as it was; and all of it was seen, except where
-- there was no memory
abbrev pub EditsAtLock : List Entry → List Entry → List Entry → Result ℕ EditFault → Type 0
EditsAtLock front before after (Ok n) = (front ≡ after) × ((entry : Entry) × (after ≡ before ++ entry ∷ []))
EditsAtLock front before after (Err Slot) = (after ≡ before) × (front ≡ before)
EditsAtLock front before after (Err (Full n)) = (after ≡ before) × (front ≡ before)
EditsAtLock front before after (Err (Empty n)) = (after ≡ before) × (front ≡ before)
EditsAtLock front before after (Err Memory) = after ≡ before
