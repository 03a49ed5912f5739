-- Histories of accepted edits: what the slots hold after them, and which entries may follow.
use Rattle.std.specs.Prelude.{◌≡◌, ℕ, ◌+◌, ◌<◌, List, [], ◌∷◌, ◌++◌, length, take, slice_get, count_by, ◌==◌, if◌then◌else◌, Option, None, Some, IsNone, IsSome, IfSome}
use Rattle.drm_shape.specs.declared.Shape.{Shape}
use Rattle.drm_shape.specs.Validity.{IsValid}
use Rattle.drm_talk.specs.declared.Entry.{Entry}
use Rattle.drm_talk.specs.Limits.{slots, full}

-- what a slot that held `before` holds after these entries: the last entry of the slot decides
abbrev pub shape_after : Option Shape → ℕ → List Entry → Option Shape
shape_after before slot [] = before
shape_after before slot (entry ∷ entries) =
    shape_after (if entry.slot == slot then entry.shape else before) slot entries

-- what a slot holds after a history, which begins with all slots empty
abbrev pub shape_in : List Entry → ℕ → Option Shape
shape_in history slot = shape_after None slot history

-- the shape stands in some slot after the history
abbrev pub Stands : List Entry → Shape → Type 0
Stands history shape = (slot : ℕ) × (shape_in history slot ≡ Some shape)

-- how many entries of the history are the caller's
abbrev pub made_by : ℕ → List Entry → ℕ
made_by caller history = count_by (λ entry. entry.caller == caller) history

-- the entry is one that the planner may accept after the history
pub record MayFollow (history : List Entry) (entry : Entry) (count : ℕ) : Type 0 where
  pub room : count < full
  pub slot : entry.slot < slots
  pub shape : IfSome entry.shape IsValid
  pub found : IsNone entry.shape → IsSome (shape_in history entry.slot)
  pub numbered : entry.seq ≡ made_by entry.caller history + 1

-- each entry may follow those before it
abbrev pub IsLegal : List Entry → Type 0
IsLegal history = (n : ℕ) (entry : Entry) → slice_get history n ≡ Some entry → MayFollow (take n history) entry n

-- the n-th entry of the history, counted from 1
abbrev pub IsEntry : List Entry → ℕ → Entry → Type 0
IsEntry history n entry = (k : ℕ) × (n ≡ k + 1) × (slice_get history k ≡ Some entry)

-- a legal history stays legal with an entry that may follow
abbrev pub LegalHistoriesGoOn : Type 0
LegalHistoriesGoOn =
    (history : List Entry) (entry : Entry) → IsLegal history → MayFollow history entry (length history)
    → IsLegal (history ++ entry ∷ [])
