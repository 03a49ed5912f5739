-- The fronts of a history, each its first entries, and what a front shows by itself.
use Rattle.std.specs.Prelude.{◌≡◌, ℕ, ◌<◌, List, [], ◌∷◌, ◌++◌, length, Option, None}
use Rattle.drm_shape.specs.declared.Shape.{Shape}
use Rattle.drm_talk.specs.declared.Entry.{Entry}
use Rattle.drm_talk.specs.Limits.{full}
use Rattle.drm_talk.specs.History.{shape_in}

-- the history begins with this front
abbrev pub Begins : List Entry → List Entry → Type 0
Begins front history = (rest : List Entry) × (history ≡ front ++ rest)

-- the front's last entry is an edit of this caller, which leaves the slot with this content
abbrev pub EndsWithEdit : List Entry → ℕ → ℕ → Option Shape → Type 0
EndsWithEdit front caller slot content =
    (before : List Entry) × (entry : Entry) × (front ≡ before ++ entry ∷ [])
    × (entry.caller ≡ caller) × (entry.slot ≡ slot) × (entry.shape ≡ content)

-- the front takes no more entries
abbrev pub IsFull : List Entry → Type 0
IsFull front = length front ≡ full

-- the front takes more entries, and the slot is empty after it
abbrev pub LacksSlot : List Entry → ℕ → Type 0
LacksSlot front slot = (length front < full) × (shape_in front slot ≡ None)
