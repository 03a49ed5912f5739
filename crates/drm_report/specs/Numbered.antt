-- What accepted edits, full histories and empty slots are by their numbers in the whole history.
use Rattle.std.specs.Prelude.{ℕ, ◌≡◌, ◌<◌, List, length, take, Option, None}
use Rattle.drm_shape.specs.declared.Shape.{Shape}
use Rattle.drm_talk.specs.Limits.{full}
use Rattle.drm_talk.specs.History.{shape_in, IsEntry}
use Rattle.drm_talk.specs.declared.Entry.{Entry}

-- entry n of the history is an edit of this caller, which leaves the slot with this content
abbrev pub IsEditAt : List Entry → ℕ → ℕ → ℕ → Option Shape → Type 0
IsEditAt history n caller slot content =
    (entry : Entry) × IsEntry history n entry × (entry.caller ≡ caller) × (entry.slot ≡ slot) × (entry.shape ≡ content)

-- the history has the greatest length, and n is it
abbrev pub IsFullAt : List Entry → ℕ → Type 0
IsFullAt history n = (n ≡ full) × (length history ≡ full)

-- the slot was empty after the first n entries, and the history was not full then
abbrev pub IsEmptyAt : List Entry → ℕ → ℕ → Type 0
IsEmptyAt history n slot = (n < full) × (shape_in (take n history) slot ≡ None)
