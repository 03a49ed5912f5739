-- The rule of the shared book of a history, and what its steps tell.
use Rattle.std.specs.Prelude.{ℕ, ◌≡◌, ◌+◌, ◌<◌, ◌≤◌, ◌==◌, true, List, [], ◌∷◌, ◌++◌, length, slice_get, MatchBool, Some}
use Rattle.logbook.specs.Pages.{Cell, cell, Step, View, Book, Named, nib, may_make, may_write}
use Rattle.logbook.specs.declared.tokens.Pen.{Pen}
use Rattle.drm_talk.specs.declared.Entry.{Entry}
use Rattle.drm_talk.specs.History.{IsLegal}

-- the history is legal, word 0 holds the number of words, and word i + 2 is at home once entry i stands
pub record IsKept (cells : List Cell) (log : List Entry) : Type 0 where
  pub head : cell cells 0 ≡ (length cells, true)
  pub homes : (i : ℕ) → i < length log → (cell cells (i + 2)).1 ≡ true
  pub legal : IsLegal log

-- word 0 of the book
abbrev pub head_of : Book → Named
head_of book = record { tracked = true; key = 0; book = book }

-- the pens of the entries from this one on are there: that of entry i may still write word i + 2
abbrev pub AreReady : Book → ℕ → List Pen → Type 0
AreReady book from pens =
    (i : ℕ) (pen : Pen) → from ≤ i → slice_get pens i ≡ Some pen → (pen.book ≡ book) × (pen.nib ≡ nib may_write (i + 2) 0)

-- where word 0 held the expected number, one more word may be made, with that number as its key
abbrev pub Makes : Step Entry → View Entry ℕ → ℕ → View Entry ℕ → Type 0
Makes step before found after = MatchBool (found == step.old) (after.1.0 ≡ nib may_make step.old 0) (Unit {0})

-- the entry was added to all that had been seen
abbrev pub Adds : Step Entry → View Entry ℕ → ℕ → View Entry ℕ → Type 0
Adds step before found after = (after.0 ≡ before.0 ++ step.ask ∷ []) × IsLegal after.0

-- the history is not longer than the pen's word tells
abbrev pub Looks : Step Entry → View Entry ℕ → ℕ → View Entry ℕ → Type 0
Looks step before found after = (length after.0 + 2 ≤ before.1.0.key) × (after.1.0 ≡ before.1.0)
