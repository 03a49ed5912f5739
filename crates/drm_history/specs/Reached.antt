-- A beginning of a history, and the book in which the history stands.
use Rattle.std.specs.Prelude.{ℕ, ◌≡◌, List, length}
use Rattle.logbook.specs.Pages.{Book}
use Rattle.drm_talk.specs.declared.Entry.{Entry}
use Rattle.drm_talk.specs.History.{IsLegal}

-- the book, and the entries that were seen
pub record Reached : Type 0 where
  pub book : Book
  pub log : List Entry

-- a legal history of so many entries
pub record IsCounted (number : ℕ) (log : List Entry) : Type 0 where
  pub exact : number ≡ length log
  pub legal : IsLegal log
