-- What is known once all passes have come back.
use Rattle.std.specs.Prelude.{ℕ, ◌≡◌, ◌<◌, List, map, length, All, get_or}
use Rattle.std.specs.List.{range_with_len, sum_by}
use Rattle.drm_talk.specs.declared.Entry.{Entry}
use Rattle.drm_talk.specs.History.{IsLegal}
use Rattle.drm_talk.specs.Front.{Begins}
use Rattle.drm_cellmap.specs.Snapshot.{Snapshot}
use Rattle.drm_share.specs.Own.{numbers_of, AreOwn}
use Rattle.drm_share.specs.Seen.{Seen}

-- the passes are those of callers 0, 1, 2 and so on, one for each
abbrev pub AreOneEach : ℕ → List Seen → Type 0
AreOneEach callers passes = map (λ seen. seen.caller) passes ≡ range_with_len 0 callers

-- passes that are still those of their callers are still one for each caller
abbrev pub PassesStayOneEach : Type 0
PassesStayOneEach = (callers : ℕ) (before after : List Seen) → length after ≡ length before
    → ((place : ℕ) (d : Seen) → place < length before → (get_or after place d).caller ≡ (get_or before place d).caller)
    → AreOneEach callers before → AreOneEach callers after

-- the history is legal, begins with every front, and has exactly the edits that its callers were told of, at their numbers
pub record Closes (passes : List Seen) (history : List Entry) : Type 0 where
  pub legal : IsLegal history
  pub fronts : All (λ seen. Begins seen.front history) passes
  pub total : sum_by (λ seen. length seen.own) passes ≡ length history
  pub exact : All (λ seen. seen.own ≡ numbers_of seen.caller history) passes

-- what the pass has seen begins the history, and its own edits stand there
pub record IsPartOf (history : List Entry) (seen : Seen) : Type 0 where
  pub front : Begins seen.front history
  pub own : AreOwn history seen.caller seen.own

-- the whole history, and the snapshot after it
pub record Whole : Type 0 where
  pub journal : List Entry
  pub last : Snapshot
