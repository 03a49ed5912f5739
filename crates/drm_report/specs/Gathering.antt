-- The replies to several callers: each caller's by themselves, and all in the order of the log.
use Rattle.std.specs.Prelude.{ℕ, ◌≡◌, ◌<◌, ◌==◌, List, length, All, filter, zip, slice_get, Some}
use Rattle.std.specs.List.{sum_by}
use Rattle.drm_talk.specs.Front.{Begins}
use Rattle.drm_talk.specs.declared.Entry.{Entry}
use Rattle.drm_talk.specs.declared.Line.{Line}
use Rattle.drm_talk.specs.declared.Reply.{Reply}
use Rattle.drm_cellmap.specs.Roadmap.{Roadmap}
use Rattle.drm_report.specs.Worker.{edits_in, AreRightOver}

-- the caller's lines, in their order
abbrev pub lines_of : ℕ → List Line → List Line
lines_of caller lines = filter (λ line. line.caller == caller) lines

-- the caller's lines with their replies, in the order of the lines
abbrev pub exchanges_of : ℕ → List (Line × Reply) → List (Line × Reply)
exchanges_of caller exchanges = filter (λ x. x.0.caller == caller) exchanges

-- all lines are of callers that were told replies, and the replies to each caller's lines are those that it was told, in
-- their order
pub record AreGathered (lines : List Line) (told : List (List Reply)) (replies : List Reply) : Type 0 where
  pub one_each : length replies ≡ length lines
  pub callers : All (λ line. line.caller < length told) lines
  pub each : (caller : ℕ) (mine : List Reply) → slice_get told caller ≡ Some mine → exchanges_of caller (zip lines replies) ≡ zip (lines_of caller lines) mine

-- the replies are right for the caller's lines over a front of the history
abbrev pub AreRightOverFront : Roadmap → ℕ → List Line → List Reply → List Entry → Type 0
AreRightOverFront map caller lines replies history = (front : List Entry) × Begins front history × AreRightOver map caller lines replies front

-- what each caller was told is right for its lines, as far as it saw the history, and all accepted edits together are as
-- many as the history has entries
pub record AreRightByCaller (map : Roadmap) (lines : List Line) (told : List (List Reply)) (history : List Entry) : Type 0 where
  pub each : (caller : ℕ) (mine : List Reply) → slice_get told caller ≡ Some mine → AreRightOverFront map caller (lines_of caller lines) mine history
  pub total : sum_by edits_in told ≡ length history
