-- Right reports: one history, whose entries are the accepted edits, and a right reply to each line.
use Rattle.std.specs.Prelude.{ℕ, ◌≡◌, ◌<◌, ◌≤◌, List, length, Some, IsSome, All, AllPairs, filter_map, zip, IsPermutation}
use Rattle.std.specs.List.{range_with_len}
use Rattle.drm_talk.specs.History.{IsLegal}
use Rattle.drm_talk.specs.Exchange.{named, accepted}
use Rattle.drm_talk.specs.declared.Entry.{Entry}
use Rattle.drm_talk.specs.declared.Line.{Line}
use Rattle.drm_talk.specs.declared.Reply.{Reply}
use Rattle.drm_talk.specs.declared.Report.{Report}
use Rattle.drm_cellmap.specs.Roadmap.{Roadmap}
use Rattle.drm_cellmap.specs.Barred.{AreTotals}
use Rattle.drm_after.specs.After.{IsOccupiedAfter}
use Rattle.drm_report.specs.Reply.{RightReply}

-- of two replies to one caller: the later one names no smaller length, and a greater one where it tells of an accepted edit
abbrev pub IsNotBelow : Reply → Reply → Type 0
IsNotBelow earlier later =
    (a b : ℕ) → named earlier ≡ Some a → named later ≡ Some b → (a ≤ b) × (IsSome (accepted later) → a < b)

-- the replies are right for the lines, where the accepted edits are the history
pub record AreRightReplies (map : Roadmap) (lines : List Line) (replies : List Reply) (history : List Entry) : Type 0 where
  pub one_each : length replies ≡ length lines
  -- the accepted edits are numbered from 1 to the history's length, each number once
  pub numbered : IsPermutation (filter_map accepted replies) (range_with_len 1 (length history))
  pub legal : IsLegal history
  pub right : All (λ x. RightReply map history x.0.caller x.0.act x.1) (zip lines replies)
  -- what a caller's reply names is no smaller than what that caller had seen
  pub rising : AllPairs (λ x y. x.0.caller ≡ y.0.caller → IsNotBelow x.1 y.1) (zip lines replies)

-- the report is right: its replies are, and its end tells the history's length and what is barred after it
pub record IsRightReport (map : Roadmap) (lines : List Line) (report : Report) (history : List Entry) : Type 0 where
  pub replies : AreRightReplies map lines report.replies history
  pub number : report.number ≡ length history
  pub totals : AreTotals map (IsOccupiedAfter map history) report.nodes report.edges
