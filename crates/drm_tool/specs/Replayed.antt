-- What the report of a replay is worth, whatever the schedule of its callers.
use Rattle.std.specs.Prelude.{ℕ, ◌≡◌, List, All, zip}
use Rattle.drm_talk.specs.declared.Entry.{Entry}
use Rattle.drm_talk.specs.declared.Line.{Line}
use Rattle.drm_talk.specs.declared.Reply.{Reply}
use Rattle.drm_talk.specs.declared.Reply.TheVariants.{Ask}
use Rattle.drm_talk.specs.declared.Report.{Report}
use Rattle.drm_sweep.specs.Laws.{IsPassed}
use Rattle.drm_cellmap.specs.Roadmap.{Roadmap, EachStored}
use Rattle.drm_plan.specs.Right.{TellsUnsound}
use Rattle.drm_report.specs.Report.{IsRightReport}
use Rattle.drm_report.specs.Planned.{ArePlanned, AreTruthful}
use Rattle.drm_report.specs.OneCaller.{NamesExactly}

-- the reply to an ask tells of an unsound edge
abbrev pub RepliesUnsound : Reply → Type 0
RepliesUnsound (Ask n answer) = TellsUnsound answer
RepliesUnsound _ = ⊥

-- none of the replies does
abbrev pub AreNeverUnsound : List Reply → Type 0
AreNeverUnsound replies = All (λ reply. ¬ RepliesUnsound reply) replies

-- there is one history, over which the report is what it should be
pub record IsReplayed (map : Roadmap) (lines : List Line) (report : Report) : Type 0 where
  pub history : List Entry
  -- the accepted edits are its entries; what a reply names is no smaller than what its caller had seen, and each count and
  -- each answer is right there
  pub right : IsRightReport map lines report history
  -- each answer is the plan after the edits that its reply names
  pub planned : ArePlanned map history (zip lines report.replies)
  -- it is true of the obstacles that stand then: the motions of a path touch none of them at any rational moment, and its
  -- route is a shortest one; only barred edges leave a cut; each candidate of an end that is not joined is obstructed; an
  -- unsound edge lacks the cell that is told
  pub truthful : AreTruthful map history (zip lines report.replies)
  -- over a map whose stored sweeps pass, no unsound edge is told
  pub sound : EachStored IsPassed map → AreNeverUnsound report.replies
  -- where all lines are one caller's, each named length is exactly the number of edits accepted up to its line
  pub exact : (caller : ℕ) → All (λ line. line.caller ≡ caller) lines → NamesExactly report.replies
