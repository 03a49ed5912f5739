-- What all workers have done, and what the replay of a log comes to.
use Rattle.std.specs.Prelude.{ℕ, ◌≡◌, ◌<◌, List, length, zip, slice_get, slice_index_or, Some, Result, Ok, Err}
use Rattle.drm_talk.specs.declared.Entry.{Entry}
use Rattle.drm_talk.specs.declared.Line.{Line}
use Rattle.drm_talk.specs.declared.Reply.{Reply}
use Rattle.drm_cellmap.specs.Roadmap.{Roadmap}
use Rattle.drm_outside.specs.declared.faults.Memory.{Memory}
use Rattle.drm_talk.specs.declared.Report.{Report}
use Rattle.drm_report.specs.Gathering.{AreGathered}
use Rattle.drm_report.specs.Planned.{ArePlanned, AreTruthful}
use Rattle.drm_report.specs.Report.{IsRightReport}
use Rattle.drm_share.specs.Closing.{AreOneEach}
use Rattle.drm_share.specs.Seen.{Seen, fresh}
use Rattle.drm_work.specs.Work.{WorksThrough}

-- the worker has served its caller's lines with these replies, or had no memory and did nothing
abbrev pub IsJobDone : Roadmap → List Line → Seen → Seen → Result (List Reply) Memory → Type 0
IsJobDone map lines before after (Ok replies) = WorksThrough map lines replies before after
IsJobDone map lines before after (Err fault) = after ≡ before

-- each worker has done its job with the pass that it was given: the job tells its pass and what its caller was told
abbrev pub AreJobsDone : {J : Type 0} → (J → Seen) → (J → Result (List Reply) Memory) → Roadmap → List Line → List Seen → List J → Type 0
AreJobsDone {J} pass_in told_in map lines begun jobs =
    (i : ℕ) (d : Seen) (e : J) → i < length begun
    → IsJobDone map lines (slice_index_or begun i d) (pass_in (slice_index_or jobs i e)) (told_in (slice_index_or jobs i e))

-- the passes are one for each caller, and each has served its caller's lines from an empty history on, with the replies
-- that its caller was told
pub record HaveServed (map : Roadmap) (lines : List Line) (told : List (List Reply)) (passes : List Seen) : Type 0 where
  pub one_each : AreOneEach (length told) passes
  pub each : (caller : ℕ) (mine : List Reply) (pass : Seen) → slice_get told caller ≡ Some mine → slice_get passes caller ≡ Some pass → WorksThrough map lines mine (fresh caller) pass

-- all lines of the log have been served, each by its caller's pass
pub record IsServed (map : Roadmap) (lines : List Line) (passes : List Seen) (replies : List Reply) : Type 0 where
  pub told : List (List Reply)
  pub served : HaveServed map lines told passes
  pub gathered : AreGathered lines told replies

-- the report is right for the history, and each ask is answered by the plan after the length that its reply names, and
-- truthfully of the obstacles that stand then
pub record IsReplayOf (map : Roadmap) (lines : List Line) (report : Report) (history : List Entry) : Type 0 where
  pub right : IsRightReport map lines report history
  pub planned : ArePlanned map history (zip lines report.replies)
  pub truthful : AreTruthful map history (zip lines report.replies)
