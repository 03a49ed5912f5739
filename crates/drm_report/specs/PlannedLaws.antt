-- Planned answers, where the history goes on and where the replies of several callers are gathered.
use Rattle.std.specs.Prelude.{ℕ, ◌≡◌, List, [], ◌∷◌, ◌++◌, length, zip, slice_get, Some}
use Rattle.drm_talk.specs.Front.{Begins}
use Rattle.drm_talk.specs.declared.Entry.{Entry}
use Rattle.drm_talk.specs.declared.Line.{Line}
use Rattle.drm_talk.specs.declared.Reply.{Reply}
use Rattle.drm_cellmap.specs.Roadmap.{Roadmap, IsRoadmap}
use Rattle.drm_report.specs.Gathering.{lines_of, AreGathered}
use Rattle.drm_report.specs.Planned.{IsPlanned, ArePlanned, AreTruthful}
use Rattle.drm_report.specs.Report.{AreRightReplies}
use Rattle.drm_report.specs.Step.{Serves}

-- one more line of a caller is served, an ask by the plan: so all asks are answered by the plan with its reply
abbrev pub PlannedAnswersGoOn : Type 0
PlannedAnswersGoOn =
    (map : Roadmap) (caller : ℕ) (lines : List Line) (replies : List Reply) (line : Line) (reply : Reply) (before after : List Entry)
    → length replies ≡ length lines → ArePlanned map before (zip lines replies)
    → Serves map caller line.act reply before after → IsPlanned map after line.act reply
    → ArePlanned map after (zip (lines ++ line ∷ []) (replies ++ reply ∷ []))

-- the caller's asks are answered by plans over a front of the history
abbrev pub ArePlannedOverFront : Roadmap → ℕ → List Line → List Reply → List Entry → Type 0
ArePlannedOverFront map caller lines replies history =
    (front : List Entry) × Begins front history × ArePlanned map front (zip (lines_of caller lines) replies)

-- each caller's asks are answered by plans, as far as it saw the history: so are they in the order of the log
abbrev pub GatheredAnswersArePlanned : Type 0
GatheredAnswersArePlanned =
    (map : Roadmap) (lines : List Line) (told : List (List Reply)) (replies : List Reply) (history : List Entry)
    → AreGathered lines told replies
    → ((caller : ℕ) (mine : List Reply) → slice_get told caller ≡ Some mine → ArePlannedOverFront map caller lines mine history)
    → ArePlanned map history (zip lines replies)

-- right replies whose asks are answered by plans tell what is true of the obstacles
abbrev pub PlannedAnswersAreTruthful : Type 0
PlannedAnswersAreTruthful =
    (map : Roadmap) (lines : List Line) (replies : List Reply) (history : List Entry)
    → IsRoadmap map → AreRightReplies map lines replies history → ArePlanned map history (zip lines replies)
    → AreTruthful map history (zip lines replies)
