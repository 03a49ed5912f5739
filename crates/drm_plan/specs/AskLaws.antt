-- What right answers to asks are worth.
use Rattle.std.specs.Prelude.{◌≡◌, ℤ, List}
use Rattle.drm_arm.specs.Config.{IsConfig}
use Rattle.drm_talk.specs.History.{IsLegal}
use Rattle.drm_talk.specs.declared.Answer.{Answer}
use Rattle.drm_talk.specs.declared.Entry.{Entry}
use Rattle.drm_sweep.specs.Laws.{IsPassed}
use Rattle.drm_cellmap.specs.Roadmap.{Roadmap, IsRoadmap, EachStored}
use Rattle.drm_cellmap.specs.Snapshot.{Snapshot, IsSnapOf}
use Rattle.drm_after.specs.After.{IsSnapAfter}
use Rattle.drm_plan.specs.Right.{IsRight, TellsUnsound}
use Rattle.drm_plan.specs.Plan.{IsPlan, PlanAnswer}
use Rattle.drm_plan.specs.Truthful.{IsUntouched, IsTruthful}

-- a snapshot of a map within its limits, and two configurations of its arm
pub record IsAsk (map : Roadmap) (snap : Snapshot) (start goal : List ℤ) : Type 0 where
  pub limits : IsRoadmap map
  pub of_map : IsSnapOf map snap
  pub start_config : IsConfig map.arm start
  pub goal_config : IsConfig map.arm goal

-- the plan is right
abbrev pub PlansAreRight : Type 0
PlansAreRight =
    (map : Roadmap) (snap : Snapshot) (start goal : List ℤ) (answer : Answer)
    → IsAsk map snap start goal → IsPlan map snap start goal answer → IsRight map snap start goal answer

-- right answers are truthful
abbrev pub RightAnswersAreTruthful : Type 0
RightAnswersAreTruthful =
    (map : Roadmap) (history : List Entry) (snap : Snapshot) (start goal : List ℤ) (answer : Answer)
    → IsAsk map snap start goal → IsLegal history → IsSnapAfter map history snap
    → IsRight map snap start goal answer → IsTruthful map history snap start goal answer

-- the motions of a right path touch no shape whose footprint lies in the occupied cells
abbrev pub RightPathsAreUntouched : Type 0
RightPathsAreUntouched =
    (map : Roadmap) (snap : Snapshot) (start goal : List ℤ) (answer : Answer)
    → IsAsk map snap start goal → IsRight map snap start goal answer → IsUntouched map snap start goal answer

-- over a map whose stored sweeps pass, no right answer tells of an unsound edge
abbrev pub PassedMapsAreNeverUnsound : Type 0
PassedMapsAreNeverUnsound =
    (map : Roadmap) (snap : Snapshot) (start goal : List ℤ) (answer : Answer)
    → IsSnapOf map snap → EachStored IsPassed map → IsRight map snap start goal answer → ¬ TellsUnsound answer

-- the plan over a snapshot is one answer
abbrev pub PlansAreDetermined : Type 0
PlansAreDetermined =
    (map : Roadmap) (snap : Snapshot) (start goal : List ℤ) (answer other : Answer)
    → IsRoadmap map → IsSnapOf map snap → IsPlan map snap start goal answer → IsPlan map snap start goal other → answer ≡ other

-- and so is the plan after a history
abbrev pub PlannedAnswersAreDetermined : Type 0
PlannedAnswersAreDetermined =
    (map : Roadmap) (history : List Entry) (start goal : List ℤ) (answer other : Answer)
    → IsRoadmap map → PlanAnswer map history start goal answer → PlanAnswer map history start goal other → answer ≡ other
