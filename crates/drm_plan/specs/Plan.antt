-- The one right answer that the planner gives to an ask.
use Rattle.std.specs.Prelude.{ℕ, ℤ, List, Option}
use Rattle.drm_talk.specs.declared.Answer.{Answer}
use Rattle.drm_talk.specs.declared.Answer.TheVariants.{Path, Cut, NoStart, NoGoal, Unsound}
use Rattle.drm_talk.specs.declared.End.{End}
use Rattle.drm_talk.specs.declared.Entry.{Entry}
use Rattle.drm_cellmap.specs.Roadmap.{Roadmap}
use Rattle.drm_cellmap.specs.Snapshot.{Snapshot}
use Rattle.drm_route.specs.declared.shortest.Found.TheVariants.{Path as Route, Cut as NoRoute}
use Rattle.drm_route.specs.Search.{IsFound}
use Rattle.drm_attach.specs.declared.ends.Way.TheVariants.{Out, Home}
use Rattle.drm_attach.specs.declared.ends.Attached.TheVariants.{Found, Nothing}
use Rattle.drm_attach.specs.Attached.{IsAttached}
use Rattle.drm_after.specs.After.{IsSnapAfter}
use Rattle.drm_plan.specs.Legs.{AreClear, IsFirstMet}
use Rattle.drm_plan.specs.Right.{AreEnds}

-- the search finds this route between the two attachments
abbrev pub IsShortestFound : Roadmap → Snapshot → End → End → ℕ → List ℕ → List (Option ℕ) → Type 0
IsShortestFound map snap first last l nodes labels = IsFound map.road snap first.node last.node (Route nodes l labels)

-- the route of an unsound edge, which the answer does not tell
pub record FindsUnsound (map : Roadmap) (snap : Snapshot) (first last : End) (edge cell : ℕ) : Type 0 where
  pub l : ℕ
  pub nodes : List ℕ
  pub labels : List (Option ℕ)
  pub found : IsShortestFound map snap first last l nodes labels
  pub met : IsFirstMet map snap nodes edge cell

-- the answer is the plan over the snapshot: the start is joined, then the goal, then a shortest route is traced back by
-- least-numbered nodes, and its first edge that sweeps an occupied cell is told with the least such cell
abbrev pub IsPlan : Roadmap → Snapshot → List ℤ → List ℤ → Answer → Type 0
IsPlan map snap start goal (Path first last l nodes labels) =
    AreEnds map snap start goal first last × IsShortestFound map snap first last l nodes labels × AreClear map snap nodes
IsPlan map snap start goal (Cut first last side) =
    AreEnds map snap start goal first last × IsFound map.road snap first.node last.node (NoRoute side)
IsPlan map snap start goal (NoStart tried) = IsAttached map snap start Out (Nothing tried)
IsPlan map snap start goal (NoGoal tried) =
    ((first : End) × IsAttached map snap start Out (Found first)) × IsAttached map snap goal Home (Nothing tried)
IsPlan map snap start goal (Unsound first last edge cell) =
    AreEnds map snap start goal first last × FindsUnsound map snap first last edge cell

-- the answer is the plan after the history
abbrev pub PlanAnswer : Roadmap → List Entry → List ℤ → List ℤ → Answer → Type 0
PlanAnswer map history start goal answer = (snap : Snapshot) × IsSnapAfter map history snap × IsPlan map snap start goal answer
