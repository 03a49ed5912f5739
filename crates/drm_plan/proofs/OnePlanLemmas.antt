-- The plan is determined: it goes in steps, and what each step finds is one.
use Rattle.std.proofs.Common.{◌≡◌, ℕ, ℤ, List, Option, None, Some, refl, ap, sym, ◌∙◌, subst}
use Rattle.drm_talk.specs.declared.Answer.{Answer}
use Rattle.drm_talk.specs.declared.Answer.TheVariants.{Path, Cut, NoStart, NoGoal, Unsound}
use Rattle.drm_talk.specs.declared.End.{End}
use Rattle.drm_cellmap.specs.Roadmap.{Roadmap, IsRoadmap}
use Rattle.drm_cellmap.specs.Snapshot.{Snapshot, IsSnapOf}
use Rattle.drm_route.specs.declared.shortest.Found.{Found}
use Rattle.drm_route.specs.declared.shortest.Found.TheVariants.{Path as Route, Cut as NoRoute}
use Rattle.drm_route.specs.Search.{IsFound}
use Rattle.drm_route.specs.Laws.{FoundIsDetermined}
use Rattle.drm_attach.specs.declared.ends.Way.TheVariants.{Out, Home}
use Rattle.drm_attach.specs.declared.ends.Attached.{Attached}
use Rattle.drm_attach.specs.declared.ends.Attached.TheVariants.{Found as Joined, Nothing}
use Rattle.drm_attach.specs.Attached.{IsAttached}
use Rattle.drm_attach.specs.Laws.{AttachmentsAreDetermined}
use Rattle.drm_after.specs.After.{SnapsAreDetermined}
use Rattle.drm_plan.specs.Legs.{AreClear, IsFirstMet}
use Rattle.drm_plan.specs.Right.{AreEnds}
use Rattle.drm_plan.specs.Plan.{IsPlan}
use Rattle.drm_plan.specs.AskLaws.{PlansAreDetermined, PlannedAnswersAreDetermined}
use Rattle.drm_plan.proofs.AnswerLemmas.{attached_is_open, is_snap_on}
use Rattle.drm_plan.proofs.LegLemmas.{first_met_is_one}

-- ---- a step: something is found, and the answer goes by it

record Step {A : Type 0} (Is : A → Type 0) (Goes : A → Answer → Type 0) (answer : Answer) : Type 0 where
  found : A
  is : Is found
  goes : Goes found answer

-- no two are of the kind
abbrev IsOne : {A : Type 0} → (A → Type 0) → Type 0
IsOne {A} Is = (a b : A) → Is a → Is b → a ≡ b

-- where one is found, and one answer goes by it, a step has one answer
step_is_one : {A : Type 0} (Is : A → Type 0) (Goes : A → Answer → Type 0) → IsOne Is → ((a : A) → Is a → IsOne (Goes a)) → IsOne (Step Is Goes)
step_is_one {A} Is Goes one each answer other first second =
    let same = one second.found first.found second.is first.is in
    each first.found first.is answer other first.goes (subst (λ (a : A). Goes a other) same second.goes)

-- one answer is this one
this_is_one : (this : Answer) → IsOne (λ (answer : Answer). answer ≡ this)
this_is_one this answer other first second = first ∙ sym second

module _ (map : Roadmap) (snap : Snapshot) (start goal : List ℤ) where
  -- ---- the steps of a plan, the last one first

  -- no leg of the route is met, or this edge is the first one, in this cell
  abbrev IsMetFirst : List ℕ → Option (ℕ × ℕ) → Type 0
  IsMetFirst nodes None = AreClear map snap nodes
  IsMetFirst nodes (Some met) = IsFirstMet map snap nodes met.0 met.1

  -- then the answer is the path, or the unsound edge
  abbrev GoesByMet : End → End → ℕ → List ℕ → List (Option ℕ) → Option (ℕ × ℕ) → Answer → Type 0
  GoesByMet first last l nodes labels None answer = answer ≡ Path first last l nodes labels
  GoesByMet first last l nodes labels (Some met) answer = answer ≡ Unsound first last met.0 met.1

  -- by what the search finds: the cut, or by what is met over the route
  abbrev GoesByFound : End → End → Found → Answer → Type 0
  GoesByFound first last (NoRoute side) answer = answer ≡ Cut first last side
  GoesByFound first last (Route nodes l labels) answer = Step (IsMetFirst nodes) (GoesByMet first last l nodes labels) answer

  -- by how the goal is joined: that it is not, or by what the search finds
  abbrev GoesByGoal : End → Attached → Answer → Type 0
  GoesByGoal first (Nothing tried) answer = answer ≡ NoGoal tried
  GoesByGoal first (Joined last) answer = Step (IsFound map.road snap first.node last.node) (GoesByFound first last) answer

  -- by how the start is joined: that it is not, or by how the goal is
  abbrev GoesByStart : Attached → Answer → Type 0
  GoesByStart (Nothing tried) answer = answer ≡ NoStart tried
  GoesByStart (Joined first) answer = Step (IsAttached map snap goal Home) (GoesByGoal first) answer

  -- the steps up to the search
  between : (first last : End) (answer : Answer) → AreEnds map snap start goal first last → Step (IsFound map.road snap first.node last.node) (GoesByFound first last) answer
      → Step (IsAttached map snap start Out) GoesByStart answer
  between first last answer ends step = record { found = Joined first; is = ends.out; goes = record { found = Joined last; is = ends.home; goes = step } }

  -- a plan goes by these steps
  in_steps : (answer : Answer) → IsPlan map snap start goal answer → Step (IsAttached map snap start Out) GoesByStart answer
  in_steps (Path first last l nodes labels) (ends, found, clear) =
      between first last (Path first last l nodes labels) ends (record { found = Route nodes l labels; is = found; goes = record { found = None; is = clear; goes = refl } })
  in_steps (Cut first last side) (ends, found) = between first last (Cut first last side) ends (record { found = NoRoute side; is = found; goes = refl })
  in_steps (NoStart tried) none = record { found = Nothing tried; is = none; goes = refl }
  in_steps (NoGoal tried) ((first, joined), none) = record { found = Joined first; is = joined; goes = record { found = Nothing tried; is = none; goes = refl } }
  in_steps (Unsound first last edge cell) (ends, u) =
      between first last (Unsound first last edge cell) ends (record { found = Route u.nodes u.l u.labels; is = u.found; goes = record { found = Some (edge, cell); is = u.met; goes = refl } })

  -- ---- each step has one answer

  module _ (attachments : AttachmentsAreDetermined) (finds : FoundIsDetermined) (limits : IsRoadmap map) (of_map : IsSnapOf map snap) where
    met_is_one : (nodes : List ℕ) → IsOne (IsMetFirst nodes)
    met_is_one nodes None None clear clear_too = refl
    met_is_one nodes None (Some met) clear first = absurd (clear first.k met.0 met.1 first.leg first.least.0)
    met_is_one nodes (Some met) None first clear = absurd (clear first.k met.0 met.1 first.leg first.least.0)
    met_is_one nodes (Some met) (Some other) first second =
        let (edge, cell) = first_met_is_one map snap nodes met.0 other.0 met.1 other.1 limits.road first second in
        ap (λ (i : ℕ). Some (i, met.1)) edge ∙ ap (λ (c : ℕ). Some (other.0, c)) cell

    by_met_is_one : (first last : End) (l : ℕ) (nodes : List ℕ) (labels : List (Option ℕ)) (met : Option (ℕ × ℕ)) → IsOne (GoesByMet first last l nodes labels met)
    by_met_is_one first last l nodes labels None = this_is_one (Path first last l nodes labels)
    by_met_is_one first last l nodes labels (Some met) = this_is_one (Unsound first last met.0 met.1)

    by_found_is_one : (first last : End) (found : Found) → IsOne (GoesByFound first last found)
    by_found_is_one first last (NoRoute side) = this_is_one (Cut first last side)
    by_found_is_one first last (Route nodes l labels) = step_is_one (IsMetFirst nodes) (GoesByMet first last l nodes labels) (met_is_one nodes) (λ met is. by_met_is_one first last l nodes labels met)

    by_goal_is_one : (first : End) → IsAttached map snap start Out (Joined first) → (attached : Attached) → IsOne (GoesByGoal first attached)
    by_goal_is_one first joined (Nothing tried) = this_is_one (NoGoal tried)
    by_goal_is_one first joined (Joined last) = step_is_one (IsFound map.road snap first.node last.node) (GoesByFound first last)
        (λ found other is too. finds map.road snap first.node last.node found other (is_snap_on map snap limits of_map) (attached_is_open map snap start Out first joined) is too)
        (λ found is. by_found_is_one first last found)

    by_start_is_one : (attached : Attached) → IsAttached map snap start Out attached → IsOne (GoesByStart attached)
    by_start_is_one (Nothing tried) none = this_is_one (NoStart tried)
    by_start_is_one (Joined first) joined = step_is_one (IsAttached map snap goal Home) (GoesByGoal first) (attachments map snap goal Home) (λ attached is. by_goal_is_one first joined attached)

-- the plan over a snapshot
pub plan_is_one : AttachmentsAreDetermined → FoundIsDetermined → PlansAreDetermined
plan_is_one attachments finds map snap start goal answer other limits of_map is too =
    step_is_one (IsAttached map snap start Out) (GoesByStart map snap start goal) (attachments map snap start Out) (by_start_is_one map snap start goal attachments finds limits of_map)
    answer other (in_steps map snap start goal answer is) (in_steps map snap start goal other too)

-- ---- after a history

-- the plan after a history
pub planned_is_one : SnapsAreDetermined → PlansAreDetermined → PlannedAnswersAreDetermined
planned_is_one one_snap one map history start goal answer other limits (snap, after, is) (snap_too, after_too, too) =
    let same = one_snap map history snap_too snap after_too after in
    one map snap start goal answer other limits after.barred is (subst (λ (s : Snapshot). IsPlan map s start goal other) same too)
