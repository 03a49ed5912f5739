-- Which answers to an ask are right.
use Rattle.std.specs.Prelude.{ℕ, ◌<◌, ℤ, List}
use Rattle.drm_grid.specs.CellSet.{Has}
use Rattle.drm_talk.specs.declared.Answer.{Answer}
use Rattle.drm_talk.specs.declared.Answer.TheVariants.{Path, Cut, NoStart, NoGoal, Unsound}
use Rattle.drm_talk.specs.declared.End.{End}
use Rattle.drm_talk.specs.declared.Entry.{Entry}
use Rattle.drm_cellmap.specs.Elements.{edge_count}
use Rattle.drm_cellmap.specs.Roadmap.{Roadmap}
use Rattle.drm_cellmap.specs.Snapshot.{Snapshot}
use Rattle.drm_cellmap.specs.Certificates.{PathCert, CutCert}
use Rattle.drm_attach.specs.declared.ends.Way.TheVariants.{Out, Home}
use Rattle.drm_attach.specs.declared.ends.Attached.TheVariants.{Found, Nothing}
use Rattle.drm_attach.specs.Attached.{IsAttached}
use Rattle.drm_after.specs.After.{IsSnapAfter}
use Rattle.drm_plan.specs.Legs.{EdgeMeets, AreClear}

-- the start is joined to the roadmap by the one end, and the goal by the other
pub record AreEnds (map : Roadmap) (snap : Snapshot) (start goal : List ℤ) (first last : End) : Type 0 where
  pub out : IsAttached map snap start Out (Found first)
  pub home : IsAttached map snap goal Home (Found last)

-- an edge that is not barred, and yet sweeps the occupied cell
pub record IsUnsound (map : Roadmap) (snap : Snapshot) (edge cell : ℕ) : Type 0 where
  pub in_range : edge < edge_count map.road
  pub clear : ¬ Has snap.edges edge
  pub met : EdgeMeets map snap edge cell

-- the answer tells of an unsound edge
abbrev pub TellsUnsound : Answer → Type 0
TellsUnsound (Unsound first last edge cell) = Unit {0}
TellsUnsound _ = ⊥

-- the answer is right over the snapshot: a certified route whose edges sweep no occupied cell, a certified cut, an end
-- that is not joined, the start before the goal, or an edge whose stored sweep lacks a cell
abbrev pub IsRight : Roadmap → Snapshot → List ℤ → List ℤ → Answer → Type 0
IsRight map snap start goal (Path first last l nodes labels) =
    AreEnds map snap start goal first last × PathCert map.road snap first.node last.node nodes l labels × AreClear map snap nodes
IsRight map snap start goal (Cut first last side) =
    AreEnds map snap start goal first last × CutCert map.road snap first.node last.node side
IsRight map snap start goal (NoStart tried) = IsAttached map snap start Out (Nothing tried)
IsRight map snap start goal (NoGoal tried) =
    ((first : End) × IsAttached map snap start Out (Found first)) × IsAttached map snap goal Home (Nothing tried)
IsRight map snap start goal (Unsound first last edge cell) =
    AreEnds map snap start goal first last × IsUnsound map snap edge cell

-- the answer is right after the history
abbrev pub RightAnswer : Roadmap → List Entry → List ℤ → List ℤ → Answer → Type 0
RightAnswer map history start goal answer = (snap : Snapshot) × IsSnapAfter map history snap × IsRight map snap start goal answer
