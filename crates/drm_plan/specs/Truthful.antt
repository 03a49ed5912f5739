-- What an answer tells of the obstacles themselves, without a word of swept cells.
use Rattle.std.specs.Prelude.{ℕ, ◌<◌, ◌≤◌, ℤ, List, All, Contains}
use Rattle.drm_grid.specs.CellSet.{Has}
use Rattle.drm_shape.specs.declared.Shape.{Shape}
use Rattle.drm_talk.specs.History.{IsLegal, Stands}
use Rattle.drm_talk.specs.declared.Answer.{Answer}
use Rattle.drm_talk.specs.declared.Answer.TheVariants.{Path, Cut, NoStart, NoGoal, Unsound}
use Rattle.drm_talk.specs.declared.Element.TheVariants.{Edge}
use Rattle.drm_talk.specs.declared.End.{End}
use Rattle.drm_talk.specs.declared.Entry.{Entry}
use Rattle.drm_talk.specs.declared.Tried.{Tried}
use Rattle.drm_talk.specs.declared.Why.{Why}
use Rattle.drm_talk.specs.declared.Why.TheVariants.{Barred, Cell}
use Rattle.drm_road.specs.Road.{motion_of}
use Rattle.drm_cellmap.specs.Elements.{edge_count}
use Rattle.drm_cellmap.specs.Roadmap.{Roadmap, stored}
use Rattle.drm_cellmap.specs.Snapshot.{Snapshot}
use Rattle.drm_cellmap.specs.Routes.{Joins, IsRoute}
use Rattle.drm_attach.specs.declared.ends.Way.{Way}
use Rattle.drm_attach.specs.declared.ends.Way.TheVariants.{Out, Home}
use Rattle.drm_attach.specs.Candidates.{AreCandidates}
use Rattle.drm_attach.specs.Attached.{joining_motion, nodes_tried}
use Rattle.drm_after.specs.After.{IsSnapAfter}
use Rattle.drm_plan.specs.Touches.{Touches, IsCovered, ComesNear}
use Rattle.drm_plan.specs.Legs.{IsLeg}

-- neither the joining motions nor the motions of the route's edges touch one of the shapes
pub record AreUntouched (map : Roadmap) (snap : Snapshot) (start goal : List ℤ) (first last : End) (nodes : List ℕ) (stands : Shape → Type 0) : Type 0 where
  pub out : ¬ Touches map.arm (joining_motion map.road start Out first.node) stands
  pub legs : (k edge : ℕ) → IsLeg map.road snap nodes k edge → ¬ Touches map.arm (motion_of map.road (Edge edge)) stands
  pub home : ¬ Touches map.arm (joining_motion map.road goal Home last.node) stands

-- the nodes are a route between the two attachments, and no route is shorter
pub record IsShortest (map : Roadmap) (snap : Snapshot) (first last : End) (l : ℕ) (nodes : List ℕ) : Type 0 where
  pub route : IsRoute map.road snap nodes first.node last.node l
  pub least : (others : List ℕ) (k : ℕ) → IsRoute map.road snap others first.node last.node k → l ≤ k

-- the side has the one attachment and lacks the other, and only barred edges leave it
pub record Parts (map : Roadmap) (snap : Snapshot) (first last : End) (side : List ℕ) : Type 0 where
  pub inside : Contains side first.node
  pub outside : ¬ Contains side last.node
  pub barred : (u v w : ℕ) → Joins map.road snap u v w → Contains side u → Contains side v

-- why a candidate does not join the configuration: its node is barred, or its joining motion comes near an occupied cell
abbrev pub IsObstructed : Roadmap → List Entry → Snapshot → List ℤ → Way → ℕ → Why → Type 0
IsObstructed map history snap at way node Barred = Has snap.nodes node
IsObstructed map history snap at way node (Cell cell) = ComesNear map history (joining_motion map.road at way node) cell

-- these are the candidates in their turn, and each is obstructed
pub record AreObstructed (map : Roadmap) (history : List Entry) (snap : Snapshot) (at : List ℤ) (way : Way) (tried : List Tried) : Type 0 where
  pub candidates : AreCandidates map.road at (nodes_tried tried)
  pub each : All (λ t. IsObstructed map history snap at way t.node t.why) tried

-- the edge is not barred and comes near the occupied cell, which its stored sweep lacks
pub record LacksCell (map : Roadmap) (history : List Entry) (snap : Snapshot) (edge cell : ℕ) : Type 0 where
  pub in_range : edge < edge_count map.road
  pub clear : ¬ Has snap.edges edge
  pub near : ComesNear map history (motion_of map.road (Edge edge)) cell
  pub lacks : ¬ Contains (stored map (Edge edge)) cell

-- the motions of a path touch no shape whose footprint lies in the occupied cells, whatever history put it there
abbrev pub IsUntouched : Roadmap → Snapshot → List ℤ → List ℤ → Answer → Type 0
IsUntouched map snap start goal (Path first last l nodes labels) = AreUntouched map snap start goal first last nodes (IsCovered map snap)
IsUntouched map snap start goal _ = Unit {0}

-- what the answer tells is true of the obstacles that stand after the history; the snapshot tells what they bar
abbrev pub IsTruthful : Roadmap → List Entry → Snapshot → List ℤ → List ℤ → Answer → Type 0
IsTruthful map history snap start goal (Path first last l nodes labels) =
    AreUntouched map snap start goal first last nodes (Stands history) × IsShortest map snap first last l nodes
IsTruthful map history snap start goal (Cut first last side) = Parts map snap first last side
IsTruthful map history snap start goal (NoStart tried) = AreObstructed map history snap start Out tried
IsTruthful map history snap start goal (NoGoal tried) = AreObstructed map history snap goal Home tried
IsTruthful map history snap start goal (Unsound first last edge cell) = LacksCell map history snap edge cell

-- it is true after every legal history that leaves the snapshot
abbrev pub IsTruthfulOver : Roadmap → Snapshot → List ℤ → List ℤ → Answer → Type 0
IsTruthfulOver map snap start goal answer =
    (history : List Entry) → IsLegal history → IsSnapAfter map history snap → IsTruthful map history snap start goal answer
