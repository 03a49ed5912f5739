-- How a configuration is joined to the roadmap.
use Rattle.std.specs.Prelude.{ℕ, ◌≡◌, ℤ, List, ◌∷◌, ◌++◌, map, All, Some}
use Rattle.drm_arm.specs.declared.config.Motion.{Motion}
use Rattle.drm_grid.specs.CellSet.{Has, IsLeast}
use Rattle.drm_talk.specs.declared.Why.{Why}
use Rattle.drm_talk.specs.declared.Why.TheVariants.{Barred, Cell}
use Rattle.drm_talk.specs.declared.Tried.{Tried}
use Rattle.drm_talk.specs.declared.End.{End}
use Rattle.drm_road.specs.Road.{Road, node_of}
use Rattle.drm_sweep.specs.Taken.{IsMet}
use Rattle.drm_cellmap.specs.Roadmap.{Roadmap}
use Rattle.drm_cellmap.specs.Snapshot.{Snapshot}
use Rattle.drm_attach.specs.declared.ends.Way.{Way}
use Rattle.drm_attach.specs.declared.ends.Way.TheVariants.{Out, Home}
use Rattle.drm_attach.specs.declared.ends.Attached.{Attached}
use Rattle.drm_attach.specs.declared.ends.Attached.TheVariants.{Found, Nothing}
use Rattle.drm_attach.specs.Candidates.{AreCandidates}

-- the motion that joins the configuration and a node: out to the node, or from the node home
abbrev pub joining_motion : Road → List ℤ → Way → ℕ → Motion
joining_motion road at Out node = record { from = at; to = node_of road node }
joining_motion road at Home node = record { from = node_of road node; to = at }

-- the cell is occupied, and the joining motion sweeps it
abbrev pub MeetsAt : Roadmap → Snapshot → List ℤ → Way → ℕ → ℕ → Type 0
MeetsAt chart snap at way node cell = IsMet chart.grid chart.arm (joining_motion chart.road at way node) 0 snap.occupied cell

-- why a node is refused: it is barred; or it is not, and this is the least occupied cell that the joining motion sweeps
abbrev pub Refuses : Roadmap → Snapshot → List ℤ → Way → ℕ → Why → Type 0
Refuses chart snap at way node Barred = Has snap.nodes node
Refuses chart snap at way node (Cell c) = (¬ Has snap.nodes node) × IsLeast (MeetsAt chart snap at way node) (Some c)

-- the node is not refused: it is not barred, and the joining motion sweeps no occupied cell
pub record IsFree (chart : Roadmap) (snap : Snapshot) (at : List ℤ) (way : Way) (node : ℕ) : Type 0 where
  pub open_node : ¬ Has snap.nodes node
  pub clear : (cell : ℕ) → ¬ MeetsAt chart snap at way node cell

-- each of the nodes that were tried is refused for the reason that is told
abbrev pub AreRefused : Roadmap → Snapshot → List ℤ → Way → List Tried → Type 0
AreRefused chart snap at way tried = All (λ t. Refuses chart snap at way t.node t.why) tried

-- the nodes that were tried
abbrev pub nodes_tried : List Tried → List ℕ
nodes_tried tried = map (λ (t : Tried). t.node) tried

-- the first candidate that is not refused, and those before it with their reasons
pub record IsEnd (chart : Roadmap) (snap : Snapshot) (at : List ℤ) (way : Way) (end : End) : Type 0 where
  pub nodes : List ℕ
  pub rest : List ℕ
  pub candidates : AreCandidates chart.road at nodes
  pub in_turn : nodes ≡ nodes_tried end.tried ++ end.node ∷ rest
  pub refused : AreRefused chart snap at way end.tried
  pub free : IsFree chart snap at way end.node

-- all candidates, each with the reason for which it is refused
pub record AreAllRefused (chart : Roadmap) (snap : Snapshot) (at : List ℤ) (way : Way) (tried : List Tried) : Type 0 where
  pub candidates : AreCandidates chart.road at (nodes_tried tried)
  pub refused : AreRefused chart snap at way tried

-- the end where a candidate is not refused, or nothing where all are
abbrev pub IsAttached : Roadmap → Snapshot → List ℤ → Way → Attached → Type 0
IsAttached chart snap at way (Found end) = IsEnd chart snap at way end
IsAttached chart snap at way (Nothing tried) = AreAllRefused chart snap at way tried
