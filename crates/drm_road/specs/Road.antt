-- Roadmaps as contracts see them.
use Rattle.std.specs.Prelude.{◌≡◌, ℕ, ◌<◌, ◌≤◌, ℤ, List, [], length, slice_index_or, slice_get, AllPairs, Some}
use Rattle.drm_arm.specs.declared.config.Motion.{Motion}
use Rattle.drm_arm.specs.Distance.{distance}
use Rattle.drm_talk.specs.declared.Element.{Element}
use Rattle.drm_talk.specs.declared.Element.TheVariants.{Node, Edge}
use Rattle.drm_road.specs.Limits.{max_nodes, max_edges}
use Rattle.drm_road.specs.Pairs.{AreLikeNodes, Precedes}

-- a roadmap: the configurations at the nodes, and for each edge its two nodes
pub record Road : Type 0 where
  pub nodes : List (List ℤ)
  pub edges : List (ℕ × ℕ)

-- the edge with this number joins the nodes a and b
abbrev pub HasEnds : Road → ℕ → ℕ → ℕ → Type 0
HasEnds road edge a b = slice_get road.edges edge ≡ Some (a, b)

-- a roadmap within the limits: different configurations with equally many joints, and edges in increasing order
pub record IsRoad (road : Road) : Type 0 where
  pub some : 1 ≤ length road.nodes
  pub few : length road.nodes ≤ max_nodes
  pub alike : AreLikeNodes road.nodes
  pub few_edges : length road.edges ≤ max_edges
  pub ends : (edge a b : ℕ) → HasEnds road edge a b → (a < b) × (b < length road.nodes)
  pub increasing : AllPairs Precedes road.edges

-- the configuration at a node
abbrev pub node_of : Road → ℕ → List ℤ
node_of road i = slice_index_or road.nodes i []

-- the weight of an edge between two nodes: how far apart they are
abbrev pub weight_of : Road → ℕ → ℕ → ℕ
weight_of road a b = distance (node_of road a) (node_of road b)

-- the roadmap has the element
abbrev pub IsPart : Road → Element → Type 0
IsPart road (Node i) = i < length road.nodes
IsPart road (Edge i) = i < length road.edges

-- the motion of an element: a node stays where it is, and an edge leads from its lesser node to its greater one
abbrev pub motion_of : Road → Element → Motion
motion_of road (Node i) = record { from = node_of road i; to = node_of road i }
motion_of road (Edge i) =
    let edge = slice_index_or road.edges i (0, 0) in
    record { from = node_of road edge.0; to = node_of road edge.1 }
