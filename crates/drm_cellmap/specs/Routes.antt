-- Routes over what is not barred, how long they are, and the least length there is.
use Rattle.std.specs.Prelude.{ℕ, ◌≡◌, ◌⊎◌, ◌+◌, ◌<◌, ◌≤◌, List, [], ◌∷◌, length, All, Option, None, Some}
use Rattle.drm_grid.specs.CellSet.{Has}
use Rattle.drm_road.specs.Road.{Road, weight_of, HasEnds}
use Rattle.drm_road.specs.Elements.{node_count, edge_count}
use Rattle.drm_cellmap.specs.Roadmap.{Roadmap, IsRoadmap}
use Rattle.drm_cellmap.specs.Snapshot.{Snapshot, IsSnapOf}

-- the snapshot has a flag for each node and for each edge of the road
pub record HasFlagsOf (road : Road) (snap : Snapshot) : Type 0 where
  pub nodes : length snap.nodes ≡ node_count road
  pub edges : length snap.edges ≡ edge_count road

-- the snapshot is of a road where it is of a map with that road
pub record IsSnapOn (road : Road) (snap : Snapshot) : Type 0 where
  pub map : Roadmap
  pub limits : IsRoadmap map
  pub same : map.road ≡ road
  pub of_map : IsSnapOf map snap

-- the road has the node, and it is not barred
pub record IsOpen (road : Road) (snap : Snapshot) (node : ℕ) : Type 0 where
  pub in_range : node < node_count road
  pub clear : ¬ Has snap.nodes node

-- an edge that is not barred joins u and v, in either direction, and its weight is w
pub record Joins (road : Road) (snap : Snapshot) (u v w : ℕ) : Type 0 where
  pub edge : ℕ
  pub a : ℕ
  pub b : ℕ
  pub is_edge : HasEnds road edge a b
  pub clear : ¬ Has snap.edges edge
  pub ends : ((a ≡ u) × (b ≡ v)) ⊎ ((a ≡ v) × (b ≡ u))
  pub weight : w ≡ weight_of road a b

-- over edges that are not barred, from u to these nodes in their turn, of which v is the last; the weights have the sum l
abbrev pub IsWay : Road → Snapshot → ℕ → List ℕ → ℕ → ℕ → Type 0
IsWay road snap u [] v l = (u ≡ v) × (l ≡ 0)
IsWay road snap u (next ∷ rest) v l =
    (w : ℕ) × (k : ℕ) × Joins road snap u next w × IsWay road snap next rest v k × (l ≡ w + k)

-- the nodes are not barred, each two neighbours are joined by an edge that is not barred, and the weights have the sum l
pub record IsRoute (road : Road) (snap : Snapshot) (nodes : List ℕ) (from to l : ℕ) : Type 0 where
  pub rest : List ℕ
  pub begins : nodes ≡ from ∷ rest
  pub all_open : All (IsOpen road snap) nodes
  pub way : IsWay road snap from rest to l

-- the least length of a route between two nodes, or none exactly where there is no route
abbrev pub IsBest : Road → Snapshot → ℕ → ℕ → Option ℕ → Type 0
IsBest road snap from to None = (nodes : List ℕ) (l : ℕ) → ¬ IsRoute road snap nodes from to l
IsBest road snap from to (Some l) =
    ((nodes : List ℕ) × IsRoute road snap nodes from to l)
    × ((nodes : List ℕ) (other : ℕ) → IsRoute road snap nodes from to other → l ≤ other)
