-- Counts of occupied cells, and which elements are barred. A set of occupied cells is given as a property of cells.
use Rattle.std.specs.Prelude.{ℕ, ◌≡◌, ◌⊎◌, ◌<◌, List, [], length, slice_index, slice_index_or}
use Rattle.std.specs.List.{range_with_len}
use Rattle.drm_road.specs.Road.{HasEnds}
use Rattle.drm_road.specs.Elements.{node_count, edge_count}
use Rattle.drm_cellmap.specs.Roadmap.{Roadmap, stored}
use Rattle.drm_cellmap.specs.Tally.{IsTally}
use Rattle.drm_talk.specs.declared.Element.{Element}
use Rattle.drm_talk.specs.declared.Element.TheVariants.{Node, Edge}

-- k cells of the element's stored sweep are occupied
abbrev pub IsCount : Roadmap → (ℕ → Type 0) → Element → ℕ → Type 0
IsCount map Occupied element k = IsTally Occupied (stored map element) k

-- the list has the count of each element, nodes before edges
pub record AreCounts (map : Roadmap) (Occupied : ℕ → Type 0) (counts : List ℕ) : Type 0 where
  pub one_each : length counts ≡ length map.sweeps
  pub exact : (place : ℕ) → place < length map.sweeps → IsTally Occupied (slice_index_or map.sweeps place []) (slice_index counts place)

-- the count of the element is not 0
abbrev pub IsMet : Roadmap → (ℕ → Type 0) → Element → Type 0
IsMet map Occupied element = (k : ℕ) × (0 < k) × IsCount map Occupied element k

-- a node is barred where its count is not 0
abbrev pub IsNodeBarred : Roadmap → (ℕ → Type 0) → ℕ → Type 0
IsNodeBarred map Occupied i = IsMet map Occupied (Node i)

-- an edge is barred where its count or that of one of its ends is not 0
abbrev pub IsEdgeBarred : Roadmap → (ℕ → Type 0) → ℕ → Type 0
IsEdgeBarred map Occupied i =
    IsMet map Occupied (Edge i)
    ⊎ ((a : ℕ) × (b : ℕ) × HasEnds map.road i a b × (IsNodeBarred map Occupied a ⊎ IsNodeBarred map Occupied b))

-- how many nodes and how many edges are barred
pub record AreTotals (map : Roadmap) (Occupied : ℕ → Type 0) (barred_nodes barred_edges : ℕ) : Type 0 where
  pub nodes : IsTally (IsNodeBarred map Occupied) (range_with_len 0 (node_count map.road)) barred_nodes
  pub edges : IsTally (IsEdgeBarred map Occupied) (range_with_len 0 (edge_count map.road)) barred_edges
