-- A snapshot: a length of the history, the occupied cells after that many entries, and the elements barred by them.
use Rattle.std.specs.Prelude.{ℕ, Bool, ◌≡◌, ◌⊎◌, ◌<◌, ◌≤◌, ◌↔◌, List, length, slice_index}
use Rattle.drm_grid.specs.Layout.{cell_count}
use Rattle.drm_grid.specs.CellSet.{Has}
use Rattle.drm_talk.specs.declared.Element.TheVariants.{Edge}
use Rattle.drm_road.specs.Limits.{max_nodes, max_edges}
use Rattle.drm_road.specs.Road.{HasEnds}
use Rattle.drm_road.specs.Elements.{node_count, edge_count}
use Rattle.drm_cellmap.specs.Roadmap.{Roadmap, place_of}
use Rattle.drm_cellmap.specs.Barred.{IsNodeBarred, IsEdgeBarred}

-- the sets are lists of flags: one for each cell, node and edge
pub record Snapshot : Type 0 where
  pub number : ℕ
  pub occupied : List Bool
  pub nodes : List Bool
  pub edges : List Bool

-- the snapshot with these parts
abbrev pub of_flags : ℕ → List Bool → List Bool → List Bool → Snapshot
of_flags number occupied nodes edges = record { number = number; occupied = occupied; nodes = nodes; edges = edges }

-- no more flags than a roadmap within the limits has nodes and edges
pub record HasFewFlags (snap : Snapshot) : Type 0 where
  pub nodes : length snap.nodes ≤ max_nodes
  pub edges : length snap.edges ≤ max_edges

-- one flag for each number below n, raised exactly where P holds
pub record AreFlags (n : ℕ) (P : ℕ → Type 0) (flags : List Bool) : Type 0 where
  pub one_each : length flags ≡ n
  pub exact : (i : ℕ) → i < n → Has flags i ↔ P i

-- by the counts and the flags of the nodes: the edge's count is not 0, or an end is barred
abbrev pub IsEdgeMet : Roadmap → List ℕ → List Bool → ℕ → Type 0
IsEdgeMet map counts nodes i =
    (0 < slice_index counts (place_of map (Edge i)))
    ⊎ ((a : ℕ) × (b : ℕ) × HasEnds map.road i a b × (Has nodes a ⊎ Has nodes b))

-- the snapshot is one of the map: its barred elements are exactly those that its occupied cells bar
pub record IsSnapOf (map : Roadmap) (snap : Snapshot) : Type 0 where
  pub cells : length snap.occupied ≡ cell_count map.grid
  pub nodes : AreFlags (node_count map.road) (IsNodeBarred map (Has snap.occupied)) snap.nodes
  pub edges : AreFlags (edge_count map.road) (IsEdgeBarred map (Has snap.occupied)) snap.edges
