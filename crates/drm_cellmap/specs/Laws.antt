-- Laws of tallies, and of snapshots.
use Rattle.std.specs.Prelude.{ℕ, Bool, ◌<◌, List, Contains}
use Rattle.drm_grid.specs.CellSet.{Has}
use Rattle.drm_cellmap.specs.Tally.{IsTally}
use Rattle.drm_road.specs.Elements.{node_count, edge_count}
use Rattle.drm_cellmap.specs.Roadmap.{Roadmap, stored}
use Rattle.drm_cellmap.specs.Snapshot.{Snapshot, IsSnapOf}
use Rattle.drm_talk.specs.declared.Element.TheVariants.{Node, Edge}

-- every list of cells has a number that is the tally of those in the set
abbrev pub SetsHaveTallies : Type 0
SetsHaveTallies = (set : List Bool) (cells : List ℕ) → (k : ℕ) × IsTally (Has set) cells k

-- the tally of a list with a cell that is in the set is above 0
abbrev pub FoundCellsAreTallied : Type 0
FoundCellsAreTallied =
    (set : List Bool) (cells : List ℕ) (k cell : ℕ) → IsTally (Has set) cells k → Contains cells cell → Has set cell → 0 < k

-- the stored sweep of a node that is not barred has no occupied cell
abbrev pub OpenNodesAreClear : Type 0
OpenNodesAreClear =
    (map : Roadmap) (snap : Snapshot) (i cell : ℕ)
    → IsSnapOf map snap → i < node_count map.road → ¬ Has snap.nodes i → Contains (stored map (Node i)) cell → ¬ Has snap.occupied cell

-- the stored sweep of an edge that is not barred has no occupied cell
abbrev pub OpenEdgesAreClear : Type 0
OpenEdgesAreClear =
    (map : Roadmap) (snap : Snapshot) (i cell : ℕ)
    → IsSnapOf map snap → i < edge_count map.road → ¬ Has snap.edges i → Contains (stored map (Edge i)) cell → ¬ Has snap.occupied cell
