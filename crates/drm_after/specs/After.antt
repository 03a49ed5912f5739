-- What stands on a map after a history: the occupied cells, and the counts and snapshots that show them.
use Rattle.std.specs.Prelude.{ℕ, ◌≡◌, ◌↔◌, List, length}
use Rattle.drm_grid.specs.CellSet.{Has}
use Rattle.drm_foot.specs.Foot.{IsOccupied}
use Rattle.drm_talk.specs.History.{Stands}
use Rattle.drm_talk.specs.declared.Element.{Element}
use Rattle.drm_talk.specs.declared.Entry.{Entry}
use Rattle.drm_cellmap.specs.Barred.{IsCount}
use Rattle.drm_cellmap.specs.Roadmap.{Roadmap}
use Rattle.drm_cellmap.specs.Snapshot.{Snapshot, IsSnapOf}

-- the cell is occupied after a history: an obstacle that stands then has it in its footprint
abbrev pub IsOccupiedAfter : Roadmap → List Entry → ℕ → Type 0
IsOccupiedAfter map history cell = IsOccupied map.grid (Stands history) cell

-- k cells of the element's stored sweep are occupied after the history
pub record IsCountAfter (map : Roadmap) (history : List Entry) (element : Element) (k : ℕ) : Type 0 where
  pub count : IsCount map (IsOccupiedAfter map history) element k

-- the snapshot has the history's length, the cells that are occupied after it, and the elements that these bar
pub record IsSnapAfter (map : Roadmap) (history : List Entry) (snap : Snapshot) : Type 0 where
  pub number : snap.number ≡ length history
  pub occupied : (cell : ℕ) → Has snap.occupied cell ↔ IsOccupiedAfter map history cell
  pub barred : IsSnapOf map snap

-- a history leaves one snapshot
abbrev pub SnapsAreDetermined : Type 0
SnapsAreDetermined =
    (map : Roadmap) (history : List Entry) (snap other : Snapshot)
    → IsSnapAfter map history snap → IsSnapAfter map history other → snap ≡ other
