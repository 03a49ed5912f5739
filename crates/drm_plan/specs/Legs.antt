-- The edges of a route, and where their motions meet occupied cells.
use Rattle.std.specs.Prelude.{ℕ, ◌≡◌, ◌+◌, ◌<◌, List, length, Some, slice_get}
use Rattle.drm_grid.specs.CellSet.{IsLeast}
use Rattle.drm_talk.specs.declared.Element.TheVariants.{Edge}
use Rattle.drm_road.specs.Road.{Road, motion_of}
use Rattle.drm_sweep.specs.Taken.{IsMet}
use Rattle.drm_cellmap.specs.Roadmap.{Roadmap}
use Rattle.drm_cellmap.specs.Snapshot.{Snapshot}
use Rattle.drm_cellmap.specs.Routes.{Joins}

-- the edge, which is not barred, joins node k of the route and the next one
pub record IsLeg (road : Road) (snap : Snapshot) (nodes : List ℕ) (k edge : ℕ) : Type 0 where
  pub u : ℕ
  pub v : ℕ
  pub w : ℕ
  pub before : slice_get nodes k ≡ Some u
  pub after : slice_get nodes (k + 1) ≡ Some v
  pub joins : Joins road snap u v w
  pub same : joins.edge ≡ edge

-- each two neighbours of the route are joined by an edge that is not barred
abbrev pub HasLegs : Road → Snapshot → List ℕ → Type 0
HasLegs road snap nodes = (k : ℕ) → k + 1 < length nodes → (edge : ℕ) × IsLeg road snap nodes k edge

-- the cell is occupied, and the motion of the edge sweeps it
abbrev pub EdgeMeets : Roadmap → Snapshot → ℕ → ℕ → Type 0
EdgeMeets map snap edge cell = IsMet map.grid map.arm (motion_of map.road (Edge edge)) 0 snap.occupied cell

-- none of the first legs of the route sweeps an occupied cell
abbrev pub AreClearTo : Roadmap → Snapshot → List ℕ → ℕ → Type 0
AreClearTo map snap nodes count = (k edge cell : ℕ) → k < count → IsLeg map.road snap nodes k edge → ¬ EdgeMeets map snap edge cell

-- no leg of the route sweeps an occupied cell
abbrev pub AreClear : Roadmap → Snapshot → List ℕ → Type 0
AreClear map snap nodes = (k edge cell : ℕ) → IsLeg map.road snap nodes k edge → ¬ EdgeMeets map snap edge cell

-- the edge is the first leg of the route that sweeps an occupied cell, and the cell is the least one that it sweeps
pub record IsFirstMet (map : Roadmap) (snap : Snapshot) (nodes : List ℕ) (edge cell : ℕ) : Type 0 where
  pub k : ℕ
  pub leg : IsLeg map.road snap nodes k edge
  pub least : IsLeast (EdgeMeets map snap edge) (Some cell)
  pub clear : AreClearTo map snap nodes k
