-- Labels of nodes while they are lowered, and when they are the least lengths.
use Rattle.std.specs.Prelude.{ℕ, ◌≡◌, ◌⊎◌, ◌+◌, ◌≤◌, List, length, Option, Some, slice_get}
use Rattle.drm_road.specs.Road.{Road}
use Rattle.drm_cellmap.specs.Elements.{node_count}
use Rattle.drm_cellmap.specs.Snapshot.{Snapshot}
use Rattle.drm_cellmap.specs.Routes.{Joins, IsBest}
use Rattle.drm_cellmap.specs.Certificates.{IsLabel}

-- a neighbour u has a label that makes, with the weight of an edge from u to v, at most a
pub record Supports (road : Road) (snap : Snapshot) (labels : List (Option ℕ)) (u v a : ℕ) : Type 0 where
  pub w : ℕ
  pub b : ℕ
  pub joins : Joins road snap u v w
  pub label : IsLabel labels u b
  pub enough : b + w ≤ a

-- each label has grounds: it is the start's 0, or a neighbour's label and the weight make at most as much
pub record HasGrounds (road : Road) (snap : Snapshot) (from : ℕ) (labels : List (Option ℕ)) : Type 0 where
  pub one_each : length labels ≡ node_count road
  pub start : IsLabel labels from 0
  pub each : (v a : ℕ) → IsLabel labels v a → ((v ≡ from) × (a ≡ 0)) ⊎ ((u : ℕ) × Supports road snap labels u v a)

-- the label of each node is the least length of a route to it, or none
pub record AreBest (road : Road) (snap : Snapshot) (from : ℕ) (labels : List (Option ℕ)) : Type 0 where
  pub one_each : length labels ≡ node_count road
  pub best : (v : ℕ) (label : Option ℕ) → slice_get labels v ≡ Some label → IsBest road snap from v label
