-- What certifies that a route is a shortest one, and that there is none.
use Rattle.std.specs.Prelude.{ℕ, ◌≡◌, ◌+◌, ◌<◌, ◌≤◌, List, length, All, Contains, Option, Some, slice_get}
use Rattle.std.specs.List.Sorted.{IsStrictlyIncreasing}
use Rattle.drm_road.specs.Road.{Road}
use Rattle.drm_road.specs.Elements.{node_count}
use Rattle.drm_cellmap.specs.Snapshot.{Snapshot}
use Rattle.drm_cellmap.specs.Routes.{Joins, IsRoute}

-- the node has this label
abbrev pub IsLabel : List (Option ℕ) → ℕ → ℕ → Type 0
IsLabel labels node label = slice_get labels node ≡ Some (Some label)

-- where an edge that is not barred has a labelled end, the other end has a label too, and neither label is above the
-- other one by more than the weight
abbrev pub Agrees : Road → Snapshot → List (Option ℕ) → Type 0
Agrees road snap labels =
    (u v w x : ℕ) → Joins road snap u v w → IsLabel labels u x → (y : ℕ) × IsLabel labels v y × (y ≤ x + w)

-- a route of this length, and labels with which no route can be shorter
pub record PathCert (road : Road) (snap : Snapshot) (from to : ℕ) (nodes : List ℕ) (l : ℕ) (labels : List (Option ℕ)) : Type 0 where
  pub route : IsRoute road snap nodes from to l
  pub one_each : length labels ≡ node_count road
  pub start : IsLabel labels from 0
  pub end : IsLabel labels to l
  pub agrees : Agrees road snap labels

-- a side that has `from` and lacks `to`, such that each edge between it and the rest is barred
pub record CutCert (road : Road) (snap : Snapshot) (from to : ℕ) (side : List ℕ) : Type 0 where
  pub increasing : IsStrictlyIncreasing side
  pub in_range : All (λ node. node < node_count road) side
  pub inside : Contains side from
  pub outside : ¬ Contains side to
  pub barred : (u v w : ℕ) → Joins road snap u v w → Contains side u → Contains side v
