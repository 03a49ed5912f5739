-- What is asked of labels and of sides.
use Rattle.std.specs.Prelude.{ℕ, ◌≡◌, ◌+◌, ◌<◌, ◌≤◌, ◌↔◌, List, All, Contains, length, slice_index_or, Option, None, Some}
use Rattle.std.specs.List.Sorted.{IsStrictlyIncreasing}
use Rattle.drm_road.specs.Road.{Road}
use Rattle.drm_cellmap.specs.Snapshot.{Snapshot}
use Rattle.drm_cellmap.specs.Certificates.{IsLabel}
use Rattle.drm_cellmap.specs.Elements.{node_count}
use Rattle.drm_cellmap.specs.Routes.{Joins}

-- there is one label for each node, 0 for the first node of a route and the length for the last one
abbrev pub AreLabels : Road → ℕ → ℕ → ℕ → List (Option ℕ) → Type 0
AreLabels road from to l labels = (length labels ≡ node_count road) × IsLabel labels from 0 × IsLabel labels to l

-- the node's label, or none
abbrev pub label_at : List (Option ℕ) → ℕ → Option ℕ
label_at labels node = slice_index_or labels node None

-- both are labels, and neither is above the other by more than the weight, or neither is one
abbrev pub AreNear : Option ℕ → Option ℕ → ℕ → Type 0
AreNear None None weight = Unit {0}
AreNear None (Some y) weight = ⊥
AreNear (Some x) None weight = ⊥
AreNear (Some x) (Some y) weight = (y ≤ x + weight) × (x ≤ y + weight)

-- the side is a list of nodes in increasing order
abbrev pub AreNodes : Road → List ℕ → Type 0
AreNodes road side = IsStrictlyIncreasing side × All (λ node. node < node_count road) side

-- so, and it has the one node and lacks the other
abbrev pub PartsEnds : Road → ℕ → ℕ → List ℕ → Type 0
PartsEnds road from to side = AreNodes road side × Contains side from × (¬ Contains side to)

-- both nodes are in the side, or neither
abbrev pub AreAlike : List ℕ → ℕ → ℕ → Type 0
AreAlike side a b = Contains side a ↔ Contains side b

-- each edge between the side and the rest is barred
abbrev pub IsClosed : Road → Snapshot → List ℕ → Type 0
IsClosed road snap side = (u v w : ℕ) → Joins road snap u v w → Contains side u → Contains side v
