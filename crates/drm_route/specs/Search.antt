-- What a search finds: the route that is traced back by least-numbered nodes, or the side of a cut.
use Rattle.std.specs.Prelude.{ℕ, ◌<◌, ◌↔◌, List, Contains, Option}
use Rattle.std.specs.List.Sorted.{IsStrictlyIncreasing}
use Rattle.drm_road.specs.Road.{Road}
use Rattle.drm_cellmap.specs.Snapshot.{Snapshot}
use Rattle.drm_cellmap.specs.Routes.{IsRoute}
use Rattle.drm_cellmap.specs.Certificates.{IsLabel, PathCert, CutCert}
use Rattle.drm_route.specs.declared.shortest.Found.{Found}
use Rattle.drm_route.specs.declared.shortest.Found.TheVariants.{Path, Cut}
use Rattle.drm_route.specs.Labels.{AreBest}
use Rattle.drm_route.specs.Trace.{IsTraced}

-- the node has some label
abbrev pub HasLabel : List (Option ℕ) → ℕ → Type 0
HasLabel labels v = (a : ℕ) × IsLabel labels v a

-- there is a route between the two nodes
abbrev pub IsReached : Road → Snapshot → ℕ → ℕ → Type 0
IsReached road snap from to = (nodes : List ℕ) × (l : ℕ) × IsRoute road snap nodes from to l

-- a path has the least lengths as its labels, and the nodes that are traced back by them; a cut comes where there is no
-- route, and has as its side the nodes to which there is one
abbrev pub IsFound : Road → Snapshot → ℕ → ℕ → Found → Type 0
IsFound road snap from to (Path nodes l labels) =
    AreBest road snap from labels × IsLabel labels to l × IsTraced road snap labels from to nodes
IsFound road snap from to (Cut side) =
    (¬ IsReached road snap from to) × IsStrictlyIncreasing side × ((v : ℕ) → Contains side v ↔ IsReached road snap from v)

-- what was found is a certificate
abbrev pub IsCertified : Road → Snapshot → ℕ → ℕ → Found → Type 0
IsCertified road snap from to (Path nodes l labels) = PathCert road snap from to nodes l labels
IsCertified road snap from to (Cut side) = CutCert road snap from to side

-- the side has exactly the labelled nodes below `count`, in increasing order
pub record IsSideTo (labels : List (Option ℕ)) (count : ℕ) (side : List ℕ) : Type 0 where
  pub increasing : IsStrictlyIncreasing side
  pub exact : (v : ℕ) → Contains side v ↔ ((v < count) × HasLabel labels v)
