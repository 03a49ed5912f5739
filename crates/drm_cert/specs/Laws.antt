-- What certificates prove.
use Rattle.std.specs.Prelude.{ℕ, ◌≤◌, List, Option}
use Rattle.drm_road.specs.Road.{Road}
use Rattle.drm_cellmap.specs.Snapshot.{Snapshot}
use Rattle.drm_cellmap.specs.Routes.{IsRoute}
use Rattle.drm_cellmap.specs.Certificates.{PathCert, CutCert}

-- no route between the ends of a path certificate is shorter than its length
abbrev pub PathsAreShortest : Type 0
PathsAreShortest =
    (road : Road) (snap : Snapshot) (from to l k : ℕ) (nodes others : List ℕ) (labels : List (Option ℕ))
    → PathCert road snap from to nodes l labels → IsRoute road snap others from to k → l ≤ k

-- there is no route between the ends of a cut certificate
abbrev pub CutsHaveNoRoute : Type 0
CutsHaveNoRoute =
    (road : Road) (snap : Snapshot) (from to l : ℕ) (side nodes : List ℕ)
    → CutCert road snap from to side → ¬ IsRoute road snap nodes from to l
