-- What the definitions of a search prove.
use Rattle.std.specs.Prelude.{ℕ, ◌≡◌}
use Rattle.drm_road.specs.Road.{Road}
use Rattle.drm_cellmap.specs.Snapshot.{Snapshot}
use Rattle.drm_cellmap.specs.Routes.{IsSnapOn, IsOpen}
use Rattle.drm_route.specs.declared.shortest.Found.{Found}
use Rattle.drm_route.specs.Search.{IsFound, IsCertified}

-- least lengths as labels, and the path back by them, are a path certificate; the nodes that routes reach are a cut one
abbrev pub FoundIsCertified : Type 0
FoundIsCertified =
    (road : Road) (snap : Snapshot) (from to : ℕ) (found : Found)
    → IsSnapOn road snap → IsOpen road snap from → IsFound road snap from to found → IsCertified road snap from to found

-- what is found between two nodes is determined: the path with its length and its labels, or the side of the cut
abbrev pub FoundIsDetermined : Type 0
FoundIsDetermined =
    (road : Road) (snap : Snapshot) (from to : ℕ) (found other : Found)
    → IsSnapOn road snap → IsOpen road snap from → IsFound road snap from to found → IsFound road snap from to other → found ≡ other
