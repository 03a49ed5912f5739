-- How a route is traced back by the labels.
use Rattle.std.specs.Prelude.{ℕ, ◌≡◌, ◌+◌, ◌<◌, ◌≤◌, List, [], ◌∷◌, min, Option, None, Some}
use Rattle.drm_road.specs.Road.{Road}
use Rattle.drm_cellmap.specs.Snapshot.{Snapshot}
use Rattle.drm_cellmap.specs.Routes.{Joins}
use Rattle.drm_cellmap.specs.Certificates.{IsLabel}

-- an edge that is not barred joins u and v, and u's label and its weight are v's label
pub record StepsTo (road : Road) (snap : Snapshot) (labels : List (Option ℕ)) (u v : ℕ) : Type 0 where
  pub w : ℕ
  pub b : ℕ
  pub a : ℕ
  pub joins : Joins road snap u v w
  pub near : IsLabel labels u b
  pub far : IsLabel labels v a
  pub whole : b + w ≡ a

-- the edge with this number is such an edge
abbrev pub StepsOver : Road → Snapshot → List (Option ℕ) → ℕ → ℕ → ℕ → Type 0
StepsOver road snap labels i u v = (step : StepsTo road snap labels u v) × (step.joins.edge ≡ i)

-- u is the least-numbered node that steps to v
pub record IsStepBack (road : Road) (snap : Snapshot) (labels : List (Option ℕ)) (u v : ℕ) : Type 0 where
  pub steps : StepsTo road snap labels u v
  pub least : (other : ℕ) → StepsTo road snap labels other v → u ≤ other

-- the nodes lead from one to the other, and before each but the first stands the least-numbered node that steps to it
abbrev pub IsTraced : Road → Snapshot → List (Option ℕ) → ℕ → ℕ → List ℕ → Type 0
IsTraced road snap labels from to [] = ⊥
IsTraced road snap labels from to (u ∷ []) = (from ≡ u) × (u ≡ to)
IsTraced road snap labels from to (u ∷ v ∷ rest) = (from ≡ u) × IsStepBack road snap labels u v × IsTraced road snap labels v to (v ∷ rest)

-- over the first edges, the least-numbered node that steps to v, or none where none does
abbrev pub IsLeastStep : Road → Snapshot → List (Option ℕ) → ℕ → ℕ → Option ℕ → Type 0
IsLeastStep road snap labels v count None = (i u : ℕ) → i < count → ¬ StepsOver road snap labels i u v
IsLeastStep road snap labels v count (Some least) =
    StepsTo road snap labels least v × ((i u : ℕ) → i < count → StepsOver road snap labels i u v → least ≤ u)

-- both are labels, and the second is the first and the weight
abbrev pub Makes : Option ℕ → Option ℕ → ℕ → Type 0
Makes None far w = ⊥
Makes (Some near) None w = ⊥
Makes (Some near) (Some far) w = near + w ≡ far

-- the far node's label is that of the near one and the weight
abbrev pub AreStep : List (Option ℕ) → ℕ → ℕ → ℕ → Type 0
AreStep labels near far w = (b : ℕ) × (a : ℕ) × IsLabel labels near b × IsLabel labels far a × (b + w ≡ a)

-- the lesser of two numbers, of which either may be missing
abbrev pub IsLesser : Option ℕ → Option ℕ → Option ℕ → Type 0
IsLesser None other result = result ≡ other
IsLesser (Some a) None result = result ≡ Some a
IsLesser (Some a) (Some b) result = result ≡ Some (min a b)
