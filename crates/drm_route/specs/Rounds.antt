-- How labels are lowered: at one node, over one edge, and by a round over all edges.
use Rattle.std.specs.Prelude.{ℕ, ◌≡◌, ◌⊎◌, ◌+◌, ◌*◌, ◌<◌, ◌≤◌, Bool, true, false, List, length, sum_by, slice_set, Option, None, Some}
use Rattle.drm_grid.specs.CellSet.{Has}
use Rattle.drm_road.specs.Road.{Road, weight_of}
use Rattle.drm_cellmap.specs.Elements.{node_count, HasEnds}
use Rattle.drm_cellmap.specs.Snapshot.{Snapshot}
use Rattle.drm_cellmap.specs.Certificates.{IsLabel}
use Rattle.drm_route.specs.Limits.{max_weight}
use Rattle.drm_route.specs.Labels.{HasGrounds}

-- each weight is at most the greatest one
abbrev pub HasSmallWeights : Road → Type 0
HasSmallWeights road = (i a b : ℕ) → HasEnds road i a b → weight_of road a b ≤ max_weight

-- how many nodes have a label
abbrev pub one_if : Option ℕ → ℕ
one_if None = 0
one_if (Some a) = 1

abbrev pub labelled : List (Option ℕ) → ℕ
labelled labels = sum_by one_if labels

-- no label is above as many greatest weights as there are labels
abbrev pub AreSmall : List (Option ℕ) → Type 0
AreSmall labels = (v a : ℕ) → IsLabel labels v a → a ≤ labelled labels * max_weight

-- one label for each node of the road, all so small that weights may be added to them
pub record MayBeLowered (road : Road) (labels : List (Option ℕ)) : Type 0 where
  pub weights : HasSmallWeights road
  pub one_each : length labels ≡ node_count road
  pub small : AreSmall labels

-- what is left to lower: none counts as more than any label
abbrev pub cost : Option ℕ → ℕ
cost None = 100663297
cost (Some a) = a

abbrev pub total : List (Option ℕ) → ℕ
total labels = sum_by cost labels

-- it is a label, and no greater one
abbrev pub IsAtMost : Option ℕ → ℕ → Type 0
IsAtMost None far = ⊥
IsAtMost (Some label) far = label ≤ far

-- the label of v is at most that of u and the weight
abbrev pub AgreesOver : List (Option ℕ) → ℕ → ℕ → ℕ → Type 0
AgreesOver labels u v w = (a : ℕ) → IsLabel labels u a → (b : ℕ) × IsLabel labels v b × (b ≤ a + w)

-- v gets the label of u and the weight, which is less than it had; or nothing changes, and it had no more
abbrev pub Lowers : List (Option ℕ) → ℕ → ℕ → ℕ → List (Option ℕ) → Bool → Type 0
Lowers old u v w new true =
    (a : ℕ) × IsLabel old u a × (new ≡ slice_set old v (Some (a + w))) × ((b : ℕ) → IsLabel old v b → a + w < b)
Lowers old u v w new false = (new ≡ old) × AgreesOver old u v w

-- one of two nodes is lowered by the other; or nothing changes, and neither could be
abbrev pub Relaxes : List (Option ℕ) → ℕ → ℕ → ℕ → List (Option ℕ) → Bool → Type 0
Relaxes old a b w new true = Lowers old a b w new true ⊎ Lowers old b a w new true
Relaxes old a b w new false = (new ≡ old) × AgreesOver old a b w × AgreesOver old b a w

-- over one edge: where it is barred, nothing changes
abbrev pub RelaxesAt : Road → Snapshot → List (Option ℕ) → ℕ → List (Option ℕ) → Bool → Type 0
RelaxesAt road snap old i new true =
    (¬ Has snap.edges i) × ((a b : ℕ) → HasEnds road i a b → Relaxes old a b (weight_of road a b) new true)
RelaxesAt road snap old i new false =
    (new ≡ old) × ((a b : ℕ) → HasEnds road i a b → (¬ Has snap.edges i) → AgreesOver old a b (weight_of road a b) × AgreesOver old b a (weight_of road a b))

-- over the first edges: grounds and bounds are kept; a change makes the total less, and without one no edge could
-- lower a label
pub record IsRound (road : Road) (snap : Snapshot) (old : List (Option ℕ)) (count : ℕ) (new : List (Option ℕ)) (changed : Bool) : Type 0 where
  pub one_each : length new ≡ length old
  pub small : AreSmall new
  pub grounds : (from : ℕ) → HasGrounds road snap from old → HasGrounds road snap from new
  pub fell : changed ≡ true → total new < total old
  pub same : changed ≡ false → new ≡ old
  pub agree : changed ≡ false → (i a b : ℕ) → i < count → HasEnds road i a b → (¬ Has snap.edges i) → AgreesOver old a b (weight_of road a b) × AgreesOver old b a (weight_of road a b)
