-- Which nodes are tried for a configuration, and in which order.
use Rattle.std.specs.Prelude.{ℕ, ◌≡◌, ◌⊎◌, ◌<◌, ◌≤◌, ℤ, List, length, All, AllPairs, Contains}
use Rattle.drm_arm.specs.Distance.{distance}
use Rattle.drm_road.specs.Road.{Road, node_of}
use Rattle.drm_attach.specs.Limits.{max_candidates}

-- how far a node is from the configuration
abbrev pub gap : Road → List ℤ → ℕ → ℕ
gap road at node = distance at (node_of road node)

-- node i comes before node j: it is nearer to the configuration, or as near and has the lesser number
abbrev pub ComesBefore : Road → List ℤ → ℕ → ℕ → Type 0
ComesBefore road at i j = (gap road at i < gap road at j) ⊎ ((gap road at i ≡ gap road at j) × (i < j))

-- the nodes are those that come first among the nodes below `count`, in their order: 12, or all where there are fewer
pub record AreFirst (road : Road) (at : List ℤ) (count : ℕ) (nodes : List ℕ) : Type 0 where
  pub few : length nodes ≤ max_candidates
  pub in_range : All (λ node. node < count) nodes
  pub in_order : AllPairs (ComesBefore road at) nodes
  pub first : (node : ℕ) → node < count → Contains nodes node ⊎ ((length nodes ≡ max_candidates) × All (λ other. ComesBefore road at other node) nodes)

-- the nodes that are tried for the configuration: those that come first among all nodes
abbrev pub AreCandidates : Road → List ℤ → List ℕ → Type 0
AreCandidates road at nodes = AreFirst road at (length road.nodes) nodes

-- the configuration has as many joints as each node
abbrev pub IsLike : Road → List ℤ → Type 0
IsLike road at = (node : ℕ) → node < length road.nodes → length at ≡ length (node_of road node)

-- the nodes are in the order of their distances
abbrev pub IsByDistance : Road → List ℤ → List ℕ → Type 0
IsByDistance road at nodes = AllPairs (λ i j. gap road at i ≤ gap road at j) nodes
