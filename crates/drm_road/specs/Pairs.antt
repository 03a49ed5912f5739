-- Which nodes an edge joins. An edge is the pair of its nodes, the lesser one first.
use Rattle.std.specs.Prelude.{◌≡◌, ◌≢◌, ◌⊎◌, ◌↔◌, ℕ, ◌<◌, Bool, not, ◌&&◌, ◌||◌, nat_eq, nat_lt, ℤ, List, [], length, slice_index_or, count_by, Contains, AllPairs, if◌then◌else◌}
use Rattle.std.specs.List.{range_with_len}
use Rattle.drm_arm.specs.Distance.{distance}

-- how far apart two of the nodes are
abbrev pub gap : List (List ℤ) → ℕ → ℕ → ℕ
gap nodes i j = distance (slice_index_or nodes i []) (slice_index_or nodes j [])

-- as seen from node i, another node k comes before j: it is nearer, or as near and has the lesser number
abbrev pub comes_before : List (List ℤ) → ℕ → ℕ → ℕ → Bool
comes_before nodes i k j =
    not (nat_eq k i) && (nat_lt (gap nodes i k) (gap nodes i j) || (nat_eq (gap nodes i k) (gap nodes i j) && nat_lt k j))

-- how many other nodes among the first `count` come before node j, as seen from node i
abbrev pub rank : List (List ℤ) → ℕ → ℕ → ℕ → ℕ
rank nodes i count j = count_by (λ k. comes_before nodes i k j) (range_with_len 0 count)

-- node j is one of the `near` nodes nearest to node i: fewer other nodes than `near` come before it
pub record IsNear (nodes : List (List ℤ)) (near i j : ℕ) : Type 0 where
  pub other : j ≢ i
  pub few : rank nodes i (length nodes) j < near

-- the configurations have equally many joints, and no two of them are equal
pub record AreLikeNodes (nodes : List (List ℤ)) : Type 0 where
  pub joints : (i j : ℕ) → i < length nodes → j < length nodes → length (slice_index_or nodes i []) ≡ length (slice_index_or nodes j [])
  pub distinct : AllPairs (λ one other. one ≢ other) nodes

-- the edge between two nodes: the lesser one first
abbrev pub edge_between : ℕ → ℕ → ℕ × ℕ
edge_between i j = if nat_lt i j then (i, j) else (j, i)

-- the first edge comes before the second: by its lesser node, and then by its greater one
abbrev pub Precedes : ℕ × ℕ → ℕ × ℕ → Type 0
Precedes e f = (e.0 < f.0) ⊎ ((e.0 ≡ f.0) × (e.1 < f.1))

-- the edges join exactly the nodes of which one is near the other, each two once, in order
pub record ArePairs (nodes : List (List ℤ)) (near : ℕ) (edges : List (ℕ × ℕ)) : Type 0 where
  pub increasing : AllPairs Precedes edges
  pub exact : (a b : ℕ) → Contains edges (a, b) ↔ ((a < b) × (b < length nodes) × (IsNear nodes near a b ⊎ IsNear nodes near b a))
