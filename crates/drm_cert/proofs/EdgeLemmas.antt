-- Edges in increasing order, and the one between two nodes.
use Rattle.std.proofs.Common.{◌≡◌, ◌⊎◌, inl, inr, ℕ, zero, suc, ◌+◌, ◌<◌, List, [], ◌∷◌, length, slice_get, None, Some, refl, ap, sym, ◌∙◌, ◌↔◌, min, max, Bool, true, false, IsTrue, arith}
use Rattle.std.proofs.lemmas.Option.{slice_get_within, get_or_from_slice_get}
use Rattle.drm_grid.specs.CellSet.{Has}
use Rattle.drm_road.specs.Pairs.{Precedes}
use Rattle.drm_road.specs.Road.{Road, IsRoad, weight_of}
use Rattle.drm_cellmap.specs.Elements.{HasEnds}
use Rattle.drm_cellmap.specs.Snapshot.{Snapshot}
use Rattle.drm_cellmap.specs.Routes.{Joins}

-- of two numbers
pub in_order : (m n : ℕ) → (m < n) ⊎ ((m ≡ n) ⊎ (n < m))
in_order zero zero = inr (inl refl)
in_order zero (suc n) = inl (omega arith)
in_order (suc m) zero = inr (inr (omega arith))
in_order (suc m) (suc n) =
    elim (in_order m n) [
      | inl h ↦ inl (omega arith)
      | inr h ↦ elim h [ inl same ↦ inr (inl (ap suc same)) | inr more ↦ inr (inr (omega arith)) ]
    ]

-- of two edges, one at most comes before the other
one_way : (a b c d : ℕ) → Precedes (a, b) (c, d) → Precedes (c, d) (a, b) → ⊥
one_way a b c d first second = grind arith

rises : (road : Road) → IsRoad road → (i j a b c d : ℕ) → i < j → HasEnds road i a b → HasEnds road j c d → Precedes (a, b) (c, d)
rises road is i j a b c d before first second =
    let below : j < length road.edges = slice_get_within road.edges j (c, d) second in
    let order = is.increasing i j (0, 0) before below in
    rw (get_or_from_slice_get road.edges i (a, b) (0, 0) first, get_or_from_slice_get road.edges j (c, d) (0, 0) second) at order

same_ends : (road : Road) (i a b c d : ℕ) → HasEnds road i a b → HasEnds road i c d → (a ≡ c) × (b ≡ d)
same_ends road i a b c d one other = let same : (a, b) ≡ (c, d) = cc in (ap (λ (e : ℕ × ℕ). e.0) same, ap (λ (e : ℕ × ℕ). e.1) same)

-- two nodes have one edge at most
pub same_edge : (road : Road) → IsRoad road → (i j a b : ℕ) → HasEnds road i a b → HasEnds road j a b → i ≡ j
same_edge road is i j a b one other =
    elim (in_order i j) [
      | inl before ↦ let order = rises road is i j a b a b before one other in absurd (one_way a b a b order order)
      | inr h ↦ elim h [
        | inl same ↦ same
        | inr after ↦ let order = rises road is j i a b a b after other one in absurd (one_way a b a b order order)
      ]
    ]

-- an edge that comes before the one from a to b has a lesser number
pub edge_is_past : (road : Road) → IsRoad road → (m c d a b : ℕ) → HasEnds road m c d → Precedes (c, d) (a, b) → (edge : ℕ) → HasEnds road edge a b → m < edge
edge_is_past road is m c d a b here precedes edge there =
    elim (in_order m edge) [
      | inl before ↦ before
      | inr h ↦ elim h [
        | inl same ↦
            let same_place : HasEnds road m a b = rw same there in
            let ends = same_ends road m c d a b here same_place in
            let order : Precedes (a, b) (a, b) = rw ends.0 at (rw ends.1 at precedes) in
            absurd (one_way a b a b order order)
        | inr after ↦ absurd (one_way a b c d (rises road is edge m a b c d after there here) precedes)
      ]
    ]

-- an edge that is not the one from a to b, and does not come before it, has a greater number
pub edge_is_before : (road : Road) → IsRoad road → (m c d a b : ℕ) → HasEnds road m c d → (Precedes (c, d) (a, b) → ⊥) → ((c ≡ a) × (d ≡ b) → ⊥) → (edge : ℕ) → HasEnds road edge a b → edge < m
edge_is_before road is m c d a b here not_before differs edge there =
    elim (in_order m edge) [
      | inl before ↦ absurd (not_before (rises road is m edge c d a b before here there))
      | inr h ↦ elim h [
        | inl same ↦
            let same_place : HasEnds road m a b = rw same there in
            absurd (differs (same_ends road m c d a b here same_place))
        | inr after ↦ after
      ]
    ]

-- an edge that joins two nodes leads from the lesser one to the greater one
pub joins_edge : (road : Road) (snap : Snapshot) → IsRoad road → (u v w : ℕ) (joins : Joins road snap u v w) → HasEnds road joins.edge (min u v) (max u v)
joins_edge road snap is u v w joins =
    let order = is.ends joins.edge joins.a joins.b joins.is_edge in
    placed joins.a joins.b joins.ends order.0 joins.is_edge
  where
    placed : (a b : ℕ) → (((a ≡ u) × (b ≡ v)) ⊎ ((a ≡ v) × (b ≡ u))) → a < b → HasEnds road joins.edge a b → HasEnds road joins.edge (min u v) (max u v)
    placed a b ends order there =
        let low : min u v ≡ a = elim ends [ inl h ↦ omega (arith, h.0, h.1) | inr h ↦ omega (arith, h.0, h.1) ] in
        let high : max u v ≡ b = elim ends [ inl h ↦ omega (arith, h.0, h.1) | inr h ↦ omega (arith, h.0, h.1) ] in
        rw (low, high) there

ends_of : (u v : ℕ) → ((min u v ≡ u) × (max u v ≡ v)) ⊎ ((min u v ≡ v) × (max u v ≡ u))
ends_of u v =
    elim (in_order u v) [
      | inl before ↦ inl (omega arith, omega arith)
      | inr h ↦ inr (elim h [ inl same ↦ (omega arith, omega arith) | inr after ↦ (omega arith, omega arith) ])
    ]

same_some : (a b : ℕ) → Some a ≡ Some b → a ≡ b
same_some a b is = cc

-- the edge between two nodes joins them, with its weight, where it is not barred
pub joined_by : (road : Road) (snap : Snapshot) → IsRoad road → (u v edge weight : ℕ) → HasEnds road edge (min u v) (max u v) → (Has snap.edges edge → ⊥) → weight ≡ weight_of road (min u v) (max u v) → (w : ℕ) → Joins road snap u v w ↔ (Some weight ≡ Some w)
joined_by road snap is u v edge weight there clear exact w = (forth, back)
  where
    forth : Joins road snap u v w → Some weight ≡ Some w
    forth joins =
        let place = joins_edge road snap is u v w joins in
        let same = same_ends road joins.edge joins.a joins.b (min u v) (max u v) joins.is_edge place in
        let equal : w ≡ weight_of road (min u v) (max u v) = rw (← same.0, ← same.1) joins.weight in
        ap (λ (n : ℕ). Some n) (exact ∙ sym equal)

    back : Some weight ≡ Some w → Joins road snap u v w
    back same = record {
      edge = edge;
      a = min u v;
      b = max u v;
      is_edge = there;
      clear = clear;
      ends = ends_of u v;
      weight = sym (same_some weight w same) ∙ exact;
    }

pub joined_by_barred : (road : Road) (snap : Snapshot) → IsRoad road → (u v edge : ℕ) → HasEnds road edge (min u v) (max u v) → Has snap.edges edge → (w : ℕ) → Joins road snap u v w ↔ (None ≡ Some w)
joined_by_barred road snap is u v edge there barred w = (
  λ joins.
      let place = joins_edge road snap is u v w joins in
      let same : edge ≡ joins.edge = same_edge road is edge joins.edge (min u v) (max u v) there place in
      absurd (joins.clear (rw (← same) barred)),
  λ none. absurd cc,
)

pub joined_by_none : (road : Road) (snap : Snapshot) → IsRoad road → (u v : ℕ) → ((edge : ℕ) → HasEnds road edge (min u v) (max u v) → ⊥) → (w : ℕ) → Joins road snap u v w ↔ (None ≡ Some w)
joined_by_none road snap is u v never w =
    (λ joins. absurd (never joins.edge (joins_edge road snap is u v w joins)), λ none. absurd cc)

-- the first edges that are not barred have the property, which is one of their two nodes
abbrev pub EachOpen : Road → Snapshot → ℕ → (ℕ → ℕ → Type 0) → Type 0
EachOpen road snap count P = (i a b : ℕ) → i < count → HasEnds road i a b → (Has snap.edges i → ⊥) → P a b

-- one edge more, which is barred or has the property
pub each_open_more : (road : Road) (snap : Snapshot) (count c d : ℕ) (P : ℕ → ℕ → Type 0) → EachOpen road snap count P → HasEnds road count c d → (Has snap.edges count ⊎ P c d) → EachOpen road snap (count + 1) P
each_open_more road snap count c d P before there here i a b below at clear =
    elim (in_order i count) [
      | inl lower ↦ before i a b lower at clear
      | inr h ↦ elim h [
        | inl same ↦
            let at_count : HasEnds road count a b = rw (← same) at in
            let ends = same_ends road count c d a b there at_count in
            elim here [
              | inl barred ↦ absurd (clear (rw same barred))
              | inr holds ↦ rw (← ends.0, ← ends.1) holds
            ]
        | inr above ↦ absurd (omega arith)
      ]
    ]

-- the edge from a to b, once it is found
pub found_edge : (road : Road) → IsRoad road → (m a b : ℕ) → HasEnds road m a b → (edge : ℕ) → HasEnds road edge a b ↔ (Some m ≡ Some edge)
found_edge road is m a b there edge =
    (λ other. ap (λ (n : ℕ). Some n) (same_edge road is m edge a b there other), λ same. rw (← same_some m edge same) there)

edge_there : {A : Type 0} (xs : List A) (i : ℕ) → i < length xs → (x : A) × (slice_get xs i ≡ Some x)
edge_there [] i below = absurd (omega arith)
edge_there (x ∷ xs) zero below = (x, refl)
edge_there (x ∷ xs) (suc i) below = edge_there xs i (omega arith)

-- an edge that lacks a property of its two nodes
pub edge_fails : (road : Road) (i : ℕ) (P : ℕ → ℕ → Type 0) (r : Bool) → i < length road.edges → ((a b : ℕ) → HasEnds road i a b → IsTrue r ↔ P a b) → r ≡ false → ((a b : ℕ) → HasEnds road i a b → P a b) → ⊥
edge_fails road i P r below exact fails each =
    let edge = edge_there road.edges i below in
    let holds : r ≡ true = (exact edge.0.0 edge.0.1 edge.1).1 (each edge.0.0 edge.0.1 edge.1) in
    absurd cc
