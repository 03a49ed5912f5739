-- Labels that agree, edge by edge.
use Rattle.std.proofs.Common.{◌≡◌, ◌⊎◌, inl, inr, ℕ, ◌+◌, ◌<◌, ◌≤◌, List, length, Option, None, Some, refl, ap, ◌∙◌, arith}
use Rattle.std.proofs.lemmas.Option.{slice_get_within, slice_get-get_or, get_or_from_slice_get}
use Rattle.drm_grid.specs.CellSet.{Has}
use Rattle.drm_road.specs.Road.{Road, IsRoad, weight_of}
use Rattle.drm_cellmap.specs.Elements.{node_count, edge_count, HasEnds}
use Rattle.drm_cellmap.specs.Snapshot.{Snapshot}
use Rattle.drm_cellmap.specs.Routes.{Joins}
use Rattle.drm_cellmap.specs.Certificates.{IsLabel, Agrees}
use Rattle.drm_cert.specs.Near.{AreNear, label_at}
use Rattle.drm_cert.proofs.EdgeLemmas.{EachOpen}

-- the labels of the two nodes are near
abbrev pub EndsAreNear : Road → List (Option ℕ) → ℕ → ℕ → Type 0
EndsAreNear road labels a b = AreNear (label_at labels a) (label_at labels b) (weight_of road a b)

-- of two labels that are near, one gives the other
near_gives : (one other : Option ℕ) (x w : ℕ) → AreNear one other w → one ≡ Some x → (y : ℕ) × (other ≡ Some y) × (y ≤ x + w)
near_gives None None x w near is = absurd cc
near_gives None (Some y) x w near is = absurd near
near_gives (Some a) None x w near is = absurd near
near_gives (Some a) (Some y) x w near is = let same : a ≡ x = cc in (y, refl, omega (arith, near.0))

near_back : (one other : Option ℕ) (w : ℕ) → AreNear one other w → AreNear other one w
near_back None None w near = near
near_back None (Some y) w near = near
near_back (Some x) None w near = near
near_back (Some x) (Some y) w near = (near.1, near.0)

gives_near : (one other : Option ℕ) (w : ℕ) → ((x : ℕ) → one ≡ Some x → (y : ℕ) × (other ≡ Some y) × (y ≤ x + w)) → ((y : ℕ) → other ≡ Some y → (x : ℕ) × (one ≡ Some x) × (x ≤ y + w)) → AreNear one other w
gives_near None None w forth back = tt
gives_near None (Some y) w forth back = let there = back y refl in let is = there.1 in cc
gives_near (Some x) None w forth back = let there = forth x refl in let is = there.1 in cc
gives_near (Some x) (Some y) w forth back = (below x y (forth x refl), below y x (back y refl))
  where
    below : (m n : ℕ) → (z : ℕ) × (Some n ≡ Some z) × (z ≤ m + w) → n ≤ m + w
    below m n (z, is, most) = let same : n ≡ z = cc in omega arith

label_read : (labels : List (Option ℕ)) (v x : ℕ) → IsLabel labels v x → label_at labels v ≡ Some x
label_read labels v x is = get_or_from_slice_get labels v (Some x) None is

label_there : (labels : List (Option ℕ)) (v x : ℕ) → v < length labels → label_at labels v ≡ Some x → IsLabel labels v x
label_there labels v x below is = slice_get-get_or labels v None below ∙ ap (λ (o : Option ℕ). Some o) is

agree_over : (labels : List (Option ℕ)) (u v w x : ℕ) → v < length labels → AreNear (label_at labels u) (label_at labels v) w → IsLabel labels u x → (y : ℕ) × IsLabel labels v y × (y ≤ x + w)
agree_over labels u v w x below near label =
    let there = near_gives (label_at labels u) (label_at labels v) x w near (label_read labels u x label) in
    (there.0, label_there labels v there.0 below there.1, there.2)

-- labels agree where they do so over each edge that is not barred
pub agree_by_edges : (road : Road) (snap : Snapshot) (labels : List (Option ℕ)) → IsRoad road → length labels ≡ node_count road → EachOpen road snap (edge_count road) (EndsAreNear road labels) → Agrees road snap labels
agree_by_edges road snap labels is one_each each u v w x joins label =
    let order = is.ends joins.edge joins.a joins.b joins.is_edge in
    let near = each joins.edge joins.a joins.b (slice_get_within road.edges joins.edge (joins.a, joins.b) joins.is_edge) joins.is_edge joins.clear in
    over joins.a joins.b joins.ends order.0 order.1 joins.weight near
  where
    over : (a b : ℕ) → (((a ≡ u) × (b ≡ v)) ⊎ ((a ≡ v) × (b ≡ u))) → a < b → b < length road.nodes → w ≡ weight_of road a b → EndsAreNear road labels a b → (y : ℕ) × IsLabel labels v y × (y ≤ x + w)
    over a b (inl (first, second)) rising below weight near = agree_over labels u v w x (omega arith) (rw (← first, ← second, weight) near) label
    over a b (inr (first, second)) rising below weight near = agree_over labels u v w x (omega arith) (near_back (label_at labels v) (label_at labels u) w (rw (← first, ← second, weight) near)) label

-- and so they do at each such edge where they agree
pub near_where_agree : (road : Road) (snap : Snapshot) (labels : List (Option ℕ)) → IsRoad road → length labels ≡ node_count road → Agrees road snap labels → (i a b : ℕ) → HasEnds road i a b → (Has snap.edges i → ⊥) → EndsAreNear road labels a b
near_where_agree road snap labels is one_each agrees i a b there clear =
    let order = is.ends i a b there in
    let w = weight_of road a b in
    let forth : Joins road snap a b w = record { edge = i; a = a; b = b; is_edge = there; clear = clear; ends = inl (refl, refl); weight = refl } in
    let back : Joins road snap b a w = record { edge = i; a = a; b = b; is_edge = there; clear = clear; ends = inr (refl, refl); weight = refl } in
    gives_near (label_at labels a) (label_at labels b) w
    (λ x is_x. let next = agrees a b w x forth (label_there labels a x (omega arith) is_x) in (next.0, label_read labels b next.0 next.1, next.2))
    (λ y is_y. let next = agrees b a w y back (label_there labels b y (omega arith) is_y) in (next.0, label_read labels a next.0 next.1, next.2))
