-- Sides that no edge leaves.
use Rattle.std.proofs.Common.{◌≡◌, inl, inr, ℕ, zero, suc, ◌+◌, ◌-◌, ◌<◌, ◌≤◌, ◌↔◌, List, length, get_or, Bool, refl, ap, sym, ◌∙◌, arith}
use Rattle.std.specs.Prelude.{Contains, Result, Ok, Err, is_ok, IsTrue, MatchResult}
use Rattle.std.specs.Ordering.{nat_cmp}
use Rattle.std.proofs.lemmas.List.Sorted.{searched}
use Rattle.std.specs.List.Sorted.{IsStrictlyIncreasing, IsBinarySearchResult}
use Rattle.std.proofs.lemmas.Option.{slice_get_within, slice_get-get_or, get_or_from_slice_get}
use Rattle.drm_grid.specs.CellSet.{Has}
use Rattle.drm_road.specs.Road.{Road, weight_of}
use Rattle.drm_cellmap.specs.Elements.{edge_count, HasEnds}
use Rattle.drm_cellmap.specs.Snapshot.{Snapshot}
use Rattle.drm_cellmap.specs.Certificates.{CutCert}
use Rattle.drm_cert.specs.Near.{AreAlike, IsClosed, PartsEnds}
use Rattle.drm_cert.proofs.EdgeLemmas.{EachOpen, in_order}

-- a side that no edge leaves, edge by edge
pub closed_by_edges : (road : Road) (snap : Snapshot) (side : List ℕ) → EachOpen road snap (edge_count road) (AreAlike side) → IsClosed road snap side
closed_by_edges road snap side each u v w joins inside =
    let alike = each joins.edge joins.a joins.b (slice_get_within road.edges joins.edge (joins.a, joins.b) joins.is_edge) joins.is_edge joins.clear in
    elim joins.ends [
      | inl h ↦ rw h.1 at (alike.0 (rw (← h.0) at inside))
      | inr h ↦ rw h.0 at (alike.1 (rw (← h.1) at inside))
    ]

-- an edge that is not barred has both ends in the side, or neither
pub alike_where_closed : (road : Road) (snap : Snapshot) (side : List ℕ) → IsClosed road snap side → (i a b : ℕ) → HasEnds road i a b → (Has snap.edges i → ⊥) → AreAlike side a b
alike_where_closed road snap side closed i a b there clear = (
  closed a b (weight_of road a b) (record { edge = i; a = a; b = b; is_edge = there; clear = clear; ends = inl (refl, refl); weight = refl }),
  closed b a (weight_of road a b) (record { edge = i; a = a; b = b; is_edge = there; clear = clear; ends = inr (refl, refl); weight = refl }),
)

-- numbers that rise do not fall
pub rising_from : (side : List ℕ) → IsStrictlyIncreasing side → (i n : ℕ) → i + n < length side → get_or side i 0 + n ≤ get_or side (i + n) 0
rising_from side up i zero below =
    let same : i + 0 ≡ i = omega arith in
    let here : get_or side (i + 0) 0 ≡ get_or side i 0 = ap (λ (k : ℕ). get_or side k 0) same in
    omega arith
rising_from side up i (suc n) below =
    let before = rising_from side up i n (omega arith) in
    let next : get_or side (i + n) 0 < get_or side ((i + n) + 1) 0 = up (i + n) (omega arith) in
    let same : (i + n) + 1 ≡ i + suc n = omega arith in
    let last : get_or side (i + n) 0 < get_or side (i + suc n) 0 = rw same at next in
    omega arith

pub never_falls : (side : List ℕ) → IsStrictlyIncreasing side → (i j : ℕ) → i ≤ j → j < length side → get_or side i 0 ≤ get_or side j 0
never_falls side up i j before below =
    let same : i + (j - i) ≡ j = omega arith in
    let far = rising_from side up i (j - i) (rw same below) in
    let last : get_or side i 0 + (j - i) ≤ get_or side j 0 = rw same at far in
    omega arith

-- what a search in rising numbers finds
pub found_in : (side : List ℕ) (node : ℕ) (r : Result ℕ ℕ) → IsStrictlyIncreasing side → IsBinarySearchResult (λ y. nat_cmp y node) side r → IsTrue (is_ok r) ↔ Contains side node
found_in side node r up position = told r (searched side node r position (never_falls side up))
  where
    at_any : (k : ℕ) → k < length side → get_or side k node ≡ get_or side k 0
    at_any k below = get_or_from_slice_get side k (get_or side k 0) node (slice_get-get_or side k 0 below)

    told : (r : Result ℕ ℕ) → MatchResult r (λ i. (i < length side) × (get_or side i 0 ≡ node)) (λ i. (i ≤ length side) × ((k : ℕ) → k < i → get_or side k 0 < node) × ((k : ℕ) → i ≤ k → k < length side → node < get_or side k 0)) → IsTrue (is_ok r) ↔ Contains side node
    told (Ok i) (below, is) = (λ _. (i, below, at_any i below ∙ is), λ _. refl)
    told (Err i) (within, before, after) = (λ t. absurd cc, λ (k, below, is). absurd (apart k below (sym (at_any k below) ∙ is)))
      where
        apart : (k : ℕ) → k < length side → get_or side k 0 ≡ node → ⊥
        apart k below is =
            elim (in_order k i) [
              | inl lower ↦ let less = before k lower in omega arith
              | inr h ↦ let more = after k (elim h [ inl same ↦ omega arith | inr above ↦ omega arith ]) below in omega arith
            ]

-- the parts of a cut certificate
pub cut_by_parts : (road : Road) (snap : Snapshot) (from to : ℕ) (side : List ℕ) (r : Bool) → PartsEnds road from to side → (IsTrue r ↔ IsClosed road snap side) → IsTrue r ↔ CutCert road snap from to side
cut_by_parts road snap from to side r ((increasing, in_range), inside, outside) closed = (
  λ is. record { increasing = increasing; in_range = in_range; inside = inside; outside = outside; barred = closed.0 is },
  λ cert. closed.1 cert.barred,
)
