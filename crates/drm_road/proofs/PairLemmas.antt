-- The edges of one node after the other, and then in order.
use Rattle.std.proofs.Common.{◌≡◌, ◌≢◌, ◌⊎◌, inl, inr, ℕ, suc, ◌+◌, ◌*◌, ◌<◌, ◌≤◌, cond, ℤ, Bool, true, false, List, [], ◌∷◌, ◌++◌, length, map, get_or, nat_eq, ◌&&◌, refl, ap, sym, ◌∙◌, subst, arith}
use Rattle.std.specs.List.{Contains, dedup, dedup_from}
use Rattle.std.proofs.lemmas.List.{length-append, length-map}
use Rattle.std.proofs.Math.Nat.{suc-mul}
use Rattle.std.specs.List.Sorted.{IsSorted, IsPermutation}
use Rattle.std.proofs.Common.{Ordering, Less, Equal, Greater}
use Rattle.std.specs.Ordering.{MatchOrdering, nat_cmp, ordering_then, is_eq, eq_by_cmp}
use Rattle.std.specs.Cmp.{IsTotalOrder, IsEquivalence, ranked, unsigned_ties}
use Rattle.std.proofs.lemmas.Cmp.{then_total, on_total, nat_cmp_total, and_equiv, on_equiv, nat_eq_equiv}
use Rattle.std.proofs.lemmas.Bool.{eqb-true}
use Rattle.std.proofs.lemmas.Map.Keys.{Less-from_sorted}
use Rattle.std.proofs.lemmas.List.Kept.{Contains-dedup, Contains-from_dedup, IsStrictlySortedBy-dedup}
use Rattle.std.proofs.lemmas.List.Sorted.{Contains-permutation, IsPermutation-sym, length_permutation}
use Rattle.std.proofs.lemmas.List.Elements.{Contains-append_left, Contains-append_right, Contains-append_cases}
use Rattle.std.proofs.lemmas.Bool.Decides.{nat_tests}
use Rattle.drm_road.specs.declared.pairing.Place.{Place}
use Rattle.drm_road.specs.Pairs.{IsNear, ArePairs, edge_between}
use Rattle.drm_road.specs.Nearest.{AreNearest}
use Rattle.drm_road.proofs.ListLemmas.{contains-map, map-contains}
use Rattle.drm_road.proofs.NearestLemmas.{found_is_near, near_is_found}

-- one of the two nodes is among the first `count`, and the other is near it
abbrev pub IsFrom : List (List ℤ) → ℕ → ℕ → ℕ → ℕ → Type 0
IsFrom nodes near count a b = ((a < count) × IsNear nodes near a b) ⊎ ((b < count) × IsNear nodes near b a)

-- the edges of the first `count` nodes, in any order, each at most once for either node
pub record HasEdges (nodes : List (List ℤ)) (near count : ℕ) (edges : List (ℕ × ℕ)) : Type 0 where
  pub few : length edges ≤ count * near
  pub sound : (a b : ℕ) → Contains edges (a, b) → (a < b) × (b < length nodes) × IsFrom nodes near count a b
  pub whole : (a b : ℕ) → a < b → b < length nodes → IsFrom nodes near count a b → Contains edges (a, b)

pub edges_none : (nodes : List (List ℤ)) (near : ℕ) → HasEdges nodes near 0 []
edges_none nodes near = record {
  few = omega arith;
  sound = λ a b has. let below = has.1 in absurd (omega arith);
  whole = λ a b less inside from. elim from [ inl first ↦ let below = first.0 in absurd (omega arith) | inr second ↦ let below = second.0 in absurd (omega arith) ];
}

upwards : (i j : ℕ) → i < j → edge_between i j ≡ (i, j)
upwards i j less = grind (arith, nat_tests)

downwards : (i j : ℕ) → j < i → edge_between i j ≡ (j, i)
downwards i j less = grind (arith, nat_tests)

order : (i j : ℕ) → j ≢ i → (i < j) ⊎ (j < i)
order i j other = grind arith

split : (k j : ℕ) → k < suc j → (k < j) ⊎ (k ≡ j)
split k j below = grind arith

widen : (nodes : List (List ℤ)) (near count a b : ℕ) → IsFrom nodes near count a b → IsFrom nodes near (suc count) a b
widen nodes near count a b from = elim from [ inl first ↦ let below = first.0 in inl (omega arith, first.1) | inr second ↦ let below = second.0 in inr (omega arith, second.1) ]

-- the lesser node is the one whose nearest were found
first_end : (nodes : List (List ℤ)) (near a b : ℕ) → a < b → b < length nodes → IsNear nodes near a b → (a < b) × (b < length nodes) × IsFrom nodes near (suc a) a b
first_end nodes near a b less below is = (less, below, inl (omega arith, is))

-- the greater one is
second_end : (nodes : List (List ℤ)) (near a b : ℕ) → a < b → b < length nodes → IsNear nodes near b a → (a < b) × (b < length nodes) × IsFrom nodes near (suc b) a b
second_end nodes near a b less below is = (less, below, inr (omega arith, is))

ends_are : (e f : ℕ × ℕ) → e ≡ f → (e.0 ≡ f.0) × (e.1 ≡ f.1)
ends_are e f same = (ap (λ (p : ℕ × ℕ). p.0) same, ap (λ (p : ℕ × ℕ). p.1) same)

new_sound : (nodes : List (List ℤ)) (near i j a b : ℕ) → i < length nodes → j < length nodes → IsNear nodes near i j → edge_between i j ≡ (a, b) → (a < b) × (b < length nodes) × IsFrom nodes near (suc i) a b
new_sound nodes near i j a b inside there is edge = elim (order i j is.other) [
  | inl up ↦
      let ends = ends_are (i, j) (a, b) (sym (upwards i j up) ∙ edge) in
      rw (← ends.0, ← ends.1) (first_end nodes near i j up there is)
  | inr down ↦
      let ends = ends_are (j, i) (a, b) (sym (downwards i j down) ∙ edge) in
      rw (← ends.0, ← ends.1) (second_end nodes near j i down inside is)
]

pub edges_more : (nodes : List (List ℤ)) (near i : ℕ) (edges : List (ℕ × ℕ)) (best : List Place) → HasEdges nodes near i edges → i < length nodes → AreNearest nodes near i (length nodes) best → HasEdges nodes near (suc i) (edges ++ map (λ (place : Place). edge_between i place.node) best)
edges_more nodes near i edges best h inside found =
    let edge_of : Place → ℕ × ℕ = λ place. edge_between i place.node in
    let added : length (edges ++ map edge_of best) ≡ length edges + length best = length-append edges (map edge_of best) ∙ ap (λ n. length edges + n) (length-map best edge_of) in
    let more = suc-mul i near in
    record {
      few = omega (arith, added, more, h.few, found.few);
      sound = λ a b has. elim (Contains-append_cases edges (map edge_of best) (a, b) has) [
        | inl old ↦ let known = h.sound a b old in (known.0, known.1, widen nodes near i a b known.2)
        | inr new ↦
            let from = contains-map edge_of best (a, b) new in
            let e = from.1 in
            let near_by = found_is_near nodes near i best found from.0 e from.2 in
            new_sound nodes near i e.node a b inside near_by.0 near_by.1 from.3
      ];
      whole = λ a b less below from. elim from [
        | inl first ↦ elim (split a i first.0) [
          | inl earlier ↦ Contains-append_left edges (map edge_of best) (a, b) (h.whole a b less below (inl (earlier, first.1)))
          | inr same ↦
              let here = near_is_found nodes near i best found b below (subst (λ (k : ℕ). IsNear nodes near k b) same first.1) in
              let e = here.1 in
              let is : e.node ≡ b = here.3 in
              let edge : edge_of e ≡ (a, b) = rw (is, same) (upwards i b (omega arith)) in
              Contains-append_right edges (map edge_of best) (a, b) (map-contains edge_of best here.0 e (a, b) here.2 edge)
        ]
        | inr second ↦ elim (split b i second.0) [
          | inl earlier ↦ Contains-append_left edges (map edge_of best) (a, b) (h.whole a b less below (inr (earlier, second.1)))
          | inr same ↦
              let here = near_is_found nodes near i best found a (omega arith) (subst (λ (k : ℕ). IsNear nodes near k a) same second.1) in
              let e = here.1 in
              let is : e.node ≡ a = here.3 in
              let edge : edge_of e ≡ (a, b) = rw (is, same) (downwards i a (omega arith)) in
              Contains-append_right edges (map edge_of best) (a, b) (map-contains edge_of best here.0 e (a, b) here.2 edge)
        ]
      ];
    }

-- the order of edges, as sorting takes it
abbrev pub edge_cmp : ℕ × ℕ → ℕ × ℕ → Ordering
edge_cmp e f = ordering_then (nat_cmp e.0 f.0) (nat_cmp e.1 f.1)

-- two edges are one, as dropping repeated ones takes it
abbrev pub same_edge : ℕ × ℕ → ℕ × ℕ → Bool
same_edge e f = nat_eq e.0 f.0 && nat_eq e.1 f.1

edge_order : IsTotalOrder edge_cmp
edge_order = then_total (on_total (λ (e : ℕ × ℕ). e.0) nat_cmp_total) (on_total (λ (e : ℕ × ℕ). e.1) nat_cmp_total)

same_order : IsEquivalence same_edge
same_order = and_equiv (on_equiv (λ (e : ℕ × ℕ). e.0) nat_eq_equiv) (on_equiv (λ (e : ℕ × ℕ). e.1) nat_eq_equiv)

both_equal : (o p : Ordering) → (is_eq o && is_eq p) ≡ is_eq (ordering_then o p)
both_equal Less p = refl
both_equal Equal p = refl
both_equal Greater p = refl

edge_ties : (e f : ℕ × ℕ) → same_edge e f ≡ eq_by_cmp edge_cmp e f
edge_ties e f =
    ap (λ b. b && nat_eq e.1 f.1) (unsigned_ties e.0 f.0) ∙ (ap (λ b. is_eq (nat_cmp e.0 f.0) && b) (unsigned_ties e.1 f.1) ∙ both_equal (nat_cmp e.0 f.0) (nat_cmp e.1 f.1))

both_so : (b c : Bool) → (b && c) ≡ true → (b ≡ true) × (c ≡ true)
both_so true c h = (refl, h)
both_so false c h = cc

same_is_one : (e f : ℕ × ℕ) → same_edge e f ≡ true → e ≡ f
same_is_one (a, b) (c, d) h =
    let parts = both_so (nat_eq a c) (nat_eq b d) h in
    let first : a ≡ c = eqb-true a c parts.0 in
    let second : b ≡ d = eqb-true b d parts.1 in
    rw (first, second) refl

precedes_from : (a b c d : ℕ) (o p : Ordering) → MatchOrdering o (a < c) (a ≡ c) (c < a) → MatchOrdering p (b < d) (b ≡ d) (d < b) → ordering_then o p ≡ Less → (a < c) ⊎ ((a ≡ c) × (b < d))
precedes_from a b c d Less p first second h = inl first
precedes_from a b c d Equal Less first second h = inr (first, second)
precedes_from a b c d Equal Equal first second h = cc
precedes_from a b c d Equal Greater first second h = cc
precedes_from a b c d Greater p first second h = cc

shorter : {X : Type 0} (b : Bool) (us vs : List X) (n : ℕ) → length us ≤ n → length vs ≤ n → length (cond b us vs) ≤ n
shorter true us vs n first second = first
shorter false us vs n first second = second

-- dropping repeated elements makes no list longer
once_from : {X : Type 0} (same : X → X → Bool) (xs : List X) (k : X) → length (dedup_from same k xs) ≤ length xs + 1
once_from same [] k = omega arith
once_from same (x ∷ xs) k =
    let kept = once_from same xs k in
    let next = once_from same xs x in
    shorter (same x k) (dedup_from same k xs) (k ∷ dedup_from same x xs) (length (x ∷ xs) + 1) (omega arith) (omega arith)

no_longer : {X : Type 0} (same : X → X → Bool) (xs : List X) → length (dedup same xs) ≤ length xs
no_longer same [] = omega arith
no_longer same (x ∷ xs) = let kept = once_from same xs x in omega arith

-- sorted and each once, there are at most `near` edges for each node
pub few_pairs : (nodes : List (List ℤ)) (near : ℕ) (edges sorted once : List (ℕ × ℕ)) → HasEdges nodes near (length nodes) edges → IsPermutation edges sorted → once ≡ dedup same_edge sorted → length once ≤ length nodes * near
few_pairs nodes near edges sorted once h moved is =
    let size = length_permutation edges sorted moved in
    let kept = no_longer same_edge sorted in
    let same = ap length is in
    omega (arith, h.few, size, kept, same)

-- all edges, sorted and each once
pub all_pairs : (nodes : List (List ℤ)) (near : ℕ) (edges sorted once : List (ℕ × ℕ)) → HasEdges nodes near (length nodes) edges → IsPermutation edges sorted → IsSorted edge_cmp sorted → once ≡ dedup same_edge sorted → ArePairs nodes near once
all_pairs nodes near edges sorted once h moved rises is =
    let strict = IsStrictlySortedBy-dedup edge_order edge_ties sorted rises in
    record {
      increasing = rw is (λ i j d less below.
          let e = get_or (dedup same_edge sorted) i d in
          let f = get_or (dedup same_edge sorted) j d in
          precedes_from e.0 e.1 f.0 f.1 (nat_cmp e.0 f.0) (nat_cmp e.1 f.1) (ranked e.0 f.0 (nat_cmp e.0 f.0) refl) (ranked e.1 f.1 (nat_cmp e.1 f.1) refl) (Less-from_sorted edge_cmp (dedup same_edge sorted) i j d strict less below));
      exact = λ a b. (
        (λ has.
            let before = Contains-permutation sorted edges (a, b) (IsPermutation-sym edges sorted moved) (Contains-from_dedup same_edge sorted (a, b) (rw is at has)) in
            let known = h.sound a b before in
            (known.0, known.1, elim known.2 [ inl first ↦ inl first.1 | inr second ↦ inr second.1 ])),
        (λ known.
            let below = known.1 in
            let less = known.0 in
            let from : IsFrom nodes near (length nodes) a b = elim known.2 [ inl first ↦ inl (omega arith, first) | inr second ↦ inr (below, second) ] in
            rw is (Contains-dedup same_order same_is_one sorted (a, b) (Contains-permutation edges sorted (a, b) moved (h.whole a b less below from)))),
      );
    }
