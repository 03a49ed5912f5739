-- A roadmap breaks no rule, and what breaks none is a roadmap.
use Rattle.std.proofs.Common.{◌≡◌, ◌≢◌, ◌⊎◌, ◌↔◌, inl, inr, ℕ, zero, suc, ◌+◌, ◌-◌, ◌<◌, ◌≤◌, ℤ, Bool, true, false, not, ◌||◌, ◌&&◌, nat_eq, nat_lt, nat_le, IsTrue, List, [], ◌∷◌, length, take, get_or, Some, None, refl, ap, sym, ◌∙◌, subst, arith}
use Rattle.std.specs.List.{AllPairs, list_any, range_with_len, position, position_or_len}
use Rattle.std.proofs.lemmas.Bool.{eqb-true, eq-eqb, lt-ltb, le-ltb, not-true}
use Rattle.std.proofs.lemmas.Bool.Decides.{nat_tests}
use Rattle.std.proofs.lemmas.List.{get_or-take, length-take-le}
use Rattle.std.proofs.lemmas.List.FromFn.{length-range_with_len, get_or-range_with_len}
use Rattle.std.proofs.lemmas.List.Folds.{list_any_at, list_any_none}
use Rattle.std.proofs.lemmas.List.Sums.{position_or_len_is}
use Rattle.std.proofs.lemmas.Option.{get_or_from_slice_get, slice_get-get_or, slice_get_within}
use Rattle.drm_num.specs.FirstBroken.{unless, broken_at}
use Rattle.drm_num.proofs.RuleLemmas.{kept, unbroken, first_kept, none_broken, each_keeps, none_breaks}
use Rattle.drm_road.specs.declared.road.RoadFault.TheVariants.{Nodes, Node, Edges, Edge}
use Rattle.drm_road.specs.Limits.{max_nodes, max_edges}
use Rattle.drm_road.specs.Draws.{is_same}
use Rattle.drm_road.specs.Pairs.{AreLikeNodes, Precedes}
use Rattle.drm_road.specs.Road.{IsRoad}
use Rattle.drm_road.specs.RoadFaults.{has_node_count, keeps_nodes, keeps_edges, precedes, road_fault}
use Rattle.drm_road.proofs.ListLemmas.{get_or_any}
use Rattle.drm_road.proofs.RepeatLemmas.{same_decides, same_itself}

-- the first number that does not keep a rule
pub first_broken : (keeps : ℕ → Bool) (n i : ℕ) → i < n → ((k : ℕ) → k < i → keeps k ≡ true) → keeps i ≡ false → position (λ k. not (keeps k)) (range_with_len 0 n) ≡ Some i
first_broken keeps n i below before here =
    let sized = length-range_with_len 0 n in
    let at : (k : ℕ) → k < n → get_or (range_with_len 0 n) k 0 ≡ k = λ k inside. get_or-range_with_len 0 n k 0 inside ∙ plain k in
    let place : position_or_len (λ k. not (keeps k)) (range_with_len 0 n) ≡ i = position_or_len_is (λ k. not (keeps k)) (range_with_len 0 n) i 0 (omega arith)
    (λ k lower. ap (λ m. not (keeps m)) (at k (omega arith)) ∙ ap not (before k lower)) (λ _. ap (λ m. not (keeps m)) (at i below) ∙ ap not here) in
    let inside : nat_lt i (length (range_with_len 0 n)) ≡ true = lt-ltb i (length (range_with_len 0 n)) (omega arith) in
    rw (place, inside) refl
  where
    plain : (k : ℕ) → 0 + k ≡ k
    plain k = omega arith

pub never_broken : (keeps : ℕ → Bool) (n : ℕ) → ((k : ℕ) → k < n → keeps k ≡ true) → position (λ k. not (keeps k)) (range_with_len 0 n) ≡ None
never_broken keeps n each =
    let sized = length-range_with_len 0 n in
    let at : (k : ℕ) → k < n → get_or (range_with_len 0 n) k 0 ≡ k = λ k inside. get_or-range_with_len 0 n k 0 inside ∙ plain k in
    let place : position_or_len (λ k. not (keeps k)) (range_with_len 0 n) ≡ n = position_or_len_is (λ k. not (keeps k)) (range_with_len 0 n) n 0 (omega arith)
    (λ k lower. ap (λ m. not (keeps m)) (at k lower) ∙ ap not (each k lower)) (λ past. absurd (omega arith)) in
    let outside : nat_lt n (length (range_with_len 0 n)) ≡ false = le-ltb n (length (range_with_len 0 n)) (omega arith) in
    rw (place, outside) refl
  where
    plain : (k : ℕ) → 0 + k ≡ k
    plain k = omega arith

-- each number keeps a rule that no number breaks
each_number : {F : Type 0} (fault : ℕ → F) (keeps : ℕ → Bool) (n : ℕ) → broken_at fault keeps (range_with_len 0 n) ≡ None → (k : ℕ) → k < n → keeps k ≡ true
each_number fault keeps n none k below =
    let sized = length-range_with_len 0 n in
    let here = each_keeps fault keeps (range_with_len 0 n) none k 0 (omega arith) in
    subst (λ (m : ℕ). keeps m ≡ true) (get_or-range_with_len 0 n k 0 below ∙ plain k) here
  where
    plain : (k : ℕ) → 0 + k ≡ k
    plain k = omega arith

no_number : {F : Type 0} (fault : ℕ → F) (keeps : ℕ → Bool) (n : ℕ) → ((k : ℕ) → k < n → keeps k ≡ true) → broken_at fault keeps (range_with_len 0 n) ≡ None
no_number fault keeps n each = none_breaks fault keeps (range_with_len 0 n) (λ k d below. all_in k d below)
  where
    all_in : (k d : ℕ) → k < length (range_with_len 0 n) → IsTrue (keeps (get_or (range_with_len 0 n) k d))
    all_in k d below =
        let sized = length-range_with_len 0 n in
        let inside : k < n = omega arith in
        let plain : 0 + k ≡ k = omega arith in
        rw (get_or-range_with_len 0 n k d inside, plain) (each k inside)

counted : (n : ℕ) → has_node_count n ≡ true → (1 ≤ n) × (n ≤ max_nodes)
counted n h = grind (arith, nat_tests)

counts : (n : ℕ) → 1 ≤ n → n ≤ max_nodes → has_node_count n ≡ true
counts n some few = grind (arith, nat_tests)

both : (b c : Bool) → (b && c) ≡ true → (b ≡ true) × (c ≡ true)
both true c h = (refl, h)
both false c h = cc

apart : (one other : List ℤ) → one ≢ other → is_same one other ≡ false
apart one other differ = no_truth (is_same one other) (λ same. differ ((same_decides one other).0 same))
  where
    no_truth : (b : Bool) → (b ≡ true → ⊥) → b ≡ false
    no_truth true never = absurd (never refl)
    no_truth false never = refl

-- nodes that keep the rule on nodes
like_nodes : (nodes : List (List ℤ)) → ((k : ℕ) → k < length nodes → keeps_nodes nodes k ≡ true) → AreLikeNodes nodes
like_nodes nodes each = record {
  joints = λ i j below_i below_j. as_first i below_i ∙ sym (as_first j below_j);
  distinct = λ i j d less below same.
      let parts = both (nat_eq (length (get_or nodes j [])) (length (get_or nodes 0 []))) (not (list_any (is_same (get_or nodes j [])) (take j nodes))) (each j below) in
      let new : list_any (is_same (get_or nodes j [])) (take j nodes) ≡ false = not-true (list_any (is_same (get_or nodes j [])) (take j nodes)) parts.1 in
      let sized = length-take-le j nodes (omega arith) in
      let inside : i < length (take j nodes) = omega arith in
      let there : get_or (take j nodes) i [] ≡ get_or nodes j [] = get_or-take j nodes i [] less ∙ (get_or_any nodes i [] d (omega arith) ∙ (same ∙ get_or_any nodes j d [] below)) in
      let passes : is_same (get_or nodes j []) (get_or (take j nodes) i []) ≡ true = rw there (same_itself (get_or nodes j [])) in
      let found = list_any_at (is_same (get_or nodes j [])) (take j nodes) i [] inside passes in
      cc;
}
  where
    as_first : (k : ℕ) → k < length nodes → length (get_or nodes k []) ≡ length (get_or nodes 0 [])
    as_first k below = eqb-true (length (get_or nodes k [])) (length (get_or nodes 0 [])) (both (nat_eq (length (get_or nodes k [])) (length (get_or nodes 0 []))) (not (list_any (is_same (get_or nodes k [])) (take k nodes))) (each k below)).0

keep_like : (nodes : List (List ℤ)) → AreLikeNodes nodes → (k : ℕ) → k < length nodes → keeps_nodes nodes k ≡ true
keep_like nodes h k below =
    let alike : nat_eq (length (get_or nodes k [])) (length (get_or nodes 0 [])) ≡ true = eq-eqb (length (get_or nodes k [])) (length (get_or nodes 0 [])) (h.joints k 0 below (omega arith)) in
    let sized = length-take-le k nodes (omega arith) in
    let new : list_any (is_same (get_or nodes k [])) (take k nodes) ≡ false = list_any_none (is_same (get_or nodes k [])) (take k nodes)
    (λ m d inside.
    let lower : m < k = omega arith in
    let there = get_or-take k nodes m d lower in
    rw there (apart (get_or nodes k []) (get_or nodes m d) (λ same. h.distinct m k d lower below (sym same ∙ get_or_any nodes k [] d below)))) in
    rw (alike, new) refl

precedes_means : (e f : ℕ × ℕ) → precedes e f ≡ true → Precedes e f
precedes_means e f h = means e.0 e.1 f.0 f.1 h
  where
    means : (a b c d : ℕ) → (nat_lt a c || (nat_eq a c && nat_lt b d)) ≡ true → (a < c) ⊎ ((a ≡ c) × (b < d))
    means a b c d h = grind (arith, nat_tests)

precedes_is : (e f : ℕ × ℕ) → Precedes e f → precedes e f ≡ true
precedes_is e f h = is e.0 e.1 f.0 f.1 h
  where
    is : (a b c d : ℕ) → (a < c) ⊎ ((a ≡ c) × (b < d)) → (nat_lt a c || (nat_eq a c && nat_lt b d)) ≡ true
    is a b c d h = grind (arith, nat_tests)

precedes_trans : (e f g : ℕ × ℕ) → Precedes e f → Precedes f g → Precedes e g
precedes_trans e f g first second = chain e.0 e.1 f.0 f.1 g.0 g.1 first second
  where
    chain : (a b c d x y : ℕ) → (a < c) ⊎ ((a ≡ c) × (b < d)) → (c < x) ⊎ ((c ≡ x) × (d < y)) → (a < x) ⊎ ((a ≡ x) × (b < y))
    chain a b c d x y first second = grind arith

-- what an edge that keeps the rule on edges says
record IsKept (count : ℕ) (edges : List (ℕ × ℕ)) (i : ℕ) : Type 0 where
  pub up : (get_or edges i (0, 0)).0 < (get_or edges i (0, 0)).1
  pub inside : (get_or edges i (0, 0)).1 < count
  pub after : (i ≡ 0) ⊎ Precedes (get_or edges (i - 1) (0, 0)) (get_or edges i (0, 0))

kept_means : (count : ℕ) (edges : List (ℕ × ℕ)) (i : ℕ) → keeps_edges count edges i ≡ true → IsKept count edges i
kept_means count edges i h =
    let edge = get_or edges i (0, 0) in
    let before = get_or edges (i - 1) (0, 0) in
    let parts = means edge.0 edge.1 count i (precedes before edge) h in
    record { up = parts.0; inside = parts.1; after = elim parts.2 [ inl first ↦ inl first | inr later ↦ inr (precedes_means before edge later) ] }
  where
    means : (a b n i : ℕ) (p : Bool) → (nat_lt a b && nat_lt b n && (nat_eq i 0 || p)) ≡ true → (a < b) × (b < n) × ((i ≡ 0) ⊎ (p ≡ true))
    means a b n i p h = grind (arith, nat_tests)

kept_is : (count : ℕ) (edges : List (ℕ × ℕ)) (i : ℕ) → IsKept count edges i → keeps_edges count edges i ≡ true
kept_is count edges i h =
    let edge = get_or edges i (0, 0) in
    let before = get_or edges (i - 1) (0, 0) in
    is edge.0 edge.1 count i (precedes before edge) h.up h.inside (elim h.after [ inl first ↦ inl first | inr later ↦ inr (precedes_is before edge later) ])
  where
    is : (a b n i : ℕ) (p : Bool) → a < b → b < n → ((i ≡ 0) ⊎ (p ≡ true)) → (nat_lt a b && nat_lt b n && (nat_eq i 0 || p)) ≡ true
    is a b n i p up inside after = grind (arith, nat_tests)

-- edges of which each comes after the one before it are in order
rising : (count : ℕ) (edges : List (ℕ × ℕ)) → ((k : ℕ) → k < length edges → IsKept count edges k) → (i gap : ℕ) → suc (i + gap) < length edges → Precedes (get_or edges i (0, 0)) (get_or edges (suc (i + gap)) (0, 0))
rising count edges each i zero below = elim (each (suc (i + 0)) below).after [
  | inl first ↦ absurd (omega arith)
  | inr later ↦ let back : suc (i + 0) - 1 ≡ i = omega arith in subst (λ (k : ℕ). Precedes (get_or edges k (0, 0)) (get_or edges (suc (i + 0)) (0, 0))) back later
]
rising count edges each i (suc gap) below = elim (each (suc (i + suc gap)) below).after [
  | inl first ↦ absurd (omega arith)
  | inr later ↦
      let back : suc (i + suc gap) - 1 ≡ suc (i + gap) = omega arith in
      precedes_trans (get_or edges i (0, 0)) (get_or edges (suc (i + gap)) (0, 0)) (get_or edges (suc (i + suc gap)) (0, 0)) (rising count edges each i gap (omega arith))
      (subst (λ (k : ℕ). Precedes (get_or edges k (0, 0)) (get_or edges (suc (i + suc gap)) (0, 0))) back later)
]

increasing_edges : (count : ℕ) (edges : List (ℕ × ℕ)) → ((k : ℕ) → k < length edges → IsKept count edges k) → AllPairs Precedes edges
increasing_edges count edges each i j d less below =
    let step : suc (i + (j - suc i)) ≡ j = omega arith in
    let here = rising count edges each i (j - suc i) (omega arith) in
    let there : Precedes (get_or edges i (0, 0)) (get_or edges j (0, 0)) = subst (λ (k : ℕ). Precedes (get_or edges i (0, 0)) (get_or edges k (0, 0))) step here in
    rw (get_or_any edges i d (0, 0) (omega arith), get_or_any edges j d (0, 0) below) there

pub is_road : (nodes : List (List ℤ)) (edges : List (ℕ × ℕ)) → road_fault nodes edges ≡ None → IsRoad (record { nodes = nodes; edges = edges })
is_road nodes edges none =
    let first = first_kept (unless (has_node_count (length nodes)) (Nodes (length nodes)))
    (broken_at Node (keeps_nodes nodes) (range_with_len 0 (length nodes)) ∷ unless (nat_le (length edges) max_edges) (Edges (length edges)) ∷ broken_at Edge (keeps_edges (length nodes) edges) (range_with_len 0 (length edges)) ∷ []) none in
    let second = first_kept (broken_at Node (keeps_nodes nodes) (range_with_len 0 (length nodes)))
    (unless (nat_le (length edges) max_edges) (Edges (length edges)) ∷ broken_at Edge (keeps_edges (length nodes) edges) (range_with_len 0 (length edges)) ∷ []) first.1 in
    let third = first_kept (unless (nat_le (length edges) max_edges) (Edges (length edges))) (broken_at Edge (keeps_edges (length nodes) edges) (range_with_len 0 (length edges)) ∷ []) second.1 in
    let fourth = first_kept (broken_at Edge (keeps_edges (length nodes) edges) (range_with_len 0 (length edges))) [] third.1 in
    let count = counted (length nodes) (kept (has_node_count (length nodes)) (Nodes (length nodes)) first.0) in
    let few = few_edges (length edges) (kept (nat_le (length edges) max_edges) (Edges (length edges)) third.0) in
    let each : (k : ℕ) → k < length edges → IsKept (length nodes) edges k = λ k below. kept_means (length nodes) edges k (each_number Edge (keeps_edges (length nodes) edges) (length edges) fourth.0 k below) in
    record {
      some = count.0;
      few = count.1;
      alike = like_nodes nodes (each_number Node (keeps_nodes nodes) (length nodes) second.0);
      few_edges = few;
      ends = λ i a b there.
          let here = each i (slice_get_within edges i (a, b) there) in
          let is : get_or edges i (0, 0) ≡ (a, b) = get_or_from_slice_get edges i (a, b) (0, 0) there in
          (rw is at here.up, rw is at here.inside);
      increasing = increasing_edges (length nodes) edges each;
    }
  where
    few_edges : (n : ℕ) → nat_le n max_edges ≡ true → n ≤ max_edges
    few_edges n h = grind (arith, nat_tests)

pub faultless : (nodes : List (List ℤ)) (edges : List (ℕ × ℕ)) → IsRoad (record { nodes = nodes; edges = edges }) → road_fault nodes edges ≡ None
faultless nodes edges h =
    let each : (k : ℕ) → k < length edges → keeps_edges (length nodes) edges k ≡ true = λ k below.
    let edge = get_or edges k (0, 0) in
    let ends = h.ends k edge.0 edge.1 (slice_get-get_or edges k (0, 0) below) in
    kept_is (length nodes) edges k (record {
      up = ends.0;
      inside = ends.1;
      after = elim (either k) [
        | inl first ↦ inl first
        | inr later ↦ inr (h.increasing (k - 1) k (0, 0) (omega arith) below)
      ];
    }) in
    none_broken (unless (has_node_count (length nodes)) (Nodes (length nodes)))
    (broken_at Node (keeps_nodes nodes) (range_with_len 0 (length nodes)) ∷ unless (nat_le (length edges) max_edges) (Edges (length edges)) ∷ broken_at Edge (keeps_edges (length nodes) edges) (range_with_len 0 (length edges)) ∷ [])
    (unbroken (has_node_count (length nodes)) (Nodes (length nodes)) (counts (length nodes) h.some h.few))
    (none_broken (broken_at Node (keeps_nodes nodes) (range_with_len 0 (length nodes)))
    (unless (nat_le (length edges) max_edges) (Edges (length edges)) ∷ broken_at Edge (keeps_edges (length nodes) edges) (range_with_len 0 (length edges)) ∷ [])
    (no_number Node (keeps_nodes nodes) (length nodes) (keep_like nodes h.alike))
    (none_broken (unless (nat_le (length edges) max_edges) (Edges (length edges))) (broken_at Edge (keeps_edges (length nodes) edges) (range_with_len 0 (length edges)) ∷ [])
    (unbroken (nat_le (length edges) max_edges) (Edges (length edges)) (few (length edges) h.few_edges))
    (none_broken (broken_at Edge (keeps_edges (length nodes) edges) (range_with_len 0 (length edges))) []
    (no_number Edge (keeps_edges (length nodes) edges) (length edges) each) refl)))
  where
    few : (n : ℕ) → n ≤ max_edges → nat_le n max_edges ≡ true
    few n h = grind (arith, nat_tests)

    either : (k : ℕ) → (k ≡ 0) ⊎ (0 < k)
    either k = grind arith

-- both ways
pub road_or_not : (nodes : List (List ℤ)) (edges : List (ℕ × ℕ)) → (road_fault nodes edges ≡ None) ↔ IsRoad (record { nodes = nodes; edges = edges })
road_or_not nodes edges = (is_road nodes edges, faultless nodes edges)

-- a node with another number of joints
pub other_joints : (nodes : List (List ℤ)) (i : ℕ) → length (get_or nodes i []) ≢ length (get_or nodes 0 []) → keeps_nodes nodes i ≡ false
other_joints nodes i differ = fails (length (get_or nodes i [])) (length (get_or nodes 0 [])) (not (list_any (is_same (get_or nodes i [])) (take i nodes))) differ
  where
    fails : (a b : ℕ) (p : Bool) → a ≢ b → (nat_eq a b && p) ≡ false
    fails a b p differ = grind (arith, nat_tests)

-- a node with as many joints
pub same_joints : (nodes : List (List ℤ)) (i : ℕ) (new : Bool) → length (get_or nodes i []) ≡ length (get_or nodes 0 []) → new ≡ not (list_any (is_same (get_or nodes i [])) (take i nodes)) → keeps_nodes nodes i ≡ new
same_joints nodes i new same is =
    let alike : nat_eq (length (get_or nodes i [])) (length (get_or nodes 0 [])) ≡ true = eq-eqb (length (get_or nodes i [])) (length (get_or nodes 0 [])) same in
    rw alike (sym is)
