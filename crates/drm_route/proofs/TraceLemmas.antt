-- Steps back over edges, one edge after the other.
use Rattle.std.proofs.Common.{◌≡◌, ◌⊎◌, inl, inr, ℕ, zero, suc, ◌+◌, ◌<◌, ◌↔◌, min, reverse, List, [], ◌∷◌, ◌++◌, get_or, Option, None, Some, refl, ap, sym, ◌∙◌, subst, arith}
use Rattle.std.proofs.lemmas.List.{reverse-append}
use Rattle.std.proofs.lemmas.Option.{slice_get_within, get_or_from_slice_get}
use Rattle.drm_grid.specs.CellSet.{Has}
use Rattle.drm_road.specs.Road.{Road, IsRoad, weight_of}
use Rattle.drm_cellmap.specs.Elements.{edge_count, HasEnds}
use Rattle.drm_cellmap.specs.Snapshot.{Snapshot}
use Rattle.drm_cellmap.specs.Certificates.{IsLabel, Agrees}
use Rattle.drm_route.specs.Labels.{HasGrounds}
use Rattle.drm_route.specs.Trace.{StepsTo, StepsOver, IsStepBack, IsTraced, IsLeastStep, IsLesser, AreStep}
use Rattle.drm_route.proofs.BestLemmas.{joins_is_some}
use Rattle.drm_route.proofs.RoundLemmas.{same_or_not}

same_some : (a b : ℕ) → Some a ≡ Some b → a ≡ b
same_some a b is = cc

-- a barred edge gives no step
pub barred_offers : (road : Road) (snap : Snapshot) (labels : List (Option ℕ)) (i v : ℕ) → Has snap.edges i → (u : ℕ) → StepsOver road snap labels i u v ↔ (None ≡ Some u)
barred_offers road snap labels i v barred u =
    (λ (step, spot). absurd (step.joins.clear (subst (λ (n : ℕ). Has snap.edges n) (sym spot) barred)), λ none. absurd cc)

-- what a step over an edge from a to b is
over_edge : (road : Road) (snap : Snapshot) (labels : List (Option ℕ)) (i v a b w u : ℕ) → HasEnds road i a b → w ≡ weight_of road a b → StepsOver road snap labels i u v → ((a ≡ u) × (b ≡ v) × AreStep labels a b w) ⊎ ((b ≡ u) × (a ≡ v) × AreStep labels b a w)
over_edge road snap labels i v a b w u there heavy (step, spot) = go step.joins.a step.joins.b step.w (subst (λ (n : ℕ). HasEnds road n step.joins.a step.joins.b) spot step.joins.is_edge) step.joins.ends step.joins.weight step.near step.far step.whole
  where
    go : (c d k : ℕ) → HasEnds road i c d → (((c ≡ u) × (d ≡ v)) ⊎ ((c ≡ v) × (d ≡ u))) → k ≡ weight_of road c d → IsLabel labels u step.b → IsLabel labels v step.a → step.b + k ≡ step.a → ((a ≡ u) × (b ≡ v) × AreStep labels a b w) ⊎ ((b ≡ u) × (a ≡ v) × AreStep labels b a w)
    go c d k here ends weight near far whole =
        let pair : (c, d) ≡ (a, b) = cc in
        let first : c ≡ a = ap (λ (p : ℕ × ℕ). p.0) pair in
        let second : d ≡ b = ap (λ (p : ℕ × ℕ). p.1) pair in
        let same : k ≡ w = weight ∙ (ap (λ (p : ℕ × ℕ). weight_of road p.0 p.1) pair ∙ sym heavy) in
        let total : step.b + w ≡ step.a = subst (λ (n : ℕ). step.b + n ≡ step.a) same whole in
        elim ends [
          | inl (c_u, d_v) ↦
              let a_u : a ≡ u = sym first ∙ c_u in
              let b_v : b ≡ v = sym second ∙ d_v in
              inl (a_u, b_v, (step.b, step.a, subst (λ (n : ℕ). IsLabel labels n step.b) (sym a_u) near, subst (λ (n : ℕ). IsLabel labels n step.a) (sym b_v) far, total))
          | inr (c_v, d_u) ↦
              let a_v : a ≡ v = sym first ∙ c_v in
              let b_u : b ≡ u = sym second ∙ d_u in
              inr (b_u, a_v, (step.b, step.a, subst (λ (n : ℕ). IsLabel labels n step.b) (sym b_u) near, subst (λ (n : ℕ). IsLabel labels n step.a) (sym a_v) far, total))
        ]

step_ahead : (road : Road) (snap : Snapshot) (labels : List (Option ℕ)) (i v a b w : ℕ) → HasEnds road i a b → w ≡ weight_of road a b → (Has snap.edges i → ⊥) → b ≡ v → AreStep labels a b w → StepsOver road snap labels i a v
step_ahead road snap labels i v a b w there heavy clear same (near, far, is_near, is_far, whole) =
    (record { w = w; b = near; a = far; joins = record { edge = i; a = a; b = b; is_edge = there; clear = clear; ends = inl (refl, same); weight = heavy }; near = is_near; far = subst (λ (n : ℕ). IsLabel labels n far) same is_far; whole = whole }, refl)

step_behind : (road : Road) (snap : Snapshot) (labels : List (Option ℕ)) (i v a b w : ℕ) → HasEnds road i a b → w ≡ weight_of road a b → (Has snap.edges i → ⊥) → a ≡ v → AreStep labels b a w → StepsOver road snap labels i b v
step_behind road snap labels i v a b w there heavy clear same (near, far, is_near, is_far, whole) =
    (record { w = w; b = near; a = far; joins = record { edge = i; a = a; b = b; is_edge = there; clear = clear; ends = inr (same, refl); weight = heavy }; near = is_near; far = subst (λ (n : ℕ). IsLabel labels n far) same is_far; whole = whole }, refl)

-- the lesser node of the edge steps to v
pub lesser_offers : (road : Road) (snap : Snapshot) (labels : List (Option ℕ)) (i v a b w : ℕ) → IsRoad road → HasEnds road i a b → w ≡ weight_of road a b → (Has snap.edges i → ⊥) → ((b ≡ v) × AreStep labels a b w) → (u : ℕ) → StepsOver road snap labels i u v ↔ (Some a ≡ Some u)
lesser_offers road snap labels i v a b w is there heavy clear = λ h u. (
  λ step. elim (over_edge road snap labels i v a b w u there heavy step) [
    | inl (a_u, b_v, _) ↦ ap (λ (n : ℕ). Some n) a_u
    | inr (b_u, a_v, _) ↦ let order = is.ends i a b there in let less = order.0 in let b_v = h.0 in absurd (omega arith)
  ],
  λ same. subst (λ (n : ℕ). StepsOver road snap labels i n v) (same_some a u same) (step_ahead road snap labels i v a b w there heavy clear h.0 h.1),
)

-- the lesser node does not, and the greater one does
pub greater_offers : (road : Road) (snap : Snapshot) (labels : List (Option ℕ)) (i v a b w : ℕ) → HasEnds road i a b → w ≡ weight_of road a b → (Has snap.edges i → ⊥) → (((b ≡ v) × AreStep labels a b w) → ⊥) → ((a ≡ v) × AreStep labels b a w) → (u : ℕ) → StepsOver road snap labels i u v ↔ (Some b ≡ Some u)
greater_offers road snap labels i v a b w there heavy clear = λ never h u. (
  λ step. elim (over_edge road snap labels i v a b w u there heavy step) [
    | inl (a_u, b_v, goes) ↦ absurd (never (b_v, goes))
    | inr (b_u, a_v, _) ↦ ap (λ (n : ℕ). Some n) b_u
  ],
  λ same. subst (λ (n : ℕ). StepsOver road snap labels i n v) (same_some b u same) (step_behind road snap labels i v a b w there heavy clear h.0 h.1),
)

-- neither does
pub none_offers : (road : Road) (snap : Snapshot) (labels : List (Option ℕ)) (i v a b w : ℕ) → HasEnds road i a b → w ≡ weight_of road a b → (((b ≡ v) × AreStep labels a b w) → ⊥) → (((a ≡ v) × AreStep labels b a w) → ⊥) → (u : ℕ) → StepsOver road snap labels i u v ↔ (None ≡ Some u)
none_offers road snap labels i v a b w there heavy = λ never nor u. (
  λ step. elim (over_edge road snap labels i v a b w u there heavy step) [
    | inl (a_u, b_v, goes) ↦ absurd (never (b_v, goes))
    | inr (b_u, a_v, goes) ↦ absurd (nor (a_v, goes))
  ],
  λ none. absurd cc,
)

-- one edge more
before_or_at : (k i : ℕ) → k < i + 1 → (k < i) ⊎ (k ≡ i)
before_or_at k i below = elim (same_or_not k i) [ inl same ↦ inr same | inr other ↦ inl (omega arith) ]

at_last : (road : Road) (snap : Snapshot) (labels : List (Option ℕ)) (v i k u : ℕ) (offer : Option ℕ) → ((n : ℕ) → StepsOver road snap labels i n v ↔ (offer ≡ Some n)) → k ≡ i → StepsOver road snap labels k u v → offer ≡ Some u
at_last road snap labels v i k u offer exact same step = (exact u).0 (subst (λ (n : ℕ). StepsOver road snap labels n u v) same step)

pub least_more : (road : Road) (snap : Snapshot) (labels : List (Option ℕ)) (v i : ℕ) (least offer result : Option ℕ) → IsLeastStep road snap labels v i least → ((u : ℕ) → StepsOver road snap labels i u v ↔ (offer ≡ Some u)) → IsLesser least offer result → IsLeastStep road snap labels v (i + 1) result
least_more road snap labels v i None None result never exact is =
    subst (λ (o : Option ℕ). IsLeastStep road snap labels v (i + 1) o) (sym is) (λ k u below step. elim (before_or_at k i below) [
      | inl before ↦ never k u before step
      | inr same ↦ let spot = at_last road snap labels v i k u None exact same step in absurd cc
    ])
least_more road snap labels v i None (Some b) result never exact is =
    subst (λ (o : Option ℕ). IsLeastStep road snap labels v (i + 1) o) (sym is) (
      ((exact b).1 refl).0,
      λ k u below step. elim (before_or_at k i below) [
        | inl before ↦ absurd (never k u before step)
        | inr same ↦ let spot = same_some b u (at_last road snap labels v i k u (Some b) exact same step) in omega arith
      ],
    )
least_more road snap labels v i (Some a) None result (there, low) exact is =
    subst (λ (o : Option ℕ). IsLeastStep road snap labels v (i + 1) o) (sym is) (
      there,
      λ k u below step. elim (before_or_at k i below) [
        | inl before ↦ low k u before step
        | inr same ↦ let spot = at_last road snap labels v i k u None exact same step in absurd cc
      ],
    )
least_more road snap labels v i (Some a) (Some b) result (there, low) exact is =
    subst (λ (o : Option ℕ). IsLeastStep road snap labels v (i + 1) o) (sym is) (
      which,
      λ k u below step. elim (before_or_at k i below) [
        | inl before ↦ let most = low k u before step in omega arith
        | inr same ↦ let spot = same_some b u (at_last road snap labels v i k u (Some b) exact same step) in omega arith
      ],
    )
  where
    which : StepsTo road snap labels (min a b) v
    which = elim (one_of a b) [
      | inl first ↦ rw first there
      | inr second ↦ rw second (((exact b).1 refl).0)
    ]
      where
        one_of : (m n : ℕ) → (min m n ≡ m) ⊎ (min m n ≡ n)
        one_of zero n = inl (omega arith)
        one_of (suc m) zero = inr (omega arith)
        one_of (suc m) (suc n) = elim (one_of m n) [ inl h ↦ inl (omega arith) | inr h ↦ inr (omega arith) ]

-- the least-numbered node over all edges is the step back
pub is_step_back : (road : Road) (snap : Snapshot) (labels : List (Option ℕ)) (v u : ℕ) → IsLeastStep road snap labels v (edge_count road) (Some u) → IsStepBack road snap labels u v
is_step_back road snap labels v u (steps, low) = record {
  steps = steps;
  least = λ other step. low step.joins.edge other (slice_get_within road.edges step.joins.edge (step.joins.a, step.joins.b) step.joins.is_edge) (step, refl);
}

-- where nothing steps to a labelled node, it is the first one
pub ends_at_first : (road : Road) (snap : Snapshot) (labels : List (Option ℕ)) (from v a : ℕ) → HasGrounds road snap from labels → Agrees road snap labels → IsLabel labels v a → IsLeastStep road snap labels v (edge_count road) None → v ≡ from
ends_at_first road snap labels from v a grounds agrees label never =
    elim (grounds.each v a label) [
      | inl (same, none) ↦ same
      | inr (u, s) ↦
          let next = agrees u v s.w s.b s.joins s.label in
          let there : IsLabel labels v next.0 = next.1 in
          let same : next.0 ≡ a = cc in
          let enough = s.enough in
          let whole : s.b + s.w ≡ a = omega (arith, next.2) in
          let step : StepsTo road snap labels u v = record { w = s.w; b = s.b; a = a; joins = s.joins; near = s.label; far = label; whole = whole } in
          absurd (never s.joins.edge u (slice_get_within road.edges s.joins.edge (s.joins.a, s.joins.b) s.joins.is_edge) (step, refl))
    ]

-- a node in front of those that are traced
pub traced_more : (road : Road) (snap : Snapshot) (labels : List (Option ℕ)) (u spot to : ℕ) (nodes : List ℕ) → IsStepBack road snap labels u spot → IsTraced road snap labels spot to nodes → IsTraced road snap labels u to (u ∷ nodes)
traced_more road snap labels u spot to [] back traced = absurd traced
traced_more road snap labels u spot to (x ∷ []) back (first, last) =
    (refl, subst (λ (n : ℕ). IsStepBack road snap labels u n) first back, (refl, last))
traced_more road snap labels u spot to (x ∷ y ∷ rest) back (first, next, traced) =
    (refl, subst (λ (n : ℕ). IsStepBack road snap labels u n) first back, (refl, next, traced))

-- what stands in the place of a label
abbrev pub value_of : Option ℕ → ℕ
value_of None = 0
value_of (Some a) = a

-- a step leads to a lesser label
pub step_falls : (road : Road) (snap : Snapshot) (labels : List (Option ℕ)) (u v : ℕ) → IsRoad road → StepsTo road snap labels u v → value_of (get_or labels u None) < value_of (get_or labels v None)
step_falls road snap labels u v is step =
    let some = joins_is_some road snap is u v step.w step.joins in
    let whole = step.whole in
    let near : value_of (get_or labels u None) ≡ step.b = ap value_of (get_or_from_slice_get labels u (Some step.b) None step.near) in
    let far : value_of (get_or labels v None) ≡ step.a = ap value_of (get_or_from_slice_get labels v (Some step.a) None step.far) in
    omega arith

-- the last node alone
pub trace_first : (road : Road) (snap : Snapshot) (labels : List (Option ℕ)) (to : ℕ) (items : List ℕ) → items ≡ [] ++ to ∷ [] → IsTraced road snap labels to to (reverse items)
trace_first road snap labels to items is = rw is (refl, refl)

-- the step back is appended to the list that is to be reversed
pub trace_push : (road : Road) (snap : Snapshot) (labels : List (Option ℕ)) (before spot to : ℕ) (old new : List ℕ) → new ≡ old ++ before ∷ [] → IsStepBack road snap labels before spot → IsTraced road snap labels spot to (reverse old) → IsTraced road snap labels before to (reverse new)
trace_push road snap labels before spot to old new is back traced =
    let turned : reverse new ≡ before ∷ reverse old = ap reverse is ∙ reverse-append old (before ∷ []) in
    subst (λ (nodes : List ℕ). IsTraced road snap labels before to nodes) (sym turned) (traced_more road snap labels before spot to (reverse old) back traced)
