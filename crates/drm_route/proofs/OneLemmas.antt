-- What is found is determined: least lengths are, and so are the path back by them and the nodes that routes reach.
use Rattle.std.proofs.Common.{◌≡◌, ◌⊎◌, inl, inr, ℕ, zero, suc, ◌<◌, ◌↔◌, List, [], ◌∷◌, ◌++◌, length, get_or, BTreeSet, IsTrue, Option, None, Some, refl, ap, sym, ◌∙◌, subst, arith}
use Rattle.std.specs.List.{Contains}
use Rattle.std.specs.List.Sorted.{IsStrictlyIncreasing}
use Rattle.std.specs.Ordering.{nat_cmp}
use Rattle.std.specs.BTreeSet.{contains}
use Rattle.std.proofs.lemmas.Bool.Decides.{same_from_decides}
use Rattle.std.proofs.lemmas.Cmp.{nat_cmp_total}
use Rattle.std.proofs.lemmas.List.{same_lists}
use Rattle.std.proofs.lemmas.Map.Keys.{sorted_from_strictly_increasing}
use Rattle.std.proofs.lemmas.Map.Lookups.{btree_set_from_contains, exact_unsigned}
use Rattle.std.proofs.lemmas.Map.Views.{btree_set_contains_iff}
use Rattle.std.proofs.lemmas.Option.{slice_get-get_or}
use Rattle.drm_road.specs.Road.{Road, IsRoad}
use Rattle.drm_cellmap.specs.Snapshot.{Snapshot}
use Rattle.drm_cellmap.specs.Routes.{IsSnapOn, IsOpen, IsBest}
use Rattle.drm_cellmap.specs.Certificates.{IsLabel}
use Rattle.drm_route.specs.declared.shortest.Found.TheVariants.{Path, Cut}
use Rattle.drm_route.specs.Labels.{AreBest}
use Rattle.drm_route.specs.Trace.{StepsTo, IsStepBack, IsTraced}
use Rattle.drm_route.specs.Search.{IsReached, IsFound}
use Rattle.drm_route.specs.Laws.{FoundIsDetermined}
use Rattle.drm_route.proofs.BestLemmas.{joins_is_some}
use Rattle.drm_route.proofs.TraceLemmas.{traced_more}
use Rattle.drm_route.proofs.FoundLemmas.{one_label, label_is_reached}
use Rattle.drm_route.proofs.LawLemmas.{best_starts}
use Rattle.drm_route.proofs.WeightLemmas.{road_on}

-- there is one least length
best_is_one : (road : Road) (snap : Snapshot) (from v : ℕ) (x y : Option ℕ) → IsBest road snap from v x → IsBest road snap from v y → x ≡ y
best_is_one road snap from v None None first second = refl
best_is_one road snap from v None (Some b) first ((nodes, route), _) = absurd (first nodes b route)
best_is_one road snap from v (Some a) None ((nodes, route), _) second = absurd (second nodes a route)
best_is_one road snap from v (Some a) (Some b) ((nodes, route), low) ((others, other), less) =
    let one = low others b other in
    let two = less nodes a route in
    let same : a ≡ b = omega arith in
    ap (λ (n : ℕ). Some n) same

labels_are_one : (road : Road) (snap : Snapshot) (from : ℕ) (labels marks : List (Option ℕ)) → AreBest road snap from labels → AreBest road snap from marks → labels ≡ marks
labels_are_one road snap from labels marks first second =
    let size : length labels ≡ length marks = omega (arith, first.one_each, second.one_each) in
    same_lists labels marks size (λ k d below.
    let inside : k < length marks = omega arith in
    best_is_one road snap from k (get_or labels k d) (get_or marks k d) (first.best k _ (slice_get-get_or labels k d below)) (second.best k _ (slice_get-get_or marks k d inside)))

-- nodes that are traced are one node alone, or end with the step back to their last one
record EndsBack (road : Road) (snap : Snapshot) (labels : List (Option ℕ)) (from to : ℕ) (nodes : List ℕ) : Type 0 where
  front : List ℕ
  before : ℕ
  is : nodes ≡ front ++ to ∷ []
  traced : IsTraced road snap labels from before front
  back : IsStepBack road snap labels before to

ends_back : (road : Road) (snap : Snapshot) (labels : List (Option ℕ)) (from to x : ℕ) (rest : List ℕ) → IsTraced road snap labels from to (x ∷ rest) → ((rest ≡ []) × (from ≡ x) × (x ≡ to)) ⊎ EndsBack road snap labels from to (x ∷ rest)
ends_back road snap labels from to x [] (first, last) = inl (refl, first, last)
ends_back road snap labels from to x (y ∷ rest) (first, back, traced) =
    elim (ends_back road snap labels y to y rest traced) [
      | inl (none, _, last) ↦ inr (record {
        front = x ∷ [];
        before = x;
        is = rw (none, last) refl;
        traced = (first, refl);
        back = subst (λ (n : ℕ). IsStepBack road snap labels x n) last back;
      })
      | inr e ↦ inr (record {
        front = x ∷ e.front;
        before = e.before;
        is = ap (λ (nodes : List ℕ). x ∷ nodes) e.is;
        traced = subst (λ (n : ℕ). IsTraced road snap labels n e.before (x ∷ e.front)) (sym first) (traced_more road snap labels x y e.before e.front back e.traced);
        back = e.back;
      })
    ]

-- no node steps to the first one
first_has_no_step : (road : Road) (snap : Snapshot) (labels : List (Option ℕ)) (from u : ℕ) → IsRoad road → IsLabel labels from 0 → StepsTo road snap labels u from → ⊥
first_has_no_step road snap labels from u is start step =
    let some = joins_is_some road snap is u from step.w step.joins in
    let none = one_label labels from 0 step.a start step.far in
    let whole = step.whole in
    absurd (omega arith)

-- by the bound n of the last node's label
traced_is_one : (road : Road) (snap : Snapshot) (labels : List (Option ℕ)) (from : ℕ) → IsRoad road → IsLabel labels from 0 → (n to a : ℕ) (nodes others : List ℕ) → a < n → IsLabel labels to a → IsTraced road snap labels from to nodes → IsTraced road snap labels from to others → nodes ≡ others
traced_is_one road snap labels from is start zero to a nodes others below label one two = absurd (omega arith)
traced_is_one road snap labels from is start (suc n) to a [] others below label one two = absurd one
traced_is_one road snap labels from is start (suc n) to a (x ∷ rest) [] below label one two = absurd two
traced_is_one road snap labels from is start (suc n) to a (x ∷ rest) (y ∷ more) below label one two =
    elim (ends_back road snap labels from to x rest one) [
      | inl (none, first, last) ↦ elim (ends_back road snap labels from to y more two) [
        | inl (nil, begin, end) ↦ let same : x ≡ y = sym first ∙ begin in rw (none, nil, same) refl
        | inr e ↦ absurd (first_has_no_step road snap labels from e.before is start (subst (λ (v : ℕ). StepsTo road snap labels e.before v) (sym (first ∙ last)) e.back.steps))
      ]
      | inr d ↦ elim (ends_back road snap labels from to y more two) [
        | inl (nil, begin, end) ↦ absurd (first_has_no_step road snap labels from d.before is start (subst (λ (v : ℕ). StepsTo road snap labels d.before v) (sym (begin ∙ end)) d.back.steps))
        | inr e ↦
            let low = d.back.least e.before e.back.steps in
            let high = e.back.least d.before d.back.steps in
            let same : e.before ≡ d.before = omega arith in
            let step = d.back.steps in
            let some = joins_is_some road snap is d.before to step.w step.joins in
            let whole = step.whole in
            let far = one_label labels to a step.a label step.far in
            let less : step.b < n = omega arith in
            let other : IsTraced road snap labels from d.before e.front = subst (λ (v : ℕ). IsTraced road snap labels from v e.front) same e.traced in
            let fronts = traced_is_one road snap labels from is start n d.before step.b d.front e.front less step.near d.traced other in
            d.is ∙ (ap (λ (nodes : List ℕ). nodes ++ to ∷ []) fronts ∙ sym e.is)
      ]
    ]

-- the paths that may be found are one
paths_are_one : (road : Road) (snap : Snapshot) (from to l k : ℕ) (nodes others : List ℕ) (labels marks : List (Option ℕ)) → IsSnapOn road snap → IsOpen road snap from → IsFound road snap from to (Path nodes l labels) → IsFound road snap from to (Path others k marks) → Path nodes l labels ≡ Path others k marks
paths_are_one road snap from to l k nodes others labels marks on open_from (best, end, traced) (best_too, end_too, traced_too) =
    let same = labels_are_one road snap from labels marks best best_too in
    let end_here : IsLabel labels to k = subst (λ (ls : List (Option ℕ)). IsLabel ls to k) (sym same) end_too in
    let traced_here : IsTraced road snap labels from to others = subst (λ (ls : List (Option ℕ)). IsTraced road snap ls from to others) (sym same) traced_too in
    let as_long = one_label labels to l k end end_here in
    let one_way = traced_is_one road snap labels from (road_on road snap on) (best_starts road snap from labels open_from best) (suc l) to l nodes others (omega arith) end traced traced_here in
    cc

-- where a path is found, a route reaches the goal
path_reaches : (road : Road) (snap : Snapshot) (from to l : ℕ) (nodes : List ℕ) (labels : List (Option ℕ)) → IsFound road snap from to (Path nodes l labels) → IsReached road snap from to
path_reaches road snap from to l nodes labels (best, end, traced) = label_is_reached road snap from to labels best (l, end)

-- two increasing lists with the same numbers are one, as the keys of sets are
increasing_are_one : (xs ys : List ℕ) → IsStrictlyIncreasing xs → IsStrictlyIncreasing ys → ((v : ℕ) → Contains xs v ↔ Contains ys v) → xs ≡ ys
increasing_are_one xs ys first second same =
    btree_set_from_contains nat_cmp_total one other (sorted_from_strictly_increasing xs first) (sorted_from_strictly_increasing ys second)
    (λ v. same_from_decides {P = Contains ys v} (contains nat_cmp one v) (contains nat_cmp other v)
    ((λ is. (same v).0 ((has one v).0 is)), (λ there. (has one v).1 ((same v).1 there))) (has other v))
    exact_unsigned
  where
    one : BTreeSet ℕ
    one = record { keys = xs }

    other : BTreeSet ℕ
    other = record { keys = ys }

    has : (s : BTreeSet ℕ) (v : ℕ) → IsTrue (contains nat_cmp s v) ↔ Contains s.keys v
    has = btree_set_contains_iff nat_cmp_total exact_unsigned

-- what may be found is one
pub found_is_one : FoundIsDetermined
found_is_one road snap from to (Path nodes l labels) (Path others k marks) on open_from first second = paths_are_one road snap from to l k nodes others labels marks on open_from first second
found_is_one road snap from to (Path nodes l labels) (Cut side) on open_from first (none, _, _) = absurd (none (path_reaches road snap from to l nodes labels first))
found_is_one road snap from to (Cut side) (Path nodes l labels) on open_from (none, _, _) second = absurd (none (path_reaches road snap from to l nodes labels second))
found_is_one road snap from to (Cut side) (Cut other) on open_from (_, increasing, exact) (_, rising, exactly) =
    ap (λ (nodes : List ℕ). Cut nodes) (increasing_are_one side other increasing rising (λ v. (λ has. (exactly v).1 ((exact v).0 has), λ has. (exact v).1 ((exactly v).0 has))))
