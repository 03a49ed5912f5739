-- What was found: the nodes that are traced back are a route, and the labelled nodes are those that routes reach.
use Rattle.std.proofs.Common.{◌≡◌, inl, inr, ℕ, ◌+◌, ◌≤◌, ◌↔◌, List, [], ◌∷◌, ◌++◌, length, slice_get, Option, None, Some, refl, ap, sym, ◌∙◌, subst, arith}
use Rattle.std.specs.Prelude.{All, Contains}
use Rattle.std.specs.List.Sorted.{IsStrictlyIncreasing}
use Rattle.std.proofs.lemmas.List.Elements.{All-nil, All-cons, Contains-append_left, Contains-push, Contains-push_cases}
use Rattle.std.proofs.lemmas.Bool.{cases_lt}
use Rattle.std.proofs.lemmas.Option.{slice_get_within}
use Rattle.drm_num.proofs.Lists.{IsStrictlyIncreasing-push}
use Rattle.drm_road.specs.Road.{Road, IsRoad}
use Rattle.drm_cellmap.specs.Elements.{node_count}
use Rattle.drm_cellmap.specs.Snapshot.{Snapshot}
use Rattle.drm_cellmap.specs.Routes.{IsSnapOn, IsOpen, Joins, IsWay, IsRoute}
use Rattle.drm_cellmap.specs.Certificates.{IsLabel, Agrees, PathCert}
use Rattle.drm_route.specs.Labels.{HasGrounds, AreBest}
use Rattle.drm_route.specs.Trace.{IsTraced}
use Rattle.drm_route.specs.declared.shortest.Found.TheVariants.{Cut}
use Rattle.drm_route.specs.Search.{HasLabel, IsReached, IsFound, IsSideTo}
use Rattle.drm_route.proofs.BestLemmas.{along_way, joined_is_open}

-- a node has one label
pub one_label : (labels : List (Option ℕ)) (v a b : ℕ) → IsLabel labels v a → IsLabel labels v b → a ≡ b
one_label labels v a b first second = cc

-- nodes that are traced back are a way, as long as their labels differ
traced_way : (road : Road) (snap : Snapshot) (labels : List (Option ℕ)) (u to a l x : ℕ) (rest : List ℕ) → IsTraced road snap labels u to (x ∷ rest) → IsLabel labels u a → IsLabel labels to l → (k : ℕ) × IsWay road snap u rest to k × (a + k ≡ l) × (u ≡ x)
traced_way road snap labels u to a l x [] (first, last) near far =
    let same : u ≡ to = first ∙ last in
    let there : IsLabel labels to a = subst (λ (n : ℕ). IsLabel labels n a) same near in
    let total : a + 0 ≡ l = omega (arith, one_label labels to a l there far) in
    (0, (same, refl), total, first)
traced_way road snap labels u to a l x (y ∷ rest) (first, back, traced) near far =
    let step = back.steps in
    let later = traced_way road snap labels y to step.a l y rest traced step.far far in
    let here : IsLabel labels u step.b = subst (λ (n : ℕ). IsLabel labels n step.b) (sym first) step.near in
    let joins : Joins road snap u y step.w = subst (λ (n : ℕ). Joins road snap n y step.w) (sym first) step.joins in
    let start : a ≡ step.b = one_label labels u a step.b near here in
    let whole = step.whole in
    let total : a + (step.w + later.0) ≡ l = omega (arith, later.2) in
    (step.w + later.0, (step.w, later.0, joins, later.1, refl), total, first)

traced_open : (road : Road) (snap : Snapshot) → IsSnapOn road snap → IsRoad road → (labels : List (Option ℕ)) (u to x : ℕ) (rest : List ℕ) → IsTraced road snap labels u to (x ∷ rest) → IsOpen road snap u → All (IsOpen road snap) (x ∷ rest)
traced_open road snap on is labels u to x [] (first, last) open_u =
    All-cons (IsOpen road snap) x [] (subst (IsOpen road snap) first open_u) (All-nil (IsOpen road snap))
traced_open road snap on is labels u to x (y ∷ rest) (first, back, traced) open_u =
    let next = joined_is_open road snap on is x y back.steps.w back.steps.joins in
    All-cons (IsOpen road snap) x (y ∷ rest) (subst (IsOpen road snap) first open_u) (traced_open road snap on is labels y to y rest traced next)

traced_route : (road : Road) (snap : Snapshot) → IsSnapOn road snap → IsRoad road → (labels : List (Option ℕ)) (from to l : ℕ) (nodes : List ℕ) → IsOpen road snap from → IsLabel labels from 0 → IsLabel labels to l → IsTraced road snap labels from to nodes → IsRoute road snap nodes from to l
traced_route road snap on is labels from to l [] open_from start end traced = absurd traced
traced_route road snap on is labels from to l (x ∷ rest) open_from start end traced =
    let way = traced_way road snap labels from to 0 l x rest traced start end in
    let total : way.0 ≡ l = omega (arith, way.2) in
    record {
      rest = rest;
      begins = ap (λ (n : ℕ). n ∷ rest) (sym way.3);
      all_open = traced_open road snap on is labels from to x rest traced open_from;
      way = subst (λ (k : ℕ). IsWay road snap from rest to k) total way.1;
    }

-- the nodes that are traced back by labels that agree are certified
pub traced_is_certified : (road : Road) (snap : Snapshot) → IsSnapOn road snap → IsRoad road → (labels : List (Option ℕ)) (from to l : ℕ) (nodes : List ℕ) → IsOpen road snap from → length labels ≡ node_count road → IsLabel labels from 0 → Agrees road snap labels → IsLabel labels to l → IsTraced road snap labels from to nodes → PathCert road snap from to nodes l labels
traced_is_certified road snap on is labels from to l nodes open_from one_each start agrees end traced = record {
  route = traced_route road snap on is labels from to l nodes open_from start end traced;
  one_each = one_each;
  start = start;
  end = end;
  agrees = agrees;
}

-- the nodes with a label are those that a route reaches
pub label_is_reached : (road : Road) (snap : Snapshot) (from v : ℕ) (labels : List (Option ℕ)) → AreBest road snap from labels → HasLabel labels v → IsReached road snap from v
label_is_reached road snap from v labels best (a, label) =
    let route = (best.best v (Some a) label).0 in
    (route.0, a, route.1)

reached_has_label : (road : Road) (snap : Snapshot) (from v : ℕ) (labels : List (Option ℕ)) → HasGrounds road snap from labels → Agrees road snap labels → IsReached road snap from v → HasLabel labels v
reached_has_label road snap from v labels grounds agrees (nodes, l, route) =
    let last = along_way road snap labels agrees from v l 0 route.rest route.way grounds.start in
    (last.0, last.1)

-- a node without a label has none
no_label : (labels : List (Option ℕ)) (v : ℕ) → slice_get labels v ≡ Some None → HasLabel labels v → ⊥
no_label labels v none (a, label) = absurd cc

not_reached : (road : Road) (snap : Snapshot) (from to : ℕ) (labels : List (Option ℕ)) → HasGrounds road snap from labels → Agrees road snap labels → slice_get labels to ≡ Some None → IsReached road snap from to → ⊥
not_reached road snap from to labels grounds agrees none reached = no_label labels to none (reached_has_label road snap from to labels grounds agrees reached)

-- where the goal has no label, the labelled nodes are what is found
pub side_is_found : (road : Road) (snap : Snapshot) (from to : ℕ) (labels : List (Option ℕ)) (side : List ℕ) → HasGrounds road snap from labels → Agrees road snap labels → AreBest road snap from labels → slice_get labels to ≡ Some None → IsStrictlyIncreasing side → ((v : ℕ) → Contains side v ↔ HasLabel labels v) → IsFound road snap from to (Cut side)
side_is_found road snap from to labels side grounds agrees best none increasing exact = (
  not_reached road snap from to labels grounds agrees none,
  increasing,
  λ v. (
    λ has. label_is_reached road snap from v labels best ((exact v).0 has),
    λ reached. (exact v).1 (reached_has_label road snap from v labels grounds agrees reached),
  ),
)

-- one node more, with a label
pub side_push : (labels : List (Option ℕ)) (count : ℕ) (side : List ℕ) → HasLabel labels count → IsSideTo labels count side → IsSideTo labels (count + 1) (side ++ count ∷ [])
side_push labels count side label so_far = record {
  increasing = IsStrictlyIncreasing-push side count so_far.increasing (λ v has. ((so_far.exact v).0 has).0);
  exact = λ v. (
    (λ has. elim (Contains-push_cases side count v has) [
      | inl had ↦ let old = (so_far.exact v).0 had in let low = old.0 in (omega arith, old.1)
      | inr same ↦ (omega arith, subst (HasLabel labels) same label)
    ]),
    (λ (below, has). elim (cases_lt v count) [
      | inl low ↦ Contains-append_left side (count ∷ []) v ((so_far.exact v).1 (low, has))
      | inr high ↦ let same : count ≡ v = omega arith in subst (λ (n : ℕ). Contains (side ++ count ∷ []) n) same (Contains-push side count)
    ]),
  );
}

-- one node more, without a label
pub side_keeps : (labels : List (Option ℕ)) (count : ℕ) (side : List ℕ) → (HasLabel labels count → ⊥) → IsSideTo labels count side → IsSideTo labels (count + 1) side
side_keeps labels count side none so_far = record {
  increasing = so_far.increasing;
  exact = λ v. (
    (λ has. let old = (so_far.exact v).0 has in let low = old.0 in (omega arith, old.1)),
    (λ (below, has). elim (cases_lt v count) [
      | inl low ↦ (so_far.exact v).1 (low, has)
      | inr high ↦ let same : v ≡ count = omega arith in absurd (none (subst (HasLabel labels) same has))
    ]),
  );
}

-- all nodes
pub side_last : (labels : List (Option ℕ)) (count : ℕ) (side : List ℕ) → length labels ≤ count → IsSideTo labels count side → (v : ℕ) → Contains side v ↔ HasLabel labels v
side_last labels count side all so_far v = (
  λ has. ((so_far.exact v).0 has).1,
  λ has. let inside = slice_get_within labels v (Some has.0) has.1 in (so_far.exact v).1 (omega arith, has),
)
