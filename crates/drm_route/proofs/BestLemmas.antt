-- Labels that have grounds, and that no edge can lower, are the least lengths of routes.
use Rattle.std.proofs.Common.{◌≡◌, inl, inr, ℕ, zero, suc, ◌+◌, ◌<◌, ◌≤◌, ℤ, ◌-ℤ◌, List, [], ◌∷◌, ◌++◌, length, slice_get, Option, None, Some, refl, ap, sym, subst, arith}
use Rattle.std.specs.Prelude.{All, unsigned_abs}
use Rattle.std.specs.List.{zip}
use Rattle.std.proofs.lemmas.Int.{ints}
use Rattle.std.proofs.lemmas.List.Sums.{sum_by-cons}
use Rattle.std.proofs.lemmas.List.Elements.{All-nil, All-cons, All-append}
use Rattle.std.proofs.lemmas.Option.{slice_get_within}
use Rattle.drm_grid.specs.CellSet.{Has}
use Rattle.drm_arm.specs.Distance.{distance}
use Rattle.drm_road.specs.Road.{Road, IsRoad, node_of, weight_of}
use Rattle.drm_cellmap.specs.Elements.{node_count, edge_count, HasEnds}
use Rattle.drm_cellmap.specs.Roadmap.{Roadmap}
use Rattle.drm_cellmap.specs.Snapshot.{Snapshot, IsSnapOf}
use Rattle.drm_cellmap.specs.Routes.{IsSnapOn, IsOpen, Joins, IsWay, IsRoute, IsBest}
use Rattle.drm_cellmap.specs.Certificates.{IsLabel, Agrees}
use Rattle.drm_route.specs.Labels.{HasGrounds, AreBest}

-- where labels agree, a label grows along a way by no more than the way is long
pub along_way : (road : Road) (snap : Snapshot) (labels : List (Option ℕ)) → Agrees road snap labels → (u v l x : ℕ) (rest : List ℕ) → IsWay road snap u rest v l → IsLabel labels u x → (y : ℕ) × IsLabel labels v y × (y ≤ x + l)
along_way road snap labels agrees u v l x [] (same, none) label = (x, subst (λ (n : ℕ). IsLabel labels n x) same label, omega arith)
along_way road snap labels agrees u v l x (next ∷ rest) (w, k, joins, way, total) label =
    let here = agrees u next w x joins label in
    let later = along_way road snap labels agrees next v k here.0 rest way here.1 in
    (later.0, later.1, omega (arith, here.2, later.2, total))

-- a way, and one edge more
pub way_push : (road : Road) (snap : Snapshot) (u v next l w : ℕ) (rest : List ℕ) → IsWay road snap u rest v l → Joins road snap v next w → IsWay road snap u (rest ++ next ∷ []) next (l + w)
way_push road snap u v next l w [] (same, none) joins =
    let from_u : Joins road snap u next w = subst (λ (n : ℕ). Joins road snap n next w) (sym same) joins in
    let total : l + w ≡ w + 0 = omega (arith, none) in
    (w, 0, from_u, (refl, refl), total)
way_push road snap u v next l w (x ∷ rest) (first, k, joins_x, way, whole) joins =
    let total : l + w ≡ first + (k + w) = omega (arith, whole) in
    (first, k + w, joins_x, way_push road snap x v next k w rest way joins, total)

-- configurations with equally many joints that are no way apart are the same
zero_gap : (x y : ℤ) → unsigned_abs (x -ℤ y) ≡ 0 → x ≡ y
zero_gap x y none = omega (arith, ints)

no_distance : (xs ys : List ℤ) → length xs ≡ length ys → distance xs ys ≡ 0 → xs ≡ ys
no_distance [] [] same none = refl
no_distance [] (y ∷ ys) same none = absurd (omega arith)
no_distance (x ∷ xs) [] same none = absurd (omega arith)
no_distance (x ∷ xs) (y ∷ ys) same none =
    let both = sum_by-cons (λ (pair : ℤ × ℤ). unsigned_abs (pair.0 -ℤ pair.1)) (x, y) (zip xs ys) in
    let here : unsigned_abs (x -ℤ y) ≡ 0 = omega arith in
    let there : distance xs ys ≡ 0 = omega arith in
    let first : x ≡ y = zero_gap x y here in
    let rest : xs ≡ ys = no_distance xs ys (omega arith) there in
    cc

-- each edge has some weight
weight_is_some : (road : Road) → IsRoad road → (i a b : ℕ) → HasEnds road i a b → 1 ≤ weight_of road a b
weight_is_some road is i a b there =
    let order = is.ends i a b there in
    above (weight_of road a b) (λ none.
    let alike = is.alike.joints a b (omega arith) order.1 in
    is.alike.distinct a b [] order.0 order.1 (no_distance (node_of road a) (node_of road b) alike none))
  where
    above : (n : ℕ) → (n ≡ 0 → ⊥) → 1 ≤ n
    above zero never = absurd (never refl)
    above (suc n) never = omega arith

pub joins_is_some : (road : Road) (snap : Snapshot) → IsRoad road → (u v w : ℕ) → Joins road snap u v w → 1 ≤ w
joins_is_some road snap is u v w joins = rw joins.weight (weight_is_some road is joins.edge joins.a joins.b joins.is_edge)

-- an end of an edge that is not barred is not barred
ends_are_open : (map : Roadmap) (snap : Snapshot) → IsSnapOf map snap → IsRoad map.road → (u v w : ℕ) → Joins map.road snap u v w → IsOpen map.road snap v
ends_are_open map snap of is u v w joins =
    let order = is.ends joins.edge joins.a joins.b joins.is_edge in
    let inside : joins.edge < edge_count map.road = slice_get_within map.road.edges joins.edge (joins.a, joins.b) joins.is_edge in
    elim joins.ends [
      | inl h ↦
          let below : joins.b < node_count map.road = order.1 in
          let clear : Has snap.nodes joins.b → ⊥ = λ barred. joins.clear ((of.edges.exact joins.edge inside).1 (inr (joins.a, joins.b, joins.is_edge, inr ((of.nodes.exact joins.b below).0 barred)))) in
          rw (← h.1) (record { in_range = below; clear = clear })
      | inr h ↦
          let below : joins.a < node_count map.road = omega (arith, order.0, order.1) in
          let clear : Has snap.nodes joins.a → ⊥ = λ barred. joins.clear ((of.edges.exact joins.edge inside).1 (inr (joins.a, joins.b, joins.is_edge, inl ((of.nodes.exact joins.a below).0 barred)))) in
          rw (← h.0) (record { in_range = below; clear = clear })
    ]

pub joined_is_open : (road : Road) (snap : Snapshot) → IsSnapOn road snap → IsRoad road → (u v w : ℕ) → Joins road snap u v w → IsOpen road snap v
joined_is_open road snap on is u v w joins =
    let claim : Road → Type 0 = λ road. IsRoad road → Joins road snap u v w → IsOpen road snap v in
    subst claim on.same (λ is joins. ends_are_open on.map snap on.of_map is u v w joins) is joins

-- a route, and one edge more
pub route_push : (road : Road) (snap : Snapshot) → IsSnapOn road snap → IsRoad road → (nodes : List ℕ) (from v next l w : ℕ) → IsRoute road snap nodes from v l → Joins road snap v next w → IsRoute road snap (nodes ++ next ∷ []) from next (l + w)
route_push road snap on is nodes from v next l w route joins =
    let one : All (IsOpen road snap) (next ∷ []) = All-cons (IsOpen road snap) next [] (joined_is_open road snap on is v next w joins) (All-nil (IsOpen road snap)) in
    record {
      rest = route.rest ++ next ∷ [];
      begins = ap (λ (xs : List ℕ). xs ++ next ∷ []) route.begins;
      all_open = All-append (IsOpen road snap) nodes (next ∷ []) route.all_open one;
      way = way_push road snap from v next l w route.rest route.way joins;
    }

-- each label is the length of a route
attained : (road : Road) (snap : Snapshot) → IsSnapOn road snap → IsRoad road → (from : ℕ) (labels : List (Option ℕ)) → IsOpen road snap from → HasGrounds road snap from labels → Agrees road snap labels → (n v a : ℕ) → a < n → IsLabel labels v a → (nodes : List ℕ) × IsRoute road snap nodes from v a
attained road snap on is from labels open_from grounds agrees zero v a below label = absurd (omega arith)
attained road snap on is from labels open_from grounds agrees (suc n) v a below label =
    elim (grounds.each v a label) [
      | inl (same, none) ↦
          let alone : IsRoute road snap (from ∷ []) from from 0 = record {
            rest = [];
            begins = refl;
            all_open = All-cons (IsOpen road snap) from [] open_from (All-nil (IsOpen road snap));
            way = (refl, refl);
          } in
          (from ∷ [], rw (same, none) alone)
      | inr (u, supports) ↦
          let some = joins_is_some road snap is u v supports.w supports.joins in
          let enough = supports.enough in
          let before = attained road snap on is from labels open_from grounds agrees n u supports.b (omega arith) supports.label in
          let grown = route_push road snap on is before.0 from u v supports.b supports.w before.1 supports.joins in
          let reached = along_way road snap labels agrees from v (supports.b + supports.w) 0 grown.rest grown.way grounds.start in
          let last : IsLabel labels v reached.0 = reached.1 in
          let same : reached.0 ≡ a = cc in
          let exact : supports.b + supports.w ≡ a = omega (arith, reached.2) in
          (before.0 ++ v ∷ [], subst (λ (l : ℕ). IsRoute road snap (before.0 ++ v ∷ []) from v l) exact grown)
    ]

-- labels with grounds that agree are the least lengths
pub settled_are_best : (road : Road) (snap : Snapshot) → IsSnapOn road snap → IsRoad road → (from : ℕ) (labels : List (Option ℕ)) → IsOpen road snap from → HasGrounds road snap from labels → Agrees road snap labels → AreBest road snap from labels
settled_are_best road snap on is from labels open_from grounds agrees = record { one_each = grounds.one_each; best = best }
  where
    no_less : (v a k : ℕ) (nodes : List ℕ) → IsLabel labels v a → IsRoute road snap nodes from v k → a ≤ k
    no_less v a k nodes label route =
        let reached = along_way road snap labels agrees from v k 0 route.rest route.way grounds.start in
        let last : IsLabel labels v reached.0 = reached.1 in
        let same : reached.0 ≡ a = cc in
        omega (arith, reached.2)

    best : (v : ℕ) (label : Option ℕ) → slice_get labels v ≡ Some label → IsBest road snap from v label
    best v None is_none =
        λ nodes k route.
        let reached = along_way road snap labels agrees from v k 0 route.rest route.way grounds.start in
        let last : IsLabel labels v reached.0 = reached.1 in
        absurd cc
    best v (Some a) label = (
      attained road snap on is from labels open_from grounds agrees (suc a) v a (omega arith) label,
      λ nodes k route. no_less v a k nodes label route,
    )
