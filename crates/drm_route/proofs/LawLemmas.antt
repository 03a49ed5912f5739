-- Least lengths agree over each edge, and what routes reach is closed, so what is found is a certificate.
use Rattle.std.proofs.Common.{◌≡◌, ℕ, ◌+◌, ◌<◌, ◌≤◌, List, [], ◌∷◌, ◌++◌, length, get_or, Option, None, Some, refl, subst, arith}
use Rattle.std.proofs.lemmas.List.Elements.{All-nil, All-cons, Contains-get_or}
use Rattle.std.proofs.lemmas.Option.{slice_get-get_or}
use Rattle.drm_road.specs.Road.{Road, IsRoad}
use Rattle.drm_cellmap.specs.Elements.{node_count}
use Rattle.drm_cellmap.specs.Snapshot.{Snapshot}
use Rattle.drm_cellmap.specs.Routes.{IsSnapOn, IsOpen, IsWay, IsRoute, IsBest}
use Rattle.drm_cellmap.specs.Certificates.{IsLabel, Agrees, CutCert}
use Rattle.drm_route.specs.declared.shortest.Found.{Found}
use Rattle.drm_route.specs.declared.shortest.Found.TheVariants.{Path, Cut}
use Rattle.drm_route.specs.Labels.{AreBest}
use Rattle.drm_route.specs.Search.{IsReached, IsFound, IsCertified}
use Rattle.drm_route.proofs.BestLemmas.{joined_is_open, route_push}
use Rattle.drm_route.proofs.FoundLemmas.{traced_is_certified}
use Rattle.drm_route.proofs.WeightLemmas.{road_on}

-- one node alone is a route
route_alone : (road : Road) (snap : Snapshot) (from : ℕ) → IsOpen road snap from → IsRoute road snap (from ∷ []) from from 0
route_alone road snap from open_from = record {
  rest = [];
  begins = refl;
  all_open = All-cons (IsOpen road snap) from [] open_from (All-nil (IsOpen road snap));
  way = (refl, refl);
}

-- a node that a route reaches has a least length, which is no longer
best_reached : (road : Road) (snap : Snapshot) (from v k : ℕ) (nodes : List ℕ) (label : Option ℕ) → IsBest road snap from v label → IsRoute road snap nodes from v k → (a : ℕ) × (label ≡ Some a) × (a ≤ k)
best_reached road snap from v k nodes None best route = absurd (best nodes k route)
best_reached road snap from v k nodes (Some a) best route = (a, refl, best.1 nodes k route)

label_reached : (road : Road) (snap : Snapshot) (from v k : ℕ) (nodes : List ℕ) (labels : List (Option ℕ)) → AreBest road snap from labels → v < node_count road → IsRoute road snap nodes from v k → (a : ℕ) × IsLabel labels v a × (a ≤ k)
label_reached road snap from v k nodes labels best below route =
    let inside : v < length labels = omega (arith, best.one_each) in
    let there = slice_get-get_or labels v None inside in
    let least = best_reached road snap from v k nodes (get_or labels v None) (best.best v (get_or labels v None) there) route in
    let some = least.1 in
    let label : IsLabel labels v least.0 = cc in
    (least.0, label, least.2)

-- least lengths begin with 0
pub best_starts : (road : Road) (snap : Snapshot) (from : ℕ) (labels : List (Option ℕ)) → IsOpen road snap from → AreBest road snap from labels → IsLabel labels from 0
best_starts road snap from labels open_from best =
    let label = label_reached road snap from from 0 (from ∷ []) labels best open_from.in_range (route_alone road snap from open_from) in
    let none : label.0 ≡ 0 = omega (arith, label.2) in
    subst (λ (a : ℕ). IsLabel labels from a) none label.1

-- and agree over each edge
best_agrees : (road : Road) (snap : Snapshot) → IsSnapOn road snap → IsRoad road → (from : ℕ) (labels : List (Option ℕ)) → AreBest road snap from labels → Agrees road snap labels
best_agrees road snap on is from labels best u v w x joins label =
    let route = (best.best u (Some x) label).0 in
    let grown = route_push road snap on is route.0 from u v x w route.1 joins in
    label_reached road snap from v (x + w) (route.0 ++ v ∷ []) labels best (joined_is_open road snap on is u v w joins).in_range grown

-- the last node of a way that begins in range is in range
way_in_range : (road : Road) (snap : Snapshot) → IsSnapOn road snap → IsRoad road → (u v l : ℕ) (rest : List ℕ) → u < node_count road → IsWay road snap u rest v l → v < node_count road
way_in_range road snap on is u v l [] below (same, none) = subst (λ (n : ℕ). n < node_count road) same below
way_in_range road snap on is u v l (next ∷ rest) below (w, k, joins, way, whole) = way_in_range road snap on is next v k rest (joined_is_open road snap on is u next w joins).in_range way

reached_in_range : (road : Road) (snap : Snapshot) → IsSnapOn road snap → IsRoad road → (from v : ℕ) → IsOpen road snap from → IsReached road snap from v → v < node_count road
reached_in_range road snap on is from v open_from (nodes, l, route) = way_in_range road snap on is from v l route.rest open_from.in_range route.way

-- the nodes that routes reach are a cut
reached_is_cut : (road : Road) (snap : Snapshot) → IsSnapOn road snap → IsRoad road → (from to : ℕ) (side : List ℕ) → IsOpen road snap from → IsFound road snap from to (Cut side) → CutCert road snap from to side
reached_is_cut road snap on is from to side open_from (never, increasing, exact) = record {
  increasing = increasing;
  in_range = λ k d below. reached_in_range road snap on is from _ open_from ((exact _).0 (Contains-get_or side k d below));
  inside = (exact from).1 (from ∷ [], 0, route_alone road snap from open_from);
  outside = λ has. never ((exact to).0 has);
  barred = λ u v w joins has.
      let reached = (exact u).0 has in
      (exact v).1 (reached.0 ++ v ∷ [], reached.1 + w, route_push road snap on is reached.0 from u v reached.1 w reached.2 joins);
}

pub found_certifies : (road : Road) (snap : Snapshot) (from to : ℕ) (found : Found) → IsSnapOn road snap → IsOpen road snap from → IsFound road snap from to found → IsCertified road snap from to found
found_certifies road snap from to (Path nodes l labels) on open_from (best, end, traced) =
    traced_is_certified road snap on (road_on road snap on) labels from to l nodes open_from best.one_each (best_starts road snap from labels open_from best) (best_agrees road snap on (road_on road snap on) from labels best) end traced
found_certifies road snap from to (Cut side) on open_from found =
    reached_is_cut road snap on (road_on road snap on) from to side open_from found
