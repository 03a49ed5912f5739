-- The edges of a route: each two neighbours have one, which is found by halving, and the first that is met.
use Rattle.std.proofs.Common.{◌≡◌, inl, inr, ℕ, zero, suc, ◌+◌, ◌<◌, ◌≤◌, List, [], ◌∷◌, length, get_or, slice_get, min, max, None, Some, refl, sym, ◌∙◌, subst, arith}
use Rattle.std.proofs.lemmas.Bool.{cases_lt, cases_order}
use Rattle.std.proofs.lemmas.Option.{slice_get_within, get_or_from_slice_get}
use Rattle.drm_grid.specs.CellSet.{IsLeast}
use Rattle.drm_road.specs.Pairs.{Precedes}
use Rattle.drm_road.specs.Road.{Road, IsRoad}
use Rattle.drm_cellmap.specs.Elements.{edge_count, HasEnds}
use Rattle.drm_cellmap.specs.Roadmap.{Roadmap}
use Rattle.drm_cellmap.specs.Snapshot.{Snapshot}
use Rattle.drm_cellmap.specs.Routes.{IsWay, IsRoute}
use Rattle.drm_grid.proofs.SetLemmas.{least_is_one}
use Rattle.drm_plan.specs.Legs.{IsLeg, HasLegs, EdgeMeets, AreClearTo, AreClear, IsFirstMet}

-- ---- the legs of a route

leg_later : (road : Road) (snap : Snapshot) (x : ℕ) (nodes : List ℕ) (k edge : ℕ) → IsLeg road snap nodes k edge → IsLeg road snap (x ∷ nodes) (suc k) edge
leg_later road snap x nodes k edge leg =
    let next : suc (k + 1) ≡ suc k + 1 = omega arith in
    record {
      u = leg.u;
      v = leg.v;
      w = leg.w;
      before = leg.before;
      after = subst (λ (i : ℕ). slice_get (x ∷ nodes) i ≡ Some leg.v) next leg.after;
      joins = leg.joins;
      same = leg.same;
    }

way_has_legs : (road : Road) (snap : Snapshot) (u v l : ℕ) (rest : List ℕ) → IsWay road snap u rest v l → HasLegs road snap (u ∷ rest)
way_has_legs road snap u v l [] way k below = absurd (omega arith)
way_has_legs road snap u v l (next ∷ rest) (w, j, joins, way, total) zero below =
    let first : slice_get (u ∷ next ∷ rest) 0 ≡ Some u = refl in
    let second : slice_get (u ∷ next ∷ rest) 1 ≡ Some next = refl in
    (joins.edge, record { u = u; v = next; w = w; before = first; after = second; joins = joins; same = refl })
way_has_legs road snap u v l (next ∷ rest) (w, j, joins, way, total) (suc k) below =
    let later = way_has_legs road snap next v j rest way k (omega arith) in
    (later.0, leg_later road snap u (next ∷ rest) k later.0 later.1)

pub route_has_legs : (road : Road) (snap : Snapshot) (nodes : List ℕ) (from to l : ℕ) → IsRoute road snap nodes from to l → HasLegs road snap nodes
route_has_legs road snap nodes from to l route = subst (HasLegs road snap) (sym route.begins) (way_has_legs road snap from to l route.rest route.way)

-- ---- which edge a leg is

ordered : (a b : ℕ) → a < b → (min a b ≡ a) × (max a b ≡ b) × (min b a ≡ a) × (max b a ≡ b)
ordered a b less = (omega arith, omega arith, omega arith, omega arith)

-- the edge of a leg has the two nodes as ends, the lesser one first
pub leg_ends : (road : Road) (snap : Snapshot) (nodes : List ℕ) (k edge u v : ℕ) → IsRoad road → IsLeg road snap nodes k edge
    → slice_get nodes k ≡ Some u → slice_get nodes (k + 1) ≡ Some v → HasEnds road edge (min u v) (max u v)
leg_ends road snap nodes k edge u v is leg before after =
    let same_u : leg.u ≡ u = cc in
    let same_v : leg.v ≡ v = cc in
    let joins = leg.joins in
    let order = is.ends joins.edge joins.a joins.b joins.is_edge in
    let (least, most, least_turned, most_turned) = ordered joins.a joins.b order.0 in
    let there : HasEnds road edge joins.a joins.b = subst (λ (i : ℕ). HasEnds road i joins.a joins.b) leg.same joins.is_edge in
    elim joins.ends [
      | inl h ↦
          let first : joins.a ≡ u = h.0 ∙ same_u in
          let second : joins.b ≡ v = h.1 ∙ same_v in
          rw (← first, ← second) (rw (least, most) there)
      | inr h ↦
          let first : joins.a ≡ v = h.0 ∙ same_v in
          let second : joins.b ≡ u = h.1 ∙ same_u in
          rw (← first, ← second) (rw (least_turned, most_turned) there)
    ]

-- ---- an edge is found by halving

-- each edge between the nodes is from `low` on and below `high`
pub record IsBetween (road : Road) (a b low high : ℕ) : Type 0 where
  pub most : high ≤ edge_count road
  pub some : low < high
  pub holds : (edge : ℕ) → HasEnds road edge a b → (low ≤ edge) × (edge < high)

pub between_first : (road : Road) (a b edge : ℕ) → HasEnds road edge a b → IsBetween road a b 0 (edge_count road)
between_first road a b edge there =
    let inside : edge < edge_count road = slice_get_within road.edges edge (a, b) there in
    record {
      most = omega arith;
      some = omega arith;
      holds = λ other is. (omega arith, slice_get_within road.edges other (a, b) is);
    }

precedes_rises : (e f : ℕ × ℕ) → Precedes e f → Precedes f e → ⊥
precedes_rises e f (inl below) (inl above) = absurd (omega arith)
precedes_rises e f (inl below) (inr above) = let same = above.0 in absurd (omega arith)
precedes_rises e f (inr below) (inl above) = let same = below.0 in absurd (omega arith)
precedes_rises e f (inr below) (inr above) = let less = below.1 in let more = above.1 in absurd (omega arith)

-- an edge with a lesser number precedes
in_turn : (road : Road) (i j a b c d : ℕ) → IsRoad road → i < j → HasEnds road i a b → HasEnds road j c d → Precedes (a, b) (c, d)
in_turn road i j a b c d is less first second =
    let inside : j < edge_count road = slice_get_within road.edges j (c, d) second in
    let here : get_or road.edges i (0, 0) ≡ (a, b) = get_or_from_slice_get road.edges i (a, b) (0, 0) first in
    let there : get_or road.edges j (0, 0) ≡ (c, d) = get_or_from_slice_get road.edges j (c, d) (0, 0) second in
    subst (λ (e : ℕ × ℕ). Precedes e (c, d)) here (subst (λ (f : ℕ × ℕ). Precedes (get_or road.edges i (0, 0)) f) there (is.increasing i j (0, 0) less inside))

-- two nodes are joined by one edge
edge_is_one : (road : Road) (a b edge other : ℕ) → IsRoad road → HasEnds road edge a b → HasEnds road other a b → edge ≡ other
edge_is_one road a b edge other is first second = elim (cases_order edge other) [
  | inl same ↦ same
  | inr rest ↦ elim rest [
    | inl less ↦ absurd (twice (in_turn road edge other a b a b is less first second))
    | inr more ↦ absurd (twice (in_turn road other edge a b a b is more second first))
  ]
]
  where
    twice : Precedes (a, b) (a, b) → ⊥
    twice before = precedes_rises (a, b) (a, b) before before

-- and a leg has one edge
leg_is_one : (road : Road) (snap : Snapshot) (nodes : List ℕ) (k edge other : ℕ) → IsRoad road → IsLeg road snap nodes k edge → IsLeg road snap nodes k other → edge ≡ other
leg_is_one road snap nodes k edge other is leg again =
    edge_is_one road (min leg.u leg.v) (max leg.u leg.v) edge other is
    (leg_ends road snap nodes k edge leg.u leg.v is leg leg.before leg.after) (leg_ends road snap nodes k other leg.u leg.v is again leg.before leg.after)

-- the edge in the middle comes after them
pub between_low : (road : Road) (a b low middle high x y : ℕ) → IsRoad road → IsBetween road a b low high → low < middle → middle < high
    → HasEnds road middle x y → Precedes (a, b) (x, y) → IsBetween road a b low middle
between_low road a b low middle high x y is between above below there beyond =
    let most = between.most in
    record {
      most = omega arith;
      some = above;
      holds = λ edge at. (
        (between.holds edge at).0,
        elim (cases_lt edge middle) [
          | inl less ↦ less
          | inr more ↦ elim (cases_lt middle edge) [
            | inl greater ↦ absurd (precedes_rises (a, b) (x, y) beyond (in_turn road middle edge x y a b is greater there at))
            | inr same ↦
                let equal : edge ≡ middle = omega arith in
                let here : HasEnds road middle a b = subst (λ (i : ℕ). HasEnds road i a b) equal at in
                let ends : (a, b) ≡ (x, y) = cc in
                let itself : Precedes (x, y) (x, y) = subst (λ (e : ℕ × ℕ). Precedes e (x, y)) ends beyond in
                absurd (precedes_rises (x, y) (x, y) itself itself)
          ]
        ],
      );
    }

-- it does not come after them
pub between_high : (road : Road) (a b low middle high x y : ℕ) → IsRoad road → IsBetween road a b low high → low < middle → middle < high
    → HasEnds road middle x y → ¬ Precedes (a, b) (x, y) → IsBetween road a b middle high
between_high road a b low middle high x y is between above below there beyond = record {
  most = between.most;
  some = below;
  holds = λ edge at. (
    elim (cases_lt edge middle) [
      | inl less ↦ absurd (beyond (in_turn road edge middle a b x y is less at there))
      | inr more ↦ more
    ],
    (between.holds edge at).1,
  );
}

-- ---- the first leg that is met

-- the one edge of a leg
pub the_leg : (road : Road) (snap : Snapshot) (nodes : List ℕ) (k edge : ℕ) → HasLegs road snap nodes → k + 1 < length nodes
    → ((other : ℕ) → IsLeg road snap nodes k other → other ≡ edge) → IsLeg road snap nodes k edge
the_leg road snap nodes k edge legs below only =
    let found = legs k below in
    subst (IsLeg road snap nodes k) (only found.0 found.1) found.1

-- one leg more is clear
pub clear_more : (map : Roadmap) (snap : Snapshot) (nodes : List ℕ) (k edge : ℕ) → AreClearTo map snap nodes k
    → ((other : ℕ) → IsLeg map.road snap nodes k other → other ≡ edge) → IsLeast (EdgeMeets map snap edge) None → AreClearTo map snap nodes (k + 1)
clear_more map snap nodes k edge clear only none j other cell below leg =
    elim (cases_lt j k) [
      | inl earlier ↦ clear j other cell earlier leg
      | inr last ↦
          let same : j ≡ k = omega arith in
          let here : IsLeg map.road snap nodes k other = subst (λ (i : ℕ). IsLeg map.road snap nodes i other) same leg in
          subst (λ (i : ℕ). ¬ EdgeMeets map snap i cell) (sym (only other here)) (none cell)
    ]

-- all legs are clear
pub all_clear : (map : Roadmap) (snap : Snapshot) (nodes : List ℕ) (count : ℕ) → length nodes ≤ count + 1 → AreClearTo map snap nodes count → AreClear map snap nodes
all_clear map snap nodes count all clear k edge cell leg =
    let inside : k + 1 < length nodes = slice_get_within nodes (k + 1) leg.v leg.after in
    clear k edge cell (omega arith) leg

-- the leg at this place of the route sweeps an occupied cell
abbrev LegMeets : Roadmap → Snapshot → List ℕ → ℕ → Type 0
LegMeets map snap nodes k = (edge : ℕ) × (cell : ℕ) × IsLeg map.road snap nodes k edge × EdgeMeets map snap edge cell

-- the first leg that is met is one, and so is the cell
pub first_met_is_one : (map : Roadmap) (snap : Snapshot) (nodes : List ℕ) (edge other cell met : ℕ) → IsRoad map.road
    → IsFirstMet map snap nodes edge cell → IsFirstMet map snap nodes other met → (edge ≡ other) × (cell ≡ met)
first_met_is_one map snap nodes edge other cell met is first second = (same, least_is_one (EdgeMeets map snap edge) cell met first.least least)
  where
    first_place : (i c : ℕ) (f : IsFirstMet map snap nodes i c) → IsLeast (LegMeets map snap nodes) (Some f.k)
    first_place i c f = ((i, c, f.leg, f.least.0), λ k less (j, d, leg, meets). f.clear k j d less leg meets)

    same : edge ≡ other
    same =
        let place = least_is_one (LegMeets map snap nodes) first.k second.k (first_place edge cell first) (first_place other met second) in
        leg_is_one map.road snap nodes second.k edge other is (subst (λ (k : ℕ). IsLeg map.road snap nodes k edge) place first.leg) second.leg

    least : IsLeast (EdgeMeets map snap edge) (Some met)
    least = subst (λ (i : ℕ). IsLeast (EdgeMeets map snap i) (Some met)) (sym same) second.least
