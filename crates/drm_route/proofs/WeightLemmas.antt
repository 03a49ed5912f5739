-- Nodes of a map are configurations of its arm, so they are not far apart.
use Rattle.std.proofs.Common.{◌≡◌, ℕ, ◌*◌, ◌≤◌, ℤ, pos, neg_ℤ, ◌-ℤ◌, ◌≤ℤ◌, true, ◌&&◌, IsTrue, int_le, List, [], ◌∷◌, ◌++◌, length, take, Option, refl, ap, subst, arith}
use Rattle.std.specs.Prelude.{All, unsigned_abs}
use Rattle.std.specs.List.{zip}
use Rattle.std.proofs.lemmas.Int.{ints}
use Rattle.std.proofs.lemmas.List.Sums.{sum_by-cons}
use Rattle.std.proofs.lemmas.List.Elements.{All-head, All-tail}
use Rattle.drm_arm.specs.declared.arm.Link.{Link}
use Rattle.drm_arm.specs.Arm.{has_limits}
use Rattle.drm_arm.specs.Config.{IsConfig, allows}
use Rattle.drm_arm.specs.Distance.{distance}
use Rattle.drm_road.specs.Road.{Road, IsRoad, node_of}
use Rattle.drm_cellmap.specs.Roadmap.{Roadmap, IsRoadmap}
use Rattle.drm_cellmap.specs.Snapshot.{Snapshot}
use Rattle.drm_cellmap.specs.Routes.{IsSnapOn}
use Rattle.drm_route.specs.Rounds.{HasSmallWeights}

-- a number between limits that are between -4,096 and 4,096
at_least : (lo hi v : ℤ) → (int_le (neg_ℤ (pos 4096)) lo && int_le hi (pos 4096) && int_le lo hi) ≡ true → (int_le lo v && int_le v hi) ≡ true → neg_ℤ (pos 4096) ≤ℤ v
at_least lo hi v h k = grind (arith, ints)

at_most : (lo hi v : ℤ) → (int_le (neg_ℤ (pos 4096)) lo && int_le hi (pos 4096) && int_le lo hi) ≡ true → (int_le lo v && int_le v hi) ≡ true → v ≤ℤ pos 4096
at_most lo hi v h k = grind (arith, ints)

gap_is_small : (x y : ℤ) → neg_ℤ (pos 4096) ≤ℤ x → x ≤ℤ pos 4096 → neg_ℤ (pos 4096) ≤ℤ y → y ≤ℤ pos 4096 → unsigned_abs (x -ℤ y) ≤ 8192
gap_is_small x y low_x high_x low_y high_y = omega (arith, ints)

distance_is_small : (xs ys : List ℤ) (links : List Link) → All (λ link. IsTrue (has_limits link)) links → IsConfig links xs → IsConfig links ys → distance xs ys ≤ 8192 * length links
distance_is_small [] ys links limits first second = let none : distance [] ys ≡ 0 = refl in omega arith
distance_is_small (x ∷ xs) [] links limits first second = let none : distance (x ∷ xs) [] ≡ 0 = refl in omega arith
distance_is_small (x ∷ xs) (y ∷ ys) [] limits first second = absurd (omega (arith, first.counted))
distance_is_small (x ∷ xs) (y ∷ ys) (link ∷ links) limits first second =
    let Allows : Link × ℤ → Type 0 = λ pair. IsTrue (allows pair.0 pair.1) in
    let here = All-head (λ link. IsTrue (has_limits link)) link links limits in
    let at_x = All-head Allows (link, x) (zip links xs) first.within in
    let at_y = All-head Allows (link, y) (zip links ys) second.within in
    let rest_x : IsConfig links xs = record { counted = omega (arith, first.counted); within = All-tail Allows (link, x) (zip links xs) first.within } in
    let rest_y : IsConfig links ys = record { counted = omega (arith, second.counted); within = All-tail Allows (link, y) (zip links ys) second.within } in
    let rest = distance_is_small xs ys links (All-tail (λ link. IsTrue (has_limits link)) link links limits) rest_x rest_y in
    let gap : unsigned_abs (x -ℤ y) ≤ 8192 = gap_is_small x y (at_least link.lo link.hi x here at_x) (at_most link.lo link.hi x here at_x) (at_least link.lo link.hi y here at_y) (at_most link.lo link.hi y here at_y) in
    omega (arith, sum_by-cons (λ (pair : ℤ × ℤ). unsigned_abs (pair.0 -ℤ pair.1)) (x, y) (zip xs ys))

weights_of_map : (map : Roadmap) → IsRoadmap map → HasSmallWeights map.road
weights_of_map map is i a b there =
    let order = is.road.ends i a b there in
    let first = order.0 in
    let second = order.1 in
    let few = is.arm.few in
    omega (arith, distance_is_small (node_of map.road a) (node_of map.road b) map.arm is.arm.limits (is.nodes a [] (omega arith)) (is.nodes b [] second))

pub weights_on : (road : Road) (snap : Snapshot) → IsSnapOn road snap → HasSmallWeights road
weights_on road snap on = subst HasSmallWeights on.same (weights_of_map on.map on.limits)

pub road_on : (road : Road) (snap : Snapshot) → IsSnapOn road snap → IsRoad road
road_on road snap on = subst IsRoad on.same on.limits.road

-- the front of a list, of its own length
pub take_front : (new rest : List (Option ℕ)) (len : ℕ) → len ≡ length new → take len (new ++ rest) ≡ new
take_front new rest len is = rw is (front new)
  where
    front : (xs : List (Option ℕ)) → take (length xs) (xs ++ rest) ≡ xs
    front [] = refl
    front (x ∷ xs) = ap (λ (ys : List (Option ℕ)). x ∷ ys) (front xs)
