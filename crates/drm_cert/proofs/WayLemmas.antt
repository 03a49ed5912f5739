-- Ways, node by node.
use Rattle.std.proofs.Common.{◌≡◌, ℕ, ◌+◌, ◌-◌, ◌<◌, ◌≤◌, ◌↔◌, Bool, false, IsTrue, List, ◌∷◌, length, get_or, drop, drop-cons, add-one, Option, Some, refl, arith}
use Rattle.drm_road.specs.Road.{Road}
use Rattle.drm_cellmap.specs.Snapshot.{Snapshot}
use Rattle.drm_cellmap.specs.Routes.{Joins, IsWay, IsRoute}
use Rattle.drm_cellmap.specs.Certificates.{Agrees, PathCert}
use Rattle.drm_cert.specs.Near.{AreLabels}

-- all is a way exactly where what is left of the nodes is one, of what is left of the length
abbrev pub IsLeft : Road → Snapshot → ℕ → ℕ → List ℕ → ℕ → ℕ → ℕ → ℕ → Type 0
IsLeft road snap from to rest l at left i = IsWay road snap from rest to l ↔ IsWay road snap at (drop i rest) to left

-- the next node, and those behind it
opened : (road : Road) (snap : Snapshot) (from to l at left i : ℕ) (rest : List ℕ) → i < length rest → IsLeft road snap from to rest l at left i → IsWay road snap from rest to l ↔ IsWay road snap at (get_or rest i 0 ∷ drop (i + 1) rest) to left
opened road snap from to l at left i rest below so_far = rw (add-one i) (rw (drop-cons rest i 0 below) at so_far)

-- no edge to the next node is short enough
pub way_ends : (road : Road) (snap : Snapshot) (from to l at left i : ℕ) (rest : List ℕ) → i < length rest → IsLeft road snap from to rest l at left i → ((w : ℕ) → Joins road snap at (get_or rest i 0) w → w ≤ left → ⊥) → IsTrue false ↔ IsWay road snap from rest to l
way_ends road snap from to l at left i rest below so_far never =
    (λ t. absurd cc, λ way. let (w, k, joins, way, total) = (opened road snap from to l at left i rest below so_far).0 way in absurd (never w joins (omega arith)))

-- an edge to the next node is taken off the length
pub way_taken : (road : Road) (snap : Snapshot) (from to l at left i weight : ℕ) (rest : List ℕ) → i < length rest → IsLeft road snap from to rest l at left i → ((w : ℕ) → Joins road snap at (get_or rest i 0) w ↔ (Some weight ≡ Some w)) → weight ≤ left → IsLeft road snap from to rest l (get_or rest i 0) (left - weight) (i + 1)
way_taken road snap from to l at left i weight rest below so_far exact fits = (forth, back)
  where
    here : IsWay road snap from rest to l ↔ IsWay road snap at (get_or rest i 0 ∷ drop (i + 1) rest) to left
    here = opened road snap from to l at left i rest below so_far

    same : (w : ℕ) → Some weight ≡ Some w → weight ≡ w
    same w is = cc

    forth : IsWay road snap from rest to l → IsWay road snap (get_or rest i 0) (drop (i + 1) rest) to (left - weight)
    forth way =
        let parts = here.0 way in
        let w : ℕ = parts.0 in
        let k : ℕ = parts.1 in
        let total : left ≡ w + k = parts.4 in
        let is : weight ≡ w = same w ((exact w).0 parts.2) in
        let remains : left - weight ≡ k = omega arith in
        rw remains parts.3

    back : IsWay road snap (get_or rest i 0) (drop (i + 1) rest) to (left - weight) → IsWay road snap from rest to l
    back way =
        let total : left ≡ weight + (left - weight) = omega arith in
        here.1 (weight, left - weight, (exact weight).1 refl, way, total)

-- the parts of a path certificate
pub path_by_parts : (road : Road) (snap : Snapshot) (from to l : ℕ) (nodes : List ℕ) (labels : List (Option ℕ)) (r : Bool) → AreLabels road from to l labels → IsRoute road snap nodes from to l → (IsTrue r ↔ Agrees road snap labels) → IsTrue r ↔ PathCert road snap from to nodes l labels
path_by_parts road snap from to l nodes labels r (one_each, start, end) route agrees =
    (λ is. record { route = route; one_each = one_each; start = start; end = end; agrees = agrees.0 is }, λ cert. agrees.1 cert.agrees)
