-- What labels and sides say of routes.
use Rattle.std.proofs.Common.{◌≡◌, ℕ, ◌+◌, ◌≤◌, List, [], ◌∷◌, Option, subst, arith}
use Rattle.std.specs.Prelude.{Contains}
use Rattle.drm_road.specs.Road.{Road}
use Rattle.drm_cellmap.specs.Snapshot.{Snapshot}
use Rattle.drm_cellmap.specs.Routes.{IsWay, IsRoute}
use Rattle.drm_cellmap.specs.Certificates.{IsLabel, Agrees, PathCert, CutCert}
use Rattle.drm_cert.specs.Near.{IsClosed}

-- where labels agree, a label grows along a way by no more than the way is long
pub along_way : (road : Road) (snap : Snapshot) (labels : List (Option ℕ)) → Agrees road snap labels → (u v l x : ℕ) (rest : List ℕ) → IsWay road snap u rest v l → IsLabel labels u x → (y : ℕ) × IsLabel labels v y × (y ≤ x + l)
along_way road snap labels agrees u v l x [] (same, none) label = (x, subst (λ (n : ℕ). IsLabel labels n x) same label, omega arith)
along_way road snap labels agrees u v l x (next ∷ rest) (w, k, joins, way, total) label =
    let here = agrees u next w x joins label in
    let later = along_way road snap labels agrees next v k here.0 rest way here.1 in
    (later.0, later.1, omega (arith, here.2, later.2, total))

pub path_is_shortest : (road : Road) (snap : Snapshot) (from to l k : ℕ) (nodes others : List ℕ) (labels : List (Option ℕ)) → PathCert road snap from to nodes l labels → IsRoute road snap others from to k → l ≤ k
path_is_shortest road snap from to l k nodes others labels cert route =
    let reached = along_way road snap labels cert.agrees from to k 0 route.rest route.way cert.start in
    let last : IsLabel labels to l = cert.end in
    let label : IsLabel labels to reached.0 = reached.1 in
    let same : reached.0 ≡ l = cc in
    omega (arith, reached.2)

-- a way that begins in a closed side ends in it
pub stays_in_side : (road : Road) (snap : Snapshot) (side : List ℕ) → IsClosed road snap side → (u v l : ℕ) (rest : List ℕ) → IsWay road snap u rest v l → Contains side u → Contains side v
stays_in_side road snap side closed u v l [] (same, none) inside = subst (λ (n : ℕ). Contains side n) same inside
stays_in_side road snap side closed u v l (next ∷ rest) (w, k, joins, way, total) inside = stays_in_side road snap side closed next v k rest way (closed u next w joins inside)

pub cut_has_no_route : (road : Road) (snap : Snapshot) (from to l : ℕ) (side nodes : List ℕ) → CutCert road snap from to side → IsRoute road snap nodes from to l → ⊥
cut_has_no_route road snap from to l side nodes cert route = cert.outside (stays_in_side road snap side cert.barred from to l route.rest route.way cert.inside)
