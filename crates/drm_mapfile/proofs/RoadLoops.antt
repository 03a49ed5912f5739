-- The last of what was read, and coordinates one after another.
use Rattle.std.proofs.Common.{◌≡◌, ℕ, zero, suc, ◌+◌, ◌≤◌, ℤ, ◌-◌, Bool, true, false, cond, List, [], ◌∷◌, ◌++◌, length, drop, Some, Result, Ok, Err, slice_get, refl, sym, ap, ◌∙◌, append_assoc, add-one, arith}
use Rattle.std.specs.List.{zip, list_any}
use Rattle.std.specs.Prelude.{IsTrue}
use Rattle.std.proofs.lemmas.List.{append-nil, nil_from_length, length-drop}
use Rattle.std.proofs.lemmas.List.Elements.{All-nil, All-cons}
use Rattle.drm_arm.specs.declared.arm.Link.{Link}
use Rattle.drm_arm.specs.Config.{allows, IsConfig}
use Rattle.drm_road.specs.Draws.{is_same}
use Rattle.drm_mapfile.specs.declared.fault.FileFault.{FileFault}
use Rattle.drm_mapfile.specs.declared.fault.FileFault.TheVariants.{Field}
use Rattle.drm_mapfile.specs.Fields.{◌>>=◌, Fails, signed_field}
use Rattle.drm_mapfile.specs.Reading.{coordinates_at, node_at, last_edge, least_behind}
use Rattle.drm_mapfile.proofs.FieldLaws.{bind_ok, ok_is, signed_keeps}
use Rattle.drm_mapfile.proofs.Loops.{fails_on}

pub last_push : (edges : List (ℕ × ℕ)) (edge : ℕ × ℕ) → last_edge (edges ++ edge ∷ []) ≡ edge
last_push [] edge = refl
last_push (e ∷ []) edge = refl
last_push (e ∷ f ∷ edges) edge = last_push (f ∷ edges) edge

pub least_push : (cells : List ℕ) (cell : ℕ) → least_behind (cells ++ cell ∷ []) ≡ cell + 1
least_push [] cell = refl
least_push (c ∷ []) cell = refl
least_push (c ∷ d ∷ cells) cell = least_push (d ∷ cells) cell

-- coordinates that are read behind others
abbrev pub with_front : List ℤ → Result (List ℤ × List ℕ) FileFault → Result (List ℤ × List ℕ) FileFault
with_front front read = read >>= λ zs. Ok (front ++ zs.0, zs.1)

abbrev pub with_first : ℕ → List Link → ℤ × List ℕ → Result (List ℤ × List ℕ) FileFault
with_first total links z = coordinates_at total links z.1 >>= λ zs. Ok (z.0 ∷ zs.0, zs.1)

front_at : (links : List Link) (j : ℕ) (link : Link) → slice_get links j ≡ Some link → drop j links ≡ link ∷ drop (suc j) links
front_at [] zero link is = absurd cc
front_at [] (suc j) link is = absurd cc
front_at (l ∷ links) zero link is = let same : l ≡ link = cc in ap (λ (x : Link). x ∷ links) same
front_at (l ∷ links) (suc j) link is = front_at links j link is

regroup : (front : List ℤ) (z : ℤ) (read : Result (List ℤ × List ℕ) FileFault) → with_front front (read >>= λ zs. Ok (z ∷ zs.0, zs.1)) ≡ with_front (front ++ z ∷ []) read
regroup front z (Ok zs) = ap (λ (xs : List ℤ). Ok (xs, zs.1)) (sym (append_assoc front (z ∷ []) zs.0))
regroup front z (Err fault) = refl

step : (total : ℕ) (links : List Link) (j : ℕ) (link : Link) (s : List ℕ) → slice_get links j ≡ Some link → coordinates_at total (drop j links) s ≡ (signed_field total (allows link) s >>= with_first total (drop (suc j) links))
unfolding coordinates_at
step total links j link s is = ap (λ (ls : List Link). coordinates_at total ls s) (front_at links j link is)

pub starts : (total : ℕ) (links : List Link) (front : List ℤ) (s : List ℕ) → front ≡ [] → with_front front (coordinates_at total links s) ≡ coordinates_at total links s
starts total links front s none = rw none (same (coordinates_at total links s)) where
  same : (r : Result (List ℤ × List ℕ) FileFault) → with_front [] r ≡ r
  same (Ok zs) = refl
  same (Err fault) = refl

pub coordinate_goes_on : (total : ℕ) (links : List Link) (j : ℕ) (link : Link) (front pushed : List ℤ) (s after : List ℕ) (z : ℤ) (all : Result (List ℤ × List ℕ) FileFault) → slice_get links j ≡ Some link → signed_field total (allows link) s ≡ Ok (z, after) → pushed ≡ front ++ z ∷ []
    → with_front front (coordinates_at total (drop j links) s) ≡ all → with_front pushed (coordinates_at total (drop (j + 1) links) after) ≡ all
coordinate_goes_on total links j link front pushed s after z all is_link is more so_far =
    rw (more, add-one) (sym (regroup front z (coordinates_at total (drop (suc j) links) after))
    ∙ sym (ap (λ (r : Result (ℤ × List ℕ) FileFault). with_front front (r >>= with_first total (drop (suc j) links))) is)
    ∙ sym (ap (with_front front) (step total links j link s is_link)) ∙ so_far)

pub coordinate_ends : (total : ℕ) (links : List Link) (j : ℕ) (link : Link) (front : List ℤ) (s : List ℕ) (e : FileFault) (all : Result (List ℤ × List ℕ) FileFault) → slice_get links j ≡ Some link → Fails e (signed_field total (allows link) s)
    → with_front front (coordinates_at total (drop j links) s) ≡ all → Fails e all
coordinate_ends total links j link front s e all is_link fails so_far =
    rw (sym so_far ∙ ap (with_front front) (step total links j link s is_link))
    (fails_on e (signed_field total (allows link) s >>= with_first total (drop (suc j) links)) (λ zs. Ok (front ++ zs.0, zs.1)) (fails_on e (signed_field total (allows link) s) (with_first total (drop (suc j) links)) fails))

pub coordinates_done : (total : ℕ) (links : List Link) (j : ℕ) (front : List ℤ) (s : List ℕ) (all : Result (List ℤ × List ℕ) FileFault) → length links ≤ j → with_front front (coordinates_at total (drop j links) s) ≡ all → all ≡ Ok (front, s)
unfolding coordinates_at
coordinates_done total links j front s all past so_far =
    sym so_far ∙ ap (λ (ls : List Link). with_front front (coordinates_at total ls s)) (nil_from_length (drop j links) (omega (arith, length-drop j links)))
    ∙ ap (λ (xs : List ℤ). Ok (xs, s)) (append-nil front)

-- the coordinates that were read are a configuration
pub is_config : (total : ℕ) (links : List Link) (s : List ℕ) (zs : List ℤ) (more : List ℕ) → coordinates_at total links s ≡ Ok (zs, more) → IsConfig links zs
unfolding coordinates_at
is_config total [] s zs more e =
    let none : [] ≡ zs = ap (λ (y : List ℤ × List ℕ). y.0) (ok_is ([], s) (zs, more) e) in
    rw (← none) (record { counted = refl; within = All-nil (λ (pair : Link × ℤ). IsTrue (allows pair.0 pair.1)) })
is_config total (link ∷ links) s zs more e =
    let z = bind_ok (signed_field total (allows link) s) (with_first total links) (zs, more) e in
    let rest = bind_ok (coordinates_at total links z.0.1) (λ zs. Ok (z.0.0 ∷ zs.0, zs.1)) (zs, more) z.2 in
    let others = is_config total links z.0.1 rest.0.0 rest.0.1 rest.1 in
    let first = signed_keeps total (allows link) s z.0.0 z.0.1 z.1 in
    let same : z.0.0 ∷ rest.0.0 ≡ zs = ap (λ (y : List ℤ × List ℕ). y.0) (ok_is (z.0.0 ∷ rest.0.0, rest.0.1) (zs, more) rest.2) in
    rw (← same) (record { counted = ap suc others.counted; within = All-cons (λ (pair : Link × ℤ). IsTrue (allows pair.0 pair.1)) (link, z.0.0) (zip links rest.0.0) first others.within })

-- a node that was met is told
pub node_repeats : (total : ℕ) (links : List Link) (front : List (List ℤ)) (s : List ℕ) (node read : List ℤ) (more : List ℕ) (met : Bool) → coordinates_at total links s ≡ Ok (read, more) → node ≡ read → met ≡ list_any (λ other. is_same other node) front → met ≡ true
    → node_at total links front s ≡ Err (Field (total - length s))
unfolding node_at
node_repeats total links front s node read more met is same tells so =
    let any : list_any (λ other. is_same other read) front ≡ true = ap (λ (n : List ℤ). list_any (λ other. is_same other n) front) (sym same) ∙ sym tells ∙ so in
    ap (λ (r : Result (List ℤ × List ℕ) FileFault). r >>= λ node. cond (list_any (λ other. is_same other node.0) front) (Err (Field (total - length s))) (Ok node)) is
    ∙ ap (λ (b : Bool). cond b (Err (Field (total - length s))) (Ok (read, more))) any

-- a node that is new is read
pub node_new : (total : ℕ) (links : List Link) (front : List (List ℤ)) (s : List ℕ) (node read : List ℤ) (more : List ℕ) (met : Bool) → coordinates_at total links s ≡ Ok (read, more) → node ≡ read → met ≡ list_any (λ other. is_same other node) front → met ≡ false
    → node_at total links front s ≡ Ok (read, more)
unfolding node_at
node_new total links front s node read more met is same tells so =
    let none : list_any (λ other. is_same other read) front ≡ false = ap (λ (n : List ℤ). list_any (λ other. is_same other n) front) (sym same) ∙ sym tells ∙ so in
    ap (λ (r : Result (List ℤ × List ℕ) FileFault). r >>= λ node. cond (list_any (λ other. is_same other node.0) front) (Err (Field (total - length s))) (Ok node)) is
    ∙ ap (λ (b : Bool). cond b (Err (Field (total - length s))) (Ok (read, more))) none
