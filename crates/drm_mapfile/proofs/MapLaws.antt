-- The file: what is read is a map within the limits and spelled so, and what was spelled is read again.
use Rattle.std.proofs.Common.{◌≡◌, ℕ, zero, suc, ◌+◌, ◌-◌, ◌^◌, ◌≤◌, Bool, true, false, cond, ltb, eqb, List, [], ◌++◌, length, take, drop, Result, Ok, Err, refl, sym, ap, subst, ◌∙◌, append_assoc, arith}
use Rattle.std.specs.Prelude.{flat_map, IfOk, MatchResult}
use Rattle.std.specs.Str.{bytes_eq}
use Rattle.std.specs.Int.{w16}
use Rattle.std.proofs.lemmas.Bool.{eqb-true, ltb-false, le-ltb}
use Rattle.std.proofs.lemmas.Slice.Eq.{bytes_eq-Decides}
use Rattle.std.proofs.lemmas.List.{append-nil, nil_from_length, take-append-drop, length-append}
use Rattle.drm_arm.specs.declared.arm.Link.{Link}
use Rattle.drm_grid.specs.Layout.{Layout, cell_count}
use Rattle.drm_road.specs.Road.{Road}
use Rattle.drm_cellmap.specs.Roadmap.{Roadmap, IsRoadmap}
use Rattle.drm_mapfile.specs.declared.fault.FileFault.{FileFault}
use Rattle.drm_mapfile.specs.declared.fault.FileFault.TheVariants.{Magic, Version, Short, Field, Excess, Memory}
use Rattle.drm_mapfile.specs.Fields.{◌>>=◌, Fails, Gives, number_at}
use Rattle.drm_mapfile.specs.Text.{magic, version, number, arm_text, grid_text, road_text, sweep_text}
use Rattle.drm_mapfile.specs.MapFile.{body_text, map_text, IsMapFile}
use Rattle.drm_mapfile.specs.Reading.{arm_at, grid_at, road_at, sweeps_at}
use Rattle.drm_mapfile.specs.FileReading.{magic_at, version_at, map_at, map_in}
use Rattle.drm_mapfile.proofs.FieldLaws.{IsBytes, IsBytes-drop, Takes, takes_then, bind_ok, guard_ok, pass_ok, ok_is, on_ok, wide16, plain_takes, plain_again}
use Rattle.drm_mapfile.proofs.ArmLaws.{arm_takes, arm_again}
use Rattle.drm_mapfile.proofs.GridLaws.{grid_takes, grid_again}
use Rattle.drm_mapfile.proofs.RoadLaws.{road_takes, road_again}
use Rattle.drm_mapfile.proofs.SweepLaws.{sweeps_take, sweeps_again}

-- ---- the map

abbrev with_sweeps : List Link → Layout → Road → List (List ℕ) × List ℕ → Result (Roadmap × List ℕ) FileFault
with_sweeps arm grid road sweeps = Ok (record { arm = arm; grid = grid; road = road; sweeps = sweeps.0 }, sweeps.1)

abbrev with_road : ℕ → List Link → Layout → Road × List ℕ → Result (Roadmap × List ℕ) FileFault
with_road total arm grid road = sweeps_at total (cell_count grid) (length (road.0).nodes + length (road.0).edges) road.1 >>= with_sweeps arm grid road.0

abbrev with_grid : ℕ → List Link → Layout × List ℕ → Result (Roadmap × List ℕ) FileFault
with_grid total arm grid = road_at total arm grid.1 >>= with_road total arm grid.0

abbrev with_arm : ℕ → List Link × List ℕ → Result (Roadmap × List ℕ) FileFault
with_arm total arm = grid_at total arm.0 arm.1 >>= with_grid total arm.0

map_takes : (total : ℕ) (s : List ℕ) (map : Roadmap) (more : List ℕ) → IsBytes s → map_at total s ≡ Ok (map, more) → Takes s (body_text map) more × IsRoadmap map
unfolding map_at
map_takes total s map more fits e =
    let arm = bind_ok (arm_at total s) (with_arm total) (map, more) e in
    let grid = bind_ok (grid_at total arm.0.0 arm.0.1) (with_grid total arm.0.0) (map, more) arm.2 in
    let road = bind_ok (road_at total arm.0.0 grid.0.1) (with_road total arm.0.0 grid.0.0) (map, more) grid.2 in
    let elements = length road.0.0.nodes + length road.0.0.edges in
    let sweeps = bind_ok (sweeps_at total (cell_count grid.0.0) elements road.0.1) (with_sweeps arm.0.0 grid.0.0 road.0.0) (map, more) road.2 in
    let t0 = arm_takes total s arm.0.0 arm.0.1 fits arm.1 in
    let t1 = grid_takes total arm.0.0 arm.0.1 grid.0.0 grid.0.1 t0.0.rest_fits grid.1 in
    let t2 = road_takes total arm.0.0 grid.0.1 road.0.0 road.0.1 t1.0.rest_fits road.1 in
    let t3 = sweeps_take total grid.0.0 elements road.0.1 sweeps.0.0 sweeps.0.1 t2.0.rest_fits sweeps.1 in
    let e23 = takes_then grid.0.1 (road_text road.0.0) road.0.1 (flat_map sweep_text sweeps.0.0) sweeps.0.1 t2.0 t3.0 in
    let e13 = takes_then arm.0.1 (grid_text grid.0.0) grid.0.1 (road_text road.0.0 ++ flat_map sweep_text sweeps.0.0) sweeps.0.1 t1.0 e23 in
    let e03 = takes_then s (arm_text arm.0.0) arm.0.1 (grid_text grid.0.0 ++ (road_text road.0.0 ++ flat_map sweep_text sweeps.0.0)) sweeps.0.1 t0.0 e13 in
    let made : Roadmap = record { arm = arm.0.0; grid = grid.0.0; road = road.0.0; sweeps = sweeps.0.0 } in
    let is : IsRoadmap made = record { arm = t0.1; grid = t1.1; fits = t1.2; road = t2.1.is_road; nodes = t2.1.configs; one_each = t3.1; sweeps = t3.2; entries = t3.3 } in
    subst (λ (y : Roadmap × List ℕ). Takes s (body_text y.0) y.1 × IsRoadmap y.0) (ok_is (made, sweeps.0.1) (map, more) sweeps.2) (e03, is)

regroup4 : (a b c d more : List ℕ) → (a ++ (b ++ (c ++ d))) ++ more ≡ a ++ (b ++ (c ++ (d ++ more)))
regroup4 a b c d more = append_assoc a (b ++ (c ++ d)) more ∙ ap (λ (t : List ℕ). a ++ t) (append_assoc b (c ++ d) more ∙ ap (λ (t : List ℕ). b ++ t) (append_assoc c d more))

map_again : (total : ℕ) (map : Roadmap) (more : List ℕ) → IsRoadmap map → map_at total (body_text map ++ more) ≡ Ok (map, more)
unfolding map_at
map_again total map more is =
    let sweeps = flat_map sweep_text map.sweeps ++ more in
    let road = road_text map.road ++ sweeps in
    let grid = grid_text map.grid ++ road in
    let counted = subst (λ (n : ℕ). sweeps_at total (cell_count map.grid) n sweeps ≡ Ok (map.sweeps, more)) is.one_each (sweeps_again total map.grid map.sweeps more is.grid is.sweeps is.entries) in
    ap (map_at total) (regroup4 (arm_text map.arm) (grid_text map.grid) (road_text map.road) (flat_map sweep_text map.sweeps) more)
    ∙ on_ok (arm_at total (arm_text map.arm ++ grid)) (with_arm total) (map.arm, grid) (Ok (map, more)) (arm_again total map.arm grid is.arm)
    (on_ok (grid_at total map.arm grid) (with_grid total map.arm) (map.grid, road) (Ok (map, more)) (grid_again total map.arm map.grid road is.grid is.fits)
    (on_ok (road_at total map.arm road) (with_road total map.arm map.grid) (map.road, sweeps) (Ok (map, more)) (road_again total map.arm map.road sweeps is.arm.limits (record { is_road = is.road; configs = is.nodes }))
    (on_ok (sweeps_at total (cell_count map.grid) (length (map.road).nodes + length (map.road).edges) sweeps) (with_sweeps map.arm map.grid map.road) (map.sweeps, more) (Ok (map, more)) counted refl)))

-- ---- the mark and the version

taken : (n : ℕ) → take (suc (suc (suc (suc n)))) magic ≡ magic
taken zero = refl
taken (suc n) = refl

all_taken : (n : ℕ) → 4 ≤ n → take n magic ≡ magic
all_taken zero h = absurd (omega arith)
all_taken (suc zero) h = absurd (omega arith)
all_taken (suc (suc zero)) h = absurd (omega arith)
all_taken (suc (suc (suc zero))) h = absurd (omega arith)
all_taken (suc (suc (suc (suc n)))) h = taken n

magic_takes : (total : ℕ) (s rest : List ℕ) → magic_at total s ≡ Ok rest → s ≡ magic ++ rest
unfolding magic_at
magic_takes total s rest e =
    let p = first (bytes_eq (take 4 s) (take (length s) magic)) e in
    let long : 4 ≤ length s = ltb-false (length s) 4 p.1.0 in
    let same : take 4 s ≡ take (length s) magic = (bytes_eq-Decides (take 4 s) (take (length s) magic)).0 p.0 in
    let whole : take (length s) magic ≡ magic = all_taken (length s) long in
    sym (take-append-drop 4 s) ∙ ap (λ (t : List ℕ). t ++ drop 4 s) (same ∙ whole) ∙ ap (λ (t : List ℕ). magic ++ t) p.1.1 where
      first : (b : Bool) → cond b (cond (ltb (length s) 4) (Err (Short total)) (Ok (drop 4 s))) (Err Magic) ≡ Ok rest → (b ≡ true) × ((ltb (length s) 4 ≡ false) × (drop 4 s ≡ rest))
      first true h = (refl, guard_ok (ltb (length s) 4) (Short total) (drop 4 s) rest h)
      first false h = absurd cc

magic_again : (total : ℕ) (rest : List ℕ) → magic_at total (magic ++ rest) ≡ Ok rest
unfolding magic_at
magic_again total rest =
    let whole = magic ++ rest in
    let long : ltb (length whole) 4 ≡ false = le-ltb _ _ (omega (arith, length-append magic rest)) in
    let same : bytes_eq (take 4 whole) (take (length whole) magic) ≡ true = (bytes_eq-Decides (take 4 whole) (take (length whole) magic)).1 (sym (all_taken (length whole) (omega (arith, length-append magic rest)))) in
    ap (λ (b : Bool). cond b (cond (ltb (length whole) 4) (Err (Short total)) (Ok (drop 4 whole))) (Err Magic)) same
    ∙ ap (λ (b : Bool). cond b (Err (Short total)) (Ok (drop 4 whole))) long

version_takes : (total : ℕ) (s rest : List ℕ) → IsBytes s → version_at total s ≡ Ok rest → Takes s (number version) rest
unfolding version_at
version_takes total s rest fits e =
    let v = bind_ok (number_at w16 total s) (λ v. cond (eqb v.0 version) (Ok v.1) (Err (Version v.0))) rest e in
    let p = pass_ok (eqb v.0.0 version) (Version v.0.0) v.0.1 rest v.2 in
    let t = plain_takes w16 (2 ^ 16) wide16 total s v.0.0 v.0.1 fits v.1 in
    subst (λ (r : List ℕ). Takes s (number version) r) p.1 (subst (λ (n : ℕ). Takes s (number n) v.0.1) (eqb-true v.0.0 version p.0) t.0)

version_again : (total : ℕ) (rest : List ℕ) → version_at total (number version ++ rest) ≡ Ok rest
unfolding version_at
version_again total rest =
    on_ok (number_at w16 total (number version ++ rest)) (λ v. cond (eqb v.0 version) (Ok v.1) (Err (Version v.0))) (version, rest) (Ok rest) (plain_again w16 (2 ^ 16) wide16 total version rest (omega arith)) refl

-- ---- the file

abbrev with_map : ℕ → Roadmap × List ℕ → Result Roadmap FileFault
with_map total map = cond (eqb (length map.1) 0) (Ok map.0) (Err (Excess (total - length map.1)))

abbrev with_version : ℕ → List ℕ → Result Roadmap FileFault
with_version total rest = map_at total rest >>= with_map total

abbrev with_magic : ℕ → List ℕ → Result Roadmap FileFault
with_magic total rest = version_at total rest >>= with_version total

-- what is read is spelled so
pub file_takes : (bytes : List ℕ) (map : Roadmap) → IsBytes bytes → map_in bytes ≡ Ok map → IsMapFile bytes map
unfolding map_in
file_takes bytes map fits e =
    let total = length bytes in
    let m = bind_ok (magic_at total bytes) (with_magic total) map e in
    let v = bind_ok (version_at total m.0) (with_version total) map m.2 in
    let x = bind_ok (map_at total v.0) (with_map total) map v.2 in
    let p = pass_ok (eqb (length x.0.1) 0) (Excess (total - length x.0.1)) x.0.0 map x.2 in
    let mark = magic_takes total bytes m.0 m.1 in
    let behind : IsBytes m.0 = subst IsBytes (ap (drop 4) mark) (IsBytes-drop 4 bytes fits) in
    let t0 = version_takes total m.0 v.0 behind v.1 in
    let t1 = map_takes total v.0 x.0.0 x.0.1 t0.rest_fits x.1 in
    let nothing : x.0.1 ≡ [] = nil_from_length x.0.1 (eqb-true (length x.0.1) 0 p.0) in
    let body : v.0 ≡ body_text x.0.0 = t1.0.parts ∙ ap (λ (t : List ℕ). body_text x.0.0 ++ t) nothing ∙ append-nil (body_text x.0.0) in
    let whole : bytes ≡ map_text x.0.0 = mark ∙ ap (λ (t : List ℕ). magic ++ t) (t0.parts ∙ ap (λ (t : List ℕ). number version ++ t) body) in
    let made : IsMapFile bytes x.0.0 = record { within_limits = t1.1; text = whole } in
    subst (IsMapFile bytes) p.1 made

-- what was spelled is read again
pub file_again : (bytes : List ℕ) (map : Roadmap) → IsMapFile bytes map → map_in bytes ≡ Ok map
unfolding map_in
file_again bytes map file =
    let total = length bytes in
    let is : bytes ≡ magic ++ (number version ++ (body_text map ++ [])) = file.text ∙ ap (λ (t : List ℕ). magic ++ (number version ++ t)) (sym (append-nil (body_text map))) in
    on_ok (magic_at total bytes) (with_magic total) (number version ++ (body_text map ++ [])) (Ok map) (ap (magic_at total) is ∙ magic_again total (number version ++ (body_text map ++ [])))
    (on_ok (version_at total (number version ++ (body_text map ++ []))) (with_version total) (body_text map ++ []) (Ok map) (version_again total (body_text map ++ []))
    (on_ok (map_at total (body_text map ++ [])) (with_map total) (map, []) (Ok map) (map_again total map [] file.within_limits) refl))

-- ---- what a call that gives this knows

pub file_found : (bytes : List ℕ) (result : Result Roadmap FileFault) → IsBytes bytes → Gives (λ map. map) result (map_in bytes) → IfOk result (IsMapFile bytes)
file_found bytes (Ok map) fits gives = file_takes bytes map fits gives
file_found bytes (Err fault) fits gives = tt

pub file_kept : (bytes : List ℕ) (result : Result Roadmap FileFault) → Gives (λ map. map) result (map_in bytes) → (map : Roadmap) → IsMapFile bytes map → MatchResult result (λ found. found ≡ map) (λ fault. fault ≡ Memory)
file_kept bytes (Ok found) gives map file = let again = file_again bytes map file in ok_is found map (sym gives ∙ again)
file_kept bytes (Err fault) gives map file = failed fault (map_in bytes) map gives (file_again bytes map file) where
  failed : (e : FileFault) (r : Result Roadmap FileFault) (m : Roadmap) → Fails e r → r ≡ Ok m → e ≡ Memory
  failed Memory r m h is = refl
  failed Magic r m h is = absurd (let both = sym h ∙ is in cc)
  failed (Version v) r m h is = absurd (let both = sym h ∙ is in cc)
  failed (Short p) r m h is = absurd (let both = sym h ∙ is in cc)
  failed (Field p) r m h is = absurd (let both = sym h ∙ is in cc)
  failed (Excess p) r m h is = absurd (let both = sym h ∙ is in cc)
