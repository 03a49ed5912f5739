-- What was written so far, and one more.
use Rattle.std.proofs.Common.{◌≡◌, ℕ, zero, suc, ◌+◌, ◌-◌, ◌*◌, ◌^◌, ◌<◌, ◌≤◌, ℤ, pos, neg_ℤ, Bool, true, false, cond, ◌&&◌, nat_lt, int_le, IsTrue, List, [], ◌∷◌, ◌++◌, length, take, get_or, slice_get, Some, refl, sym, ap, subst, ◌∙◌, add-one, arith}
use Rattle.std.specs.Prelude.{flat_map, slice_index_or}
use Rattle.std.specs.List.{zip}
use Rattle.std.specs.List.Sorted.{IsStrictlyIncreasing}
use Rattle.std.proofs.lemmas.Int.{ints}
use Rattle.std.proofs.lemmas.Bool.{ltb-true, ltb-false}
use Rattle.std.proofs.lemmas.List.{flat_map_more, append-nil}
use Rattle.std.proofs.Math.Seq.{take-suc}
use Rattle.std.proofs.lemmas.Option.{slice_get_within, get_or_from_slice_get, slice_get-get_or}
use Rattle.std.proofs.lemmas.Slice.Zip.{length-zip, get_or-zip}
use Rattle.drm_arm.specs.declared.arm.Link.{Link}
use Rattle.drm_arm.specs.Arm.{IsArm, no_link, has_limits}
use Rattle.drm_arm.specs.Config.{IsConfig, allows}
use Rattle.drm_grid.specs.Layout.{Layout, IsGrid, cell_count}
use Rattle.drm_talk.specs.declared.Element.{Element}
use Rattle.drm_talk.specs.declared.Element.TheVariants.{Node, Edge}
use Rattle.drm_road.specs.Elements.{element_count, element_at}
use Rattle.drm_cellmap.specs.Roadmap.{Roadmap, IsRoadmap, IsElement, IsSweep, place_of, stored}
use Rattle.drm_mapfile.specs.Elements.{IsShort, AreShort}

-- one more value
pub put_more : {X : Type 0} (f : X → List ℕ) (xs : List X) (k : ℕ) (x : X) (start old new : List ℕ) → slice_get xs k ≡ Some x → old ≡ start ++ flat_map f (take k xs) → new ≡ old ++ f x → new ≡ start ++ flat_map f (take (k + 1) xs)
put_more {X} f xs k x start old new is so_far more =
    let inside : k < length xs = slice_get_within xs k x is in
    let value : get_or xs k x ≡ x = get_or_from_slice_get xs k x x is in
    let longer : take (k + 1) xs ≡ take k xs ++ x ∷ [] = rw add-one (take-suc xs k x inside ∙ ap (λ (y : X). take k xs ++ y ∷ []) value) in
    more ∙ ap (λ (t : List ℕ). t ++ f x) so_far ∙ flat_map_more f start (take k xs) x ∙ ap (λ (ys : List X). start ++ flat_map f ys) (sym longer)

pub put_none : {X : Type 0} (f : X → List ℕ) (xs : List X) (start : List ℕ) → start ≡ start ++ flat_map f (take 0 xs)
put_none f [] start = sym (append-nil start)
put_none f (x ∷ xs) start = sym (append-nil start)

take_whole : {X : Type 0} (xs : List X) (k : ℕ) → length xs ≤ k → take k xs ≡ xs
take_whole [] zero h = refl
take_whole [] (suc k) h = refl
take_whole (x ∷ xs) zero h = absurd (omega arith)
take_whole {X} (x ∷ xs) (suc k) h = ap (λ (ys : List X). x ∷ ys) (take_whole xs k (omega arith))

pub put_all : {X : Type 0} (f : X → List ℕ) (xs : List X) (k : ℕ) (start now : List ℕ) → length xs ≤ k → now ≡ start ++ flat_map f (take k xs) → now ≡ start ++ flat_map f xs
put_all {X} f xs k start now past so_far = so_far ∙ ap (λ (ys : List X). start ++ flat_map f ys) (take_whole xs k past)

-- ---- the bounds of what is written

between_limits : (lo hi v : ℤ) → (int_le (neg_ℤ (pos 4096)) lo && int_le hi (pos 4096) && int_le lo hi) ≡ true → (int_le lo v && int_le v hi) ≡ true → IsShort v
between_limits lo hi v h k = record { least = grind (arith, ints); greatest = grind (arith, ints) }

pub config_short : (links : List Link) (values : List ℤ) → IsArm links → IsConfig links values → AreShort values
config_short links values arm config k a is_value =
    let in_values : k < length values = slice_get_within values k a is_value in
    let in_links : k < length links = omega (arith, config.counted) in
    let in_zip : k < length (zip links values) = omega (arith, length-zip links values, config.counted) in
    let limits : IsTrue (has_limits (get_or links k no_link)) = arm.limits k no_link in_links in
    let pair : get_or (zip links values) k (no_link, a) ≡ (get_or links k no_link, get_or values k a) = get_or-zip links values k (no_link, a) in_links in_values in
    let within : IsTrue (allows (get_or links k no_link) (get_or values k a)) =
    subst (λ (p : Link × ℤ). IsTrue (allows p.0 p.1)) pair (config.within k (no_link, a) in_zip) in
    let value : get_or values k a ≡ a = get_or_from_slice_get values k a a is_value in
    let link = get_or links k no_link in
    between_limits link.lo link.hi a limits (subst (λ (v : ℤ). IsTrue (allows link v)) value within)

pub node_short : (map : Roadmap) (i : ℕ) (node : List ℤ) → IsRoadmap map → slice_get (map.road).nodes i ≡ Some node → AreShort node
node_short map i node is at =
    let inside = slice_get_within (map.road).nodes i node at in
    let value = get_or_from_slice_get (map.road).nodes i node node at in
    config_short map.arm node is.arm (subst (IsConfig map.arm) value (is.nodes i node inside))

-- a list that rises below a bound is no longer than it
rises : (cells : List ℕ) → IsStrictlyIncreasing cells → (k : ℕ) → k < length cells → k ≤ get_or cells k 0
rises cells rise zero inside = omega arith
rises cells rise (suc k) inside =
    let before = rises cells rise k (omega arith) in
    let step = rise k (omega arith) in
    let same : k + 1 ≡ suc k = omega arith in
    let up : get_or cells k 0 < get_or cells (suc k) 0 = subst (λ (j : ℕ). get_or cells k 0 < get_or cells j 0) same step in
    omega arith

pub sweep_few : (grid : Layout) (cells : List ℕ) → IsSweep grid cells → length cells ≤ cell_count grid
sweep_few grid [] sweep = omega arith
sweep_few grid (c ∷ cells) sweep =
    let last = rises (c ∷ cells) sweep.increasing (length cells) (omega arith) in
    let inside : get_or (c ∷ cells) (length cells) 0 < cell_count grid = sweep.in_grid (length cells) 0 (omega arith) in
    omega arith

square_small : (n : ℕ) → n ≤ 128 → n * n ≤ 16384
square_small n h = grind arith

pub sweep_short : (grid : Layout) (cells : List ℕ) → IsGrid grid → IsSweep grid cells → length cells < 2 ^ 16
sweep_short grid cells is sweep = let small = square_small grid.n is.n.most in omega (arith, sweep_few grid cells sweep)

-- ---- the elements by their places

-- the element at a place is there, and its place is this one
pub record IsAt (map : Roadmap) (place : ℕ) (e : Element) : Type 0 where
  pub there : IsElement map e
  pub place_is : place_of map e ≡ place

pub element_there : (map : Roadmap) (place : ℕ) → place < element_count map.road → IsAt map place (element_at map.road place)
element_there map place inside = at (nat_lt place (length (map.road).nodes)) refl where
  at : (b : Bool) → nat_lt place (length (map.road).nodes) ≡ b → IsAt map place (cond b (Node place) (Edge (place - length (map.road).nodes)))
  at true is = record { there = ltb-true place (length (map.road).nodes) is; place_is = refl }
  at false is = let past = ltb-false place (length (map.road).nodes) is in record { there = omega arith; place_is = omega arith }

-- the sweep that is stored for the element at a place
pub stored_at : (map : Roadmap) (place : ℕ) (e : Element) → IsRoadmap map → IsAt map place e → place < element_count map.road → slice_get map.sweeps place ≡ Some (stored map e)
stored_at map place e is at inside =
    let within : place < length map.sweeps = omega (arith, is.one_each) in
    slice_get-get_or map.sweeps place [] within ∙ ap (λ (k : ℕ). Some (slice_index_or map.sweeps k [])) (sym at.place_is)
