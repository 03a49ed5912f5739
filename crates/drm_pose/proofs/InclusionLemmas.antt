-- A smaller piece of a motion gives smaller boxes, and so do the pieces of its links.
use Rattle.std.proofs.Common.{◌≡◌, ℕ, zero, suc, ◌+◌, ◌-◌, ◌*◌, ◌^◌, ◌≤◌, ◌<◌, ℤ, pos, ◌+ℤ◌, ◌-ℤ◌, ◌*ℤ◌, ◌≤ℤ◌, ◌<ℤ◌, List, [], ◌∷◌, refl, ap, ◌∙◌, arith}
use Rattle.std.proofs.lemmas.Int.{ints, clamps}
use Rattle.std.proofs.lemmas.Nat.{pow-add}
use Rattle.std.proofs.lemmas.Option.{same_Some}
use Rattle.drm_num.specs.Interval.{Interval}
use Rattle.drm_num.specs.Arithmetic.{hull, unit_interval}
use Rattle.drm_num.specs.Inclusion.{IsIncluded}
use Rattle.drm_num.proofs.Integers.{keeps_right, sums, min_rises, max_rises}
use Rattle.drm_num.proofs.Ring.{Poly, Var, Lit, Sum, Prod, Neg, ring}
use Rattle.drm_num.proofs.Rounding.{floor_rises, ceiling_rises}
use Rattle.drm_num.proofs.InclusionLemmas.{included_sum, included_multiple, included_common_part, included_product_sum, included_product_difference}
use Rattle.drm_half.specs.Laws.{CosinesKeepInclusion, SinesKeepInclusion}
use Rattle.drm_arm.specs.declared.arm.Link.{Link}
use Rattle.drm_arm.specs.declared.config.Motion.{Motion}
use Rattle.drm_pose.specs.declared.boxes.Plate.{Plate}
use Rattle.drm_pose.specs.declared.boxes.LinkBox.{LinkBox}
use Rattle.drm_pose.specs.Boxes.{exactly, tangent_at, joint_interval, spans_between, first_axis, origin, turned_box, scaled_box, moved_box, link_box, boxes_from, pose_of, parts_of, piece_of, run_of}
use Rattle.drm_pose.specs.Enclosure.{HoldsDirection}
use Rattle.drm_pose.specs.Widths.{IsInside, IsLinkInside, IsPoseInside}
use Rattle.drm_pose.specs.Laws.{HalvesAreInside, PiecesKeepInclusion, RunsKeepInclusion}
use Rattle.drm_pose.proofs.ContainmentLemmas.{some_overlap_x, some_overlap_y, HoldsDirection-turned}
use Rattle.drm_pose.proofs.EndLemmas.{tangent_halved}
use Rattle.drm_pose.proofs.SpreadLemmas.{first_direction}

-- ---- the tangents of a half

midway : (a b m i k : ℤ) → pos 2 *ℤ (((a *ℤ (pos 2 *ℤ m)) +ℤ ((b -ℤ a) *ℤ ((pos 2 *ℤ i) +ℤ pos 1))) *ℤ k) ≡ (((a *ℤ m) +ℤ ((b -ℤ a) *ℤ i)) *ℤ (pos 2 *ℤ k)) +ℤ (((a *ℤ m) +ℤ ((b -ℤ a) *ℤ (i +ℤ pos 1))) *ℤ (pos 2 *ℤ k))
midway a b m i k =
    let from = Var 0 in
    let to = Var 1 in
    let pieces = Var 2 in
    let place = Var 3 in
    let scale = Var 4 in
    let one = Lit (pos 1) in
    let two = Lit (pos 2) in
    let at : Poly → Poly = λ moment. Prod (Sum (Prod from pieces) (Prod (Sum to (Neg from)) moment)) (Prod two scale) in
    ring (a ∷ b ∷ m ∷ i ∷ k ∷ [])
    (Prod two (Prod (Sum (Prod from (Prod two pieces)) (Prod (Sum to (Neg from)) (Sum (Prod two place) one))) scale))
    (Sum (at place) (at (Sum place one))) refl

-- where a piece is halved, the tangent is midway between those at its ends
tangent_midway : (a b : ℤ) (depth i : ℕ) → depth < 20 → pos 2 *ℤ tangent_at a b (depth + 1) (2 * i + 1) ≡ tangent_at a b depth i +ℤ tangent_at a b depth (i + 1)
tangent_midway a b depth i below =
    let rest : 20 - depth ≡ (20 - (depth + 1)) + 1 = omega arith in
    let pieces : pos (2 ^ (depth + 1)) ≡ pos 2 *ℤ pos (2 ^ depth) = omega (arith, ints, pow-add 2 depth 1) in
    let scale : pos (2 ^ (20 - depth)) ≡ pos 2 *ℤ pos (2 ^ (20 - (depth + 1))) = ap (λ (e : ℕ). pos (2 ^ e)) rest ∙ (omega (arith, ints, pow-add 2 (20 - (depth + 1)) 1)) in
    let place : pos (2 * i + 1) ≡ (pos 2 *ℤ pos i) +ℤ pos 1 = omega (arith, ints) in
    let next : pos (i + 1) ≡ pos i +ℤ pos 1 = omega (arith, ints) in
    rw (pieces, scale, place, next) (midway a b (pos (2 ^ depth)) (pos i) (pos (2 ^ (20 - (depth + 1)))))

-- what lies between an end and the middle lies between the ends
first_half : (start middle first second : ℤ) → start ≡ first → pos 2 *ℤ middle ≡ first +ℤ second → IsIncluded (hull (exactly start) (exactly middle)) (hull (exactly first) (exactly second))
first_half start middle first second is_first mid = record { low = omega (arith, ints, clamps); ordered = omega (arith, ints, clamps); high = omega (arith, ints, clamps) }

second_half : (middle end first second : ℤ) → end ≡ second → pos 2 *ℤ middle ≡ first +ℤ second → IsIncluded (hull (exactly middle) (exactly end)) (hull (exactly first) (exactly second))
second_half middle end first second is_second mid = record { low = omega (arith, ints, clamps); ordered = omega (arith, ints, clamps); high = omega (arith, ints, clamps) }

-- the tangents of every joint over a piece lie in those over another piece
abbrev pub TangentsAreIncluded : ℕ → ℕ → ℕ → ℕ → Type 0
TangentsAreIncluded inner_depth inner depth index = (a b : ℤ) → IsIncluded (joint_interval a b inner_depth inner) (joint_interval a b depth index)

tangents_first : (depth i : ℕ) → depth < 20 → TangentsAreIncluded (depth + 1) (2 * i) depth i
tangents_first depth i below a b =
    first_half (tangent_at a b (depth + 1) (2 * i)) (tangent_at a b (depth + 1) (2 * i + 1)) (tangent_at a b depth i) (tangent_at a b depth (i + 1))
    (tangent_halved a b depth i below) (tangent_midway a b depth i below)

tangents_second : (depth i : ℕ) → depth < 20 → TangentsAreIncluded (depth + 1) (2 * i + 1) depth i
tangents_second depth i below a b =
    let next : 2 * i + 1 + 1 ≡ 2 * (i + 1) = omega arith in
    second_half (tangent_at a b (depth + 1) (2 * i + 1)) (tangent_at a b (depth + 1) (2 * i + 1 + 1)) (tangent_at a b depth i) (tangent_at a b depth (i + 1))
    (ap (λ (j : ℕ). tangent_at a b (depth + 1) j) next ∙ tangent_halved a b depth (i + 1) below) (tangent_midway a b depth i below)

-- ---- the boxes of one link

-- both coordinates of the inner box lie in those of the outer one
record IsPlateIncluded (inner outer : Plate) : Type 0 where
  x : IsIncluded inner.x outer.x
  y : IsIncluded inner.y outer.y

inside_of : {inner outer : Plate} → IsPlateIncluded inner outer → IsInside inner outer
inside_of h = record { left = h.x.low; right = h.x.high; down = h.y.low; up = h.y.high }

unit_itself : IsIncluded unit_interval unit_interval
unit_itself = record { low = omega (arith, ints); ordered = omega (arith, ints); high = omega (arith, ints) }

turned_included : CosinesKeepInclusion → SinesKeepInclusion → (inner outer : Plate) (t u : Interval) → HoldsDirection inner → IsPlateIncluded inner outer → IsIncluded t u → IsPlateIncluded (turned_box inner t) (turned_box outer u)
turned_included cosines sines inner outer t u some h k =
    let c = cosines t u k in
    let s = sines t u k in
    record {
      x = included_common_part _ unit_interval _ unit_interval (some_overlap_x inner t k.ordered some) (included_product_difference _ _ _ _ _ _ _ _ h.x c h.y s) unit_itself;
      y = included_common_part _ unit_interval _ unit_interval (some_overlap_y inner t k.ordered some) (included_product_sum _ _ _ _ _ _ _ _ h.x s h.y c) unit_itself;
    }

scaled_included : (len : ℤ) (inner outer : Plate) → pos 0 ≤ℤ len → IsPlateIncluded inner outer → IsPlateIncluded (scaled_box len inner) (scaled_box len outer)
scaled_included len inner outer up h = record { x = included_multiple len inner.x outer.x up h.x; y = included_multiple len inner.y outer.y up h.y }

moved_included : (a b A B : Plate) → IsPlateIncluded a A → IsPlateIncluded b B → IsPlateIncluded (moved_box a b) (moved_box A B)
moved_included a b A B h k = record { x = included_sum a.x b.x A.x B.x h.x k.x; y = included_sum a.y b.y A.y B.y h.y k.y }

-- the boxes of one link more
record IsLinkIncluded (inner outer : LinkBox) : Type 0 where
  direction : IsPlateIncluded inner.direction outer.direction
  base : IsPlateIncluded inner.base outer.base
  shift : IsPlateIncluded inner.shift outer.shift
  tip : IsPlateIncluded inner.tip outer.tip

link_inside : {inner outer : LinkBox} → IsLinkIncluded inner outer → IsLinkInside inner outer
link_inside h = record { direction = inside_of h.direction; base = inside_of h.base; shift = inside_of h.shift; tip = inside_of h.tip }

link_included : CosinesKeepInclusion → SinesKeepInclusion → (direction tip direction' tip' : Plate) (len : ℤ) (t u : Interval) → pos 0 ≤ℤ len → HoldsDirection direction → IsPlateIncluded direction direction' → IsPlateIncluded tip tip' → IsIncluded t u →
    IsLinkIncluded (link_box direction tip (record { len = len; tangents = t })) (link_box direction' tip' (record { len = len; tangents = u }))
link_included cosines sines direction tip direction' tip' len t u up some in_direction in_tip in_tangents =
    let turned = turned_included cosines sines direction direction' t u some in_direction in_tangents in
    let shift = scaled_included len _ _ up turned in
    record { direction = turned; base = in_tip; shift = shift; tip = moved_included _ _ _ _ in_tip shift }

-- ---- the boxes of all links

inside_at : CosinesKeepInclusion → SinesKeepInclusion → (links : List Link) (from to : List ℤ) (inner_depth inner depth index : ℕ) → TangentsAreIncluded inner_depth inner depth index → (direction tip direction' tip' : Plate) → HoldsDirection direction → IsPlateIncluded direction direction' → IsPlateIncluded tip tip' →
    IsPoseInside (boxes_from direction tip (spans_between links from to inner_depth inner)) (boxes_from direction' tip' (spans_between links from to depth index))
inside_at cosines sines [] from to inner_depth inner depth index narrower direction tip direction' tip' some in_direction in_tip k small large is_small is_large = cc
inside_at cosines sines (l ∷ links) [] to inner_depth inner depth index narrower direction tip direction' tip' some in_direction in_tip k small large is_small is_large = cc
inside_at cosines sines (l ∷ links) (a ∷ starts) [] inner_depth inner depth index narrower direction tip direction' tip' some in_direction in_tip k small large is_small is_large = cc
inside_at cosines sines (l ∷ links) (a ∷ starts) (b ∷ ends) inner_depth inner depth index narrower direction tip direction' tip' some in_direction in_tip zero small large is_small is_large =
    let here = link_included cosines sines direction tip direction' tip' (pos l.len) _ _ (omega (arith, ints)) some in_direction in_tip (narrower a b) in
    rw (← same_Some _ small is_small, ← same_Some _ large is_large) (link_inside here)
inside_at cosines sines (l ∷ links) (a ∷ starts) (b ∷ ends) inner_depth inner depth index narrower direction tip direction' tip' some in_direction in_tip (suc k) small large is_small is_large =
    let here = link_included cosines sines direction tip direction' tip' (pos l.len) _ _ (omega (arith, ints)) some in_direction in_tip (narrower a b) in
    inside_at cosines sines links starts ends inner_depth inner depth index narrower _ _ _ _
    (HoldsDirection-turned direction (joint_interval a b inner_depth inner) (narrower a b).ordered some) here.direction here.tip k small large is_small is_large

first_axis_itself : IsPlateIncluded first_axis first_axis
first_axis_itself = record {
  x = record { low = omega (arith, ints); ordered = omega (arith, ints); high = omega (arith, ints) };
  y = record { low = omega (arith, ints); ordered = omega (arith, ints); high = omega (arith, ints) };
}

origin_itself : IsPlateIncluded origin origin
origin_itself = record {
  x = record { low = omega (arith, ints); ordered = omega (arith, ints); high = omega (arith, ints) };
  y = record { low = omega (arith, ints); ordered = omega (arith, ints); high = omega (arith, ints) };
}

pose_inside : CosinesKeepInclusion → SinesKeepInclusion → (links : List Link) (motion : Motion) (inner_depth inner depth index : ℕ) → TangentsAreIncluded inner_depth inner depth index → IsPoseInside (pose_of links motion inner_depth inner) (pose_of links motion depth index)
unfolding pose_of
pose_inside cosines sines links motion inner_depth inner depth index narrower =
    inside_at cosines sines links motion.from motion.to inner_depth inner depth index narrower first_axis origin first_axis origin first_direction first_axis_itself origin_itself

pub halves_inside : CosinesKeepInclusion → SinesKeepInclusion → HalvesAreInside
halves_inside cosines sines links motion depth index below = (
  pose_inside cosines sines links motion (depth + 1) (2 * index) depth index (tangents_first depth index below),
  pose_inside cosines sines links motion (depth + 1) (2 * index + 1) depth index (tangents_second depth index below),
)

-- ---- pieces of links

parts_inside : (from shift outer_from outer_shift : Interval) (p q n : ℕ) → 1 ≤ n → outer_from.lo ≤ℤ from.lo → from.hi ≤ℤ outer_from.hi → outer_shift.lo ≤ℤ shift.lo → shift.hi ≤ℤ outer_shift.hi →
    ((parts_of outer_from outer_shift p q n).lo ≤ℤ (parts_of from shift p q n).lo) × ((parts_of from shift p q n).hi ≤ℤ (parts_of outer_from outer_shift p q n).hi)
parts_inside from shift outer_from outer_shift p q n some from_low from_high shift_low shift_high =
    let above : pos 0 <ℤ pos n = omega (arith, ints) in
    let p_up : pos 0 ≤ℤ pos p = omega (arith, ints) in
    let q_up : pos 0 ≤ℤ pos q = omega (arith, ints) in
    let least = min_rises (outer_shift.lo *ℤ pos p) (outer_shift.lo *ℤ pos q) (shift.lo *ℤ pos p) (shift.lo *ℤ pos q) (keeps_right (pos p) p_up shift_low) (keeps_right (pos q) q_up shift_low) in
    let greatest = max_rises (shift.hi *ℤ pos p) (shift.hi *ℤ pos q) (outer_shift.hi *ℤ pos p) (outer_shift.hi *ℤ pos q) (keeps_right (pos p) p_up shift_high) (keeps_right (pos q) q_up shift_high) in
    (sums from_low (floor_rises _ _ (pos n) above least), sums from_high (ceiling_rises _ _ (pos n) above greatest))

pub runs_inside : RunsKeepInclusion
unfolding run_of
runs_inside inner outer p q n some h =
    let across = parts_inside inner.base.x inner.shift.x outer.base.x outer.shift.x p q n some h.base.left h.base.right h.shift.left h.shift.right in
    let upward = parts_inside inner.base.y inner.shift.y outer.base.y outer.shift.y p q n some h.base.down h.base.up h.shift.down h.shift.up in
    record { left = across.0; right = across.1; down = upward.0; up = upward.1 }

pub pieces_inside : PiecesKeepInclusion
unfolding piece_of run_of
pieces_inside inner outer p n some h = runs_inside inner outer p (p + 1) n some h
