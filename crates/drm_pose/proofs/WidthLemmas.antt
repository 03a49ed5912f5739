-- How far the boxes of a pose reach.
use Rattle.std.proofs.Common.{◌≡◌, ℕ, zero, suc, ◌^◌, ℤ, pos, neg_ℤ, ◌+ℤ◌, ◌*ℤ◌, ◌≤ℤ◌, List, [], ◌∷◌, slice_get, Some, refl, sym, subst, arith}
use Rattle.std.proofs.lemmas.Int.{ints}
use Rattle.std.proofs.lemmas.Option.{same_Some}
use Rattle.std.proofs.lemmas.List.Sums.{sum_by-cons}
use Rattle.drm_num.specs.Interval.{Interval, EndsWithin, unit}
use Rattle.drm_num.specs.Arithmetic.{common_part, unit_interval, product_sum, product_difference}
use Rattle.drm_half.specs.Turned.{cosine_interval, sine_interval}
use Rattle.drm_num.proofs.Integers.{distrib_right, min_second, max_second}
use Rattle.drm_num.proofs.Sizes.{EndsWithin-wider, EndsWithin-sum, EndsWithin-scaled}
use Rattle.drm_arm.specs.declared.arm.Link.{Link}
use Rattle.drm_arm.specs.declared.config.Motion.{Motion}
use Rattle.drm_arm.specs.Arm.{IsArm, reach_of}
use Rattle.drm_pose.specs.declared.boxes.Plate.{Plate}
use Rattle.drm_pose.specs.declared.boxes.LinkBox.{LinkBox}
use Rattle.drm_pose.specs.Boxes.{Span, spans, spans_between, joint_interval, turned_box, scaled_box, moved_box, link_box, boxes_from, first_axis, origin, pose_of}
use Rattle.drm_pose.specs.Widths.{IsPlateWithin, IsLinkBox, IsPose}
use Rattle.drm_pose.proofs.EndLemmas.{spans_of}

pub IsPlateWithin-wider : {m n : ℤ} {box : Plate} → m ≤ℤ n → IsPlateWithin m box → IsPlateWithin n box
IsPlateWithin-wider h w = record { x = EndsWithin-wider h w.x; y = EndsWithin-wider h w.y }

pub IsPlateWithin-scaled : (k : ℤ) {m : ℤ} {box : Plate} → pos 0 ≤ℤ k → IsPlateWithin m box → IsPlateWithin (k *ℤ m) (scaled_box k box)
IsPlateWithin-scaled k h w = record { x = EndsWithin-scaled k h w.x; y = EndsWithin-scaled k h w.y }

pub IsPlateWithin-moved : {m n : ℤ} {a b : Plate} → IsPlateWithin m a → IsPlateWithin n b → IsPlateWithin (m +ℤ n) (moved_box a b)
IsPlateWithin-moved h k = record { x = EndsWithin-sum h.x k.x; y = EndsWithin-sum h.y k.y }

-- a turned box lies between -1 and 1
cut_within : (a : Interval) → EndsWithin unit (common_part a unit_interval)
cut_within a = record { low = max_second a.lo (neg_ℤ unit); high = min_second a.hi unit }

pub IsPlateWithin-turned : (box : Plate) (t : Interval) → IsPlateWithin unit (turned_box box t)
IsPlateWithin-turned box t = record {
  x = cut_within (product_difference box.x (cosine_interval t) box.y (sine_interval t));
  y = cut_within (product_sum box.x (sine_interval t) box.y (cosine_interval t));
}

-- the displacement along a link lies within the link's length
pub IsPlateWithin-shift : (direction tip : Plate) (span : Span) → pos 0 ≤ℤ span.len → IsPlateWithin (span.len *ℤ unit) (link_box direction tip span).shift
IsPlateWithin-shift direction tip span up = IsPlateWithin-scaled span.len up (IsPlateWithin-turned direction span.tangents)

-- so its end lies within the sum of the lengths so far
pub IsPlateWithin-tip : (far : ℤ) (direction tip : Plate) (span : Span) → pos 0 ≤ℤ span.len → IsPlateWithin (far *ℤ unit) tip → IsPlateWithin ((far +ℤ span.len) *ℤ unit) (link_box direction tip span).tip
IsPlateWithin-tip far direction tip span up h =
    subst (λ (t : ℤ). IsPlateWithin t (link_box direction tip span).tip) (sym (distrib_right far span.len unit)) (IsPlateWithin-moved h (IsPlateWithin-shift direction tip span up))

-- no length is negative
abbrev pub AllUp : List Span → Type 0
AllUp [] = Unit {0}
AllUp (span ∷ rest) = (pos 0 ≤ℤ span.len) × AllUp rest

-- the sum of the lengths
abbrev pub total : List Span → ℤ
total [] = pos 0
total (span ∷ rest) = span.len +ℤ total rest

pub total_up : (rest : List Span) → AllUp rest → pos 0 ≤ℤ total rest
total_up [] h = omega (arith, ints)
total_up (span ∷ rest) h = omega (arith, ints, h.0, total_up rest h.1)

IsPose-boxes_from : (rest : List Span) (far : ℤ) (direction tip : Plate) → pos 0 ≤ℤ far → AllUp rest → (far +ℤ total rest) ≤ℤ pos 4096 → IsPlateWithin (far *ℤ unit) tip → IsPose (boxes_from direction tip rest)
IsPose-boxes_from [] far direction tip far_up up near h = tt
IsPose-boxes_from (span ∷ rest) far direction tip far_up up near h =
    let rest_up = total_up rest up.1 in
    let next = IsPlateWithin-tip far direction tip span up.0 h in
    let limit : (far *ℤ unit) ≤ℤ pos (2 ^ 42) = omega (arith, ints, up.0) in
    let length_limit : (span.len *ℤ unit) ≤ℤ pos (2 ^ 42) = omega (arith, ints, up.0) in
    let next_limit : ((far +ℤ span.len) *ℤ unit) ≤ℤ pos (2 ^ 42) = omega (arith, ints, up.0) in (
      record {
        base = IsPlateWithin-wider limit h;
        shift = IsPlateWithin-wider length_limit (IsPlateWithin-shift direction tip span up.0);
        tip = IsPlateWithin-wider next_limit next;
        moved = refl;
      },
      IsPose-boxes_from rest (far +ℤ span.len) _ _ (omega (arith, ints, up.0)) up.1 (omega (arith, ints)) next,
    )

-- the spans of an arm
pub AllUp-spans_between : (links : List Link) (from to : List ℤ) (depth index : ℕ) → AllUp (spans_between links from to depth index)
AllUp-spans_between [] from to depth index = tt
AllUp-spans_between (link ∷ links) [] to depth index = tt
AllUp-spans_between (link ∷ links) (a ∷ starts) [] depth index = tt
AllUp-spans_between (link ∷ links) (a ∷ starts) (b ∷ ends) depth index = (omega (arith, ints), AllUp-spans_between links starts ends depth index)

pub total-spans_between : (links : List Link) (from to : List ℤ) (depth index : ℕ) → total (spans_between links from to depth index) ≤ℤ pos (reach_of links)
total-spans_between [] from to depth index = omega (arith, ints)
total-spans_between (link ∷ links) [] to depth index = omega (arith, ints)
total-spans_between (link ∷ links) (a ∷ starts) [] depth index = omega (arith, ints)
total-spans_between (link ∷ links) (a ∷ starts) (b ∷ ends) depth index =
    omega (arith, ints, total-spans_between links starts ends depth index, sum_by-cons (λ (l : Link). l.len) link links)

pub AllUp-spans_of : (links : List Link) (starts ends : List ℤ) → AllUp (spans_of links starts ends)
AllUp-spans_of [] starts ends = tt
AllUp-spans_of (link ∷ links) [] ends = tt
AllUp-spans_of (link ∷ links) (a ∷ starts) [] = tt
AllUp-spans_of (link ∷ links) (a ∷ starts) (b ∷ ends) = (omega (arith, ints), AllUp-spans_of links starts ends)

pub total-spans_of : (links : List Link) (starts ends : List ℤ) → total (spans_of links starts ends) ≤ℤ pos (reach_of links)
total-spans_of [] starts ends = omega (arith, ints)
total-spans_of (link ∷ links) [] ends = omega (arith, ints)
total-spans_of (link ∷ links) (a ∷ starts) [] = omega (arith, ints)
total-spans_of (link ∷ links) (a ∷ starts) (b ∷ ends) =
    omega (arith, ints, total-spans_of links starts ends, sum_by-cons (λ (l : Link). l.len) link links)

pub origin_within : IsPlateWithin (pos 0 *ℤ unit) origin
origin_within = record { x = record { low = omega (arith, ints); high = omega (arith, ints) }; y = record { low = omega (arith, ints); high = omega (arith, ints) } }

-- the boxes between two ends
pub IsPose-between : (links : List Link) (starts ends : List ℤ) → IsArm links → IsPose (boxes_from first_axis origin (spans_of links starts ends))
IsPose-between links starts ends arm =
    IsPose-boxes_from (spans_of links starts ends) (pos 0) first_axis origin (omega (arith, ints)) (AllUp-spans_of links starts ends)
    (omega (arith, ints, total-spans_of links starts ends, arm.reach)) origin_within

-- the boxes of a pose
pub IsPose-pose_of : (links : List Link) (motion : Motion) (depth index : ℕ) → IsArm links → IsPose (pose_of links motion depth index)
unfolding pose_of
IsPose-pose_of links motion depth index arm =
    IsPose-boxes_from (spans links motion depth index) (pos 0) first_axis origin (omega (arith, ints)) (AllUp-spans_between links motion.from motion.to depth index)
    (omega (arith, ints, total-spans_between links motion.from motion.to depth index, arm.reach)) origin_within

shift_at : (links : List Link) (from to : List ℤ) (depth index k : ℕ) (direction tip : Plate) (link : Link) (box : LinkBox) → slice_get links k ≡ Some link → slice_get (boxes_from direction tip (spans_between links from to depth index)) k ≡ Some box → IsPlateWithin (pos link.len *ℤ unit) box.shift
shift_at [] from to depth index k direction tip link box is_link is_box = cc
shift_at (l ∷ links) [] to depth index k direction tip link box is_link is_box = cc
shift_at (l ∷ links) (a ∷ starts) [] depth index k direction tip link box is_link is_box = cc
shift_at (l ∷ links) (a ∷ starts) (b ∷ ends) depth index zero direction tip link box is_link is_box =
    let up : pos 0 ≤ℤ pos l.len = omega (arith, ints) in
    rw (← same_Some l link is_link, ← same_Some _ box is_box) (IsPlateWithin-shift direction tip (record { len = pos l.len; tangents = joint_interval a b depth index }) up)
shift_at (l ∷ links) (a ∷ starts) (b ∷ ends) depth index (suc k) direction tip link box is_link is_box =
    shift_at links starts ends depth index k _ _ link box is_link is_box

-- the displacement of each link lies within the link's length
pub shift-long : (links : List Link) (motion : Motion) (depth index k : ℕ) (link : Link) (box : LinkBox) → slice_get links k ≡ Some link → slice_get (pose_of links motion depth index) k ≡ Some box → IsPlateWithin (pos link.len *ℤ unit) box.shift
unfolding pose_of
shift-long links motion depth index k link box = shift_at links motion.from motion.to depth index k first_axis origin link box

-- the boxes of the link with a number
pub pose_at : (boxes : List LinkBox) (k : ℕ) (box : LinkBox) → IsPose boxes → slice_get boxes k ≡ Some box → IsLinkBox box
pose_at [] k box h is_box = cc
pose_at (b ∷ boxes) zero box h is_box = subst IsLinkBox (same_Some b box is_box) h.0
pose_at (b ∷ boxes) (suc k) box h is_box = pose_at boxes k box h.1 is_box
