-- How wide the boxes of a pose are where a motion is cut in 2^20 pieces.
use Rattle.std.proofs.Common.{◌≡◌, ℕ, zero, suc, ◌+◌, ◌*◌, ◌≤◌, ◌^◌, ℤ, pos, ◌+ℤ◌, ◌-ℤ◌, ◌*ℤ◌, ◌≤ℤ◌, ◌<ℤ◌, List, [], ◌∷◌, length, slice_get, Some, refl, sym, subst, arith}
use Rattle.std.proofs.lemmas.Int.{ints}
use Rattle.std.specs.Int.{int_max}
use Rattle.std.specs.List.{fold}
use Rattle.drm_num.specs.Interval.{Interval, IsOrdered, EndsWithin, unit}
use Rattle.drm_num.specs.Arithmetic.{sum, scaled, hull, width, product_sum, product_difference, unit_interval, least_product, greatest_product}
use Rattle.drm_num.proofs.Integers.{trans, le_self, along, keeps, comm, distrib, zero_times, max_below}
use Rattle.drm_num.proofs.IntervalLemmas.{Lies-ordered}
use Rattle.drm_num.proofs.Sizes.{width-sum, width-scaled, width-common_part, width-product_sum, width-product_difference, products-width, rounded-width, IsOrdered-hull}
use Rattle.drm_num.proofs.Ring.{Var, Lit, Sum, Prod, Neg, ring}
use Rattle.drm_half.specs.Turned.{cosine_interval, sine_interval}
use Rattle.drm_half.proofs.TurnLemmas.{IsOrdered-cosine_interval, IsOrdered-sine_interval, EndsWithin-cosine_interval, EndsWithin-sine_interval}
use Rattle.drm_half.proofs.WidthLemmas.{width-cosine_interval, width-sine_interval}
use Rattle.drm_arm.specs.declared.arm.Link.{Link}
use Rattle.drm_arm.specs.declared.config.Motion.{Motion}
use Rattle.drm_arm.specs.Arm.{IsArm}
use Rattle.drm_arm.specs.Motion.{IsMotion}
use Rattle.drm_pose.specs.declared.boxes.Plate.{Plate}
use Rattle.drm_pose.specs.declared.boxes.LinkBox.{LinkBox}
use Rattle.drm_pose.specs.Boxes.{exactly, tangent_at, joint_interval, Span, spans, spans_between, first_axis, origin, turned_box, link_box, boxes_from, pose_of, tip_width, spread_of}
use Rattle.drm_pose.specs.Chain.{base}
use Rattle.drm_pose.specs.Enclosure.{HoldsDirection}
use Rattle.drm_pose.specs.Laws.{DeepPosesAreLeaves}
use Rattle.drm_num.specs.Small.{IsSmall}
use Rattle.drm_pose.specs.Widths.{IsPlateWithin, IsNarrow}
use Rattle.drm_pose.proofs.ContainmentLemmas.{HoldsDirection-turned}
use Rattle.drm_pose.proofs.DirectionLemmas.{IsUnit-base}
use Rattle.drm_pose.proofs.EnclosureLemmas.{base_direction}
use Rattle.drm_pose.proofs.LimitLemmas.{coordinate_small}
use Rattle.drm_pose.proofs.SpanLemmas.{length-spans_between}
use Rattle.drm_pose.proofs.WidthLemmas.{total, total-spans_between, IsPlateWithin-turned}

-- ---- the tangents of a joint

-- the tangents over one of 2^20 pieces
narrow_ends : (a b : ℤ) → IsSmall (pos 8192) (b -ℤ a) → width (hull (exactly a) (exactly b)) ≤ℤ pos 8192
narrow_ends a b h = grind (arith, ints)

tangents_apart : (from to : ℤ) (index : ℕ) → tangent_at from to 20 (index + 1) -ℤ tangent_at from to 20 index ≡ to -ℤ from
tangents_apart from to index =
    let a = Var 0 in
    let b = Var 1 in
    let i = Var 2 in
    let step = Sum b (Neg a) in
    let whole = Prod a (Lit (pos 1048576)) in
    ring (from ∷ to ∷ pos index ∷ []) (Sum (Prod (Sum whole (Prod step (Sum i (Lit (pos 1))))) (Lit (pos 1))) (Neg (Prod (Sum whole (Prod step i)) (Lit (pos 1))))) step refl

width-joint_interval : (from to : ℤ) (index : ℕ) → IsSmall (pos 4096) from → IsSmall (pos 4096) to → width (joint_interval from to 20 index) ≤ℤ pos 8192
width-joint_interval from to index from_in to_in =
    let apart = tangents_apart from to index in
    let small : IsSmall (pos 8192) (tangent_at from to 20 (index + 1) -ℤ tangent_at from to 20 index) =
    subst (IsSmall (pos 8192)) (sym apart) (record { low = omega (arith, ints, from_in.low, from_in.high, to_in.low, to_in.high); high = omega (arith, ints, from_in.low, from_in.high, to_in.low, to_in.high) }) in
    narrow_ends (tangent_at from to 20 index) (tangent_at from to 20 (index + 1)) small

-- ---- one turn

-- the cosines and sines of narrow tangents
turn_width : (t : Interval) → IsOrdered t → width t ≤ℤ pos 8192 → (width (cosine_interval t) ≤ℤ pos 16386) × (width (sine_interval t) ≤ℤ pos 16386)
turn_width t ordered h = (omega (arith, ints, width-cosine_interval t ordered), omega (arith, ints, width-sine_interval t ordered))

-- a direction that is w wide is at most 2w + 32,773 wide after a turn
IsNarrow-turned : (w : ℤ) (box : Plate) (t : Interval) → IsOrdered t → width t ≤ℤ pos 8192 → HoldsDirection box → IsPlateWithin unit box → IsNarrow w box → IsNarrow ((w +ℤ w) +ℤ pos 32773) (turned_box box t)
IsNarrow-turned w box t ordered narrow some within h =
    let turn = turn_width t ordered narrow in
    let x_ordered = Lies-ordered some.inside.x in
    let y_ordered = Lies-ordered some.inside.y in
    let cosine_ordered = IsOrdered-cosine_interval t ordered in
    let sine_ordered = IsOrdered-sine_interval t ordered in
    let cosine_in = EndsWithin-cosine_interval t in
    let sine_in = EndsWithin-sine_interval t in
    let before_x = width-product_difference box.x (cosine_interval t) box.y (sine_interval t) x_ordered cosine_ordered y_ordered sine_ordered within.x cosine_in within.y sine_in in
    let before_y = width-product_sum box.x (sine_interval t) box.y (cosine_interval t) x_ordered sine_ordered y_ordered cosine_ordered within.x sine_in within.y cosine_in in
    let cut_x = width-common_part (product_difference box.x (cosine_interval t) box.y (sine_interval t)) unit_interval in
    let cut_y = width-common_part (product_sum box.x (sine_interval t) box.y (cosine_interval t)) unit_interval in
    record {
      x = trans cut_x (trans before_x (omega (arith, ints, turn.0, turn.1, h.x, h.y)));
      y = trans cut_y (trans before_y (omega (arith, ints, turn.0, turn.1, h.x, h.y)));
    }

-- ---- the first turn, of the first axis

zero_products : (s : Interval) → (least_product (exactly (pos 0)) s ≡ pos 0) × (greatest_product (exactly (pos 0)) s ≡ pos 0)
zero_products s = (rw (zero_times s.lo, zero_times s.hi) refl, rw (zero_times s.lo, zero_times s.hi) refl)

unit_within : EndsWithin unit (exactly unit)
unit_within = record { low = omega (arith, ints); high = omega (arith, ints) }

first_products : (t : Interval) → IsOrdered t → EndsWithin unit t → greatest_product (exactly unit) t ≤ℤ (least_product (exactly unit) t +ℤ (unit *ℤ width t))
first_products t ordered within =
    let apart = products-width (exactly unit) t (omega (arith, ints)) ordered unit_within within in
    let flat : width (exactly unit) +ℤ width t ≡ width t = omega (arith, ints) in
    subst (λ (w : ℤ). greatest_product (exactly unit) t ≤ℤ (least_product (exactly unit) t +ℤ (unit *ℤ w))) flat apart

-- the first direction is nearly as narrow as the turn
IsNarrow-first : (t : Interval) → IsOrdered t → width t ≤ℤ pos 8192 → IsNarrow (pos 16387) (turned_box first_axis t)
unfolding product_sum product_difference
IsNarrow-first t ordered narrow =
    let turn = turn_width t ordered narrow in
    let above : pos 0 <ℤ unit = omega (arith, ints) in
    let cosines = cosine_interval t in
    let sines = sine_interval t in
    let across = first_products cosines (IsOrdered-cosine_interval t ordered) (EndsWithin-cosine_interval t) in
    let up = first_products sines (IsOrdered-sine_interval t ordered) (EndsWithin-sine_interval t) in
    let no_sines = zero_products sines in
    let no_cosines = zero_products cosines in
    let x = rounded-width unit (least_product (exactly unit) cosines -ℤ greatest_product (exactly (pos 0)) sines) (greatest_product (exactly unit) cosines -ℤ least_product (exactly (pos 0)) sines) (width cosines) above
    (rw (no_sines.0, no_sines.1) (omega (arith, ints, across))) in
    let y = rounded-width unit (least_product (exactly unit) sines +ℤ least_product (exactly (pos 0)) cosines) (greatest_product (exactly unit) sines +ℤ greatest_product (exactly (pos 0)) cosines) (width sines) above
    (rw (no_cosines.0, no_cosines.1) (omega (arith, ints, up))) in
    record {
      x = trans (width-common_part (product_difference (exactly unit) cosines (exactly (pos 0)) sines) unit_interval) (trans x (omega (arith, ints, turn.0)));
      y = trans (width-common_part (product_sum (exactly unit) sines (exactly (pos 0)) cosines) unit_interval) (trans y (omega (arith, ints, turn.1)));
    }

-- ---- from joint to joint

-- the width of a direction after n more turns
grown : ℤ → ℕ → ℤ
grown w zero = w
grown w (suc n) = grown ((w +ℤ w) +ℤ pos 32773) n

grown_up : (w : ℤ) (n : ℕ) → pos 0 ≤ℤ w → w ≤ℤ grown w n
unfolding grown
grown_up w zero h = omega (arith, ints)
grown_up w (suc n) h =
    let next : pos 0 ≤ℤ ((w +ℤ w) +ℤ pos 32773) = omega (arith, ints) in
    omega (arith, ints, grown_up ((w +ℤ w) +ℤ pos 32773) n next)

grown_more : (w : ℤ) (n m : ℕ) → pos 0 ≤ℤ w → n ≤ m → grown w n ≤ℤ grown w m
unfolding grown
grown_more w zero m h k = grown_up w m h
grown_more w (suc n) zero h k = absurd (omega arith)
grown_more w (suc n) (suc m) h k =
    let next : pos 0 ≤ℤ ((w +ℤ w) +ℤ pos 32773) = omega (arith, ints) in
    grown_more ((w +ℤ w) +ℤ pos 32773) n m next (omega arith)

-- five turns after the first
grown_five : grown (pos 16387) 5 ≡ pos 1540347
unfolding grown
grown_five = refl

-- the spans are ordered, narrow and of no negative length
abbrev AllNarrow : List Span → Type 0
AllNarrow [] = Unit {0}
AllNarrow (span ∷ rest) = ((pos 0 ≤ℤ span.len) × IsOrdered span.tangents × (width span.tangents ≤ℤ pos 8192)) × AllNarrow rest

-- each link's end is at most so many ulps wide
abbrev AllTips : ℤ → List LinkBox → Type 0
AllTips w [] = Unit {0}
AllTips w (box ∷ boxes) = (tip_width box ≤ℤ w) × AllTips w boxes

-- the end of a link, from the direction's width and the width so far
tip_next : (far len w most : ℤ) (from shift : Interval) → pos 0 ≤ℤ len → w ≤ℤ most → width from ≤ℤ (most *ℤ far) → width shift ≤ℤ w → width (sum from (scaled len shift)) ≤ℤ (most *ℤ (far +ℤ len))
tip_next far len w most from shift up limit h k =
    let direction : width shift ≤ℤ most = trans k limit in
    let longer : (len *ℤ width shift) ≤ℤ (len *ℤ most) = keeps len up direction in
    omega (arith, ints, width-sum from (scaled len shift), width-scaled len shift, longer, distrib most far len, comm most len)

-- a link's box
IsNarrow-tip : (far w most : ℤ) (direction tip : Plate) (span : Span) → pos 0 ≤ℤ span.len → w ≤ℤ most → IsNarrow w (turned_box direction span.tangents) → IsNarrow (most *ℤ far) tip → IsNarrow (most *ℤ (far +ℤ span.len)) (link_box direction tip span).tip
IsNarrow-tip far w most direction tip span up limit h k = record {
  x = tip_next far span.len w most tip.x (turned_box direction span.tangents).x up limit k.x h.x;
  y = tip_next far span.len w most tip.y (turned_box direction span.tangents).y up limit k.y h.y;
}

-- so far and no further
within_reach : (most far reach : ℤ) (box : LinkBox) → pos 0 ≤ℤ most → far ≤ℤ reach → IsNarrow (most *ℤ far) box.tip → tip_width box ≤ℤ (most *ℤ reach)
within_reach most far reach box up near h = max_below (trans h.x (keeps most up near)) (trans h.y (keeps most up near))

total_narrow : (rest : List Span) → AllNarrow rest → pos 0 ≤ℤ total rest
total_narrow [] h = omega (arith, ints)
total_narrow (span ∷ rest) h = omega (arith, ints, h.0.0, total_narrow rest h.1)

narrow_from : (rest : List Span) (w most far reach : ℤ) (direction tip : Plate) → pos 0 ≤ℤ w → grown w (length rest) ≤ℤ most → (far +ℤ total rest) ≤ℤ reach → AllNarrow rest → HoldsDirection direction → IsPlateWithin unit direction → IsNarrow w direction → IsNarrow (most *ℤ far) tip → AllTips (most *ℤ reach) (boxes_from direction tip rest)
unfolding grown
narrow_from [] w most far reach direction tip w_up limit near narrow some within h k = tt
narrow_from (span ∷ rest) w most far reach direction tip w_up limit near narrow some within h k =
    let next = (w +ℤ w) +ℤ pos 32773 in
    let next_up : pos 0 ≤ℤ next = omega (arith, ints) in
    let next_in : next ≤ℤ most = trans (grown_up next (length rest) next_up) limit in
    let most_up : pos 0 ≤ℤ most = trans next_up next_in in
    let len_up = narrow.0.0 in
    let turned = IsNarrow-turned w direction span.tangents narrow.0.1 narrow.0.2 some within h in
    let tip_narrow = IsNarrow-tip far next most direction tip span len_up next_in turned k in
    let rest_up = total_narrow rest narrow.1 in
    let near_tip : (far +ℤ span.len) ≤ℤ reach = omega (arith, ints) in (
      within_reach most (far +ℤ span.len) reach (link_box direction tip span) most_up near_tip tip_narrow,
      narrow_from rest next most (far +ℤ span.len) reach _ _ next_up limit (omega (arith, ints)) narrow.1 (HoldsDirection-turned direction span.tangents narrow.0.1 some) (IsPlateWithin-turned direction span.tangents) turned tip_narrow,
    )

-- ---- a whole pose

-- the first axis is a direction, and the origin has no width
pub first_direction : HoldsDirection first_axis
first_direction = record { chain = base; is_unit = IsUnit-base; inside = base_direction }

origin_narrow : (most : ℤ) → IsNarrow (most *ℤ pos 0) origin
origin_narrow most = record { x = omega (arith, ints, comm most (pos 0), zero_times most); y = omega (arith, ints, comm most (pos 0), zero_times most) }

-- the ends of at most six links
tips_narrow : (rest : List Span) → length rest ≤ 6 → total rest ≤ℤ pos 4096 → AllNarrow rest → AllTips (pos 1540347 *ℤ pos 4096) (boxes_from first_axis origin rest)
tips_narrow [] few near narrow = tt
tips_narrow (span ∷ rest) few near narrow =
    let most = pos 1540347 in
    let first = IsNarrow-first span.tangents narrow.0.1 narrow.0.2 in
    let first_up : pos 0 ≤ℤ pos 16387 = omega (arith, ints) in
    let first_in : pos 16387 ≤ℤ most = omega (arith, ints) in
    let most_up : pos 0 ≤ℤ most = omega (arith, ints) in
    let limit : grown (pos 16387) (length rest) ≤ℤ most = along refl grown_five (grown_more (pos 16387) (length rest) 5 first_up (omega arith)) in
    let tip_narrow = IsNarrow-tip (pos 0) (pos 16387) most first_axis origin span narrow.0.0 first_in first (origin_narrow most) in
    let rest_up = total_narrow rest narrow.1 in
    let near_tip : (pos 0 +ℤ span.len) ≤ℤ pos 4096 = omega (arith, ints) in (
      within_reach most (pos 0 +ℤ span.len) (pos 4096) (link_box first_axis origin span) most_up near_tip tip_narrow,
      narrow_from rest (pos 16387) most (pos 0 +ℤ span.len) (pos 4096) _ _ first_up limit (omega (arith, ints)) narrow.1 (HoldsDirection-turned first_axis span.tangents narrow.0.1 first_direction) (IsPlateWithin-turned first_axis span.tangents) first tip_narrow,
    )

-- the greatest of widths that are all within a bound
most_within : (w most : ℤ) (boxes : List LinkBox) → most ≤ℤ w → AllTips w boxes → fold (λ most box. int_max most (tip_width box)) most boxes ≤ℤ w
most_within w most [] h k = h
most_within w most (box ∷ boxes) h k = most_within w (int_max most (tip_width box)) boxes (max_below h k.0) k.1

-- the spans of a motion that is cut in 2^20 pieces
AllNarrow-spans_between : (links : List Link) (from to : List ℤ) (index : ℕ) → ((k : ℕ) (a : ℤ) → slice_get from k ≡ Some a → IsSmall (pos 4096) a) → ((k : ℕ) (b : ℤ) → slice_get to k ≡ Some b → IsSmall (pos 4096) b) → AllNarrow (spans_between links from to 20 index)
AllNarrow-spans_between [] from to index from_in to_in = tt
AllNarrow-spans_between (link ∷ links) [] to index from_in to_in = tt
AllNarrow-spans_between (link ∷ links) (a ∷ starts) [] index from_in to_in = tt
AllNarrow-spans_between (link ∷ links) (a ∷ starts) (b ∷ ends) index from_in to_in = (
  (omega (arith, ints), IsOrdered-hull (exactly (tangent_at a b 20 index)) (exactly (tangent_at a b 20 (index + 1))) (le_self (tangent_at a b 20 index)), width-joint_interval a b index (from_in 0 a refl) (to_in 0 b refl)),
  AllNarrow-spans_between links starts ends index (λ k x. from_in (suc k) x) (λ k x. to_in (suc k) x),
)

-- the spread where a motion is cut in 2^20 pieces
spread_at_twenty : (links : List Link) (motion : Motion) (index : ℕ) → IsArm links → IsMotion links motion → spread_of (pose_of links motion 20 index) ≤ℤ (pos 1540347 *ℤ pos 4096)
unfolding pose_of
spread_at_twenty links motion index arm fits =
    let few : length (spans links motion 20 index) ≤ 6 = omega (arith, length-spans_between links motion.from motion.to 20 index fits.from.counted fits.to.counted, arm.few) in
    let near : total (spans links motion 20 index) ≤ℤ pos 4096 = omega (arith, ints, total-spans_between links motion.from motion.to 20 index, arm.reach) in
    let narrow = AllNarrow-spans_between links motion.from motion.to index (λ k a. coordinate_small links motion.from k a arm fits.from) (λ k b. coordinate_small links motion.to k b arm fits.to) in
    most_within (pos 1540347 *ℤ pos 4096) (pos 0) _ (omega (arith, ints)) (tips_narrow (spans links motion 20 index) few near narrow)

-- it is below seven units
pub spread-deep : (links : List Link) (motion : Motion) (depth index : ℕ) → IsArm links → IsMotion links motion → depth ≡ 20 → spread_of (pose_of links motion depth index) <ℤ pos (7 * 2 ^ 30)
spread-deep links motion depth index arm fits h =
    subst (λ (n : ℕ). spread_of (pose_of links motion n index) <ℤ pos (7 * 2 ^ 30)) (sym h)
    (let bound = spread_at_twenty links motion index arm fits in omega (arith, ints, bound))

-- so it is below a sixteenth of the side of every grid
pub deep_is_leaf : DeepPosesAreLeaves
deep_is_leaf links motion index side arm fits wide =
    let deep = spread_at_twenty links motion index arm fits in
    omega (arith, ints, deep)
