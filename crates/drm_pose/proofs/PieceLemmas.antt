-- A piece's box holds the points of the link's axis, and it is narrow where the link is cut in enough pieces.
use Rattle.std.proofs.Common.{◌≡◌, ℕ, ◌+◌, ◌*◌, ◌≤◌, ◌<◌, inl, inr, ℤ, pos, neg_ℤ, ◌+ℤ◌, ◌-ℤ◌, ◌*ℤ◌, ◌≤ℤ◌, ◌<ℤ◌, List, [], ◌∷◌, length, take, get_or, slice_get, Option, Some, refl, sym, ap, ◌∙◌, subst, arith, mul_assoc, ◌^◌, FitsSigned, w64, to_z, of_z, to_z-of_z}
use Rattle.std.proofs.lemmas.Int.{ints}
use Rattle.std.proofs.Math.Nat.{le_refl}
use Rattle.std.specs.Int.{int_min, int_max}
use Rattle.drm_num.specs.Interval.{Interval, IsOrdered, EndsWithin, Lies, unit}
use Rattle.drm_num.specs.Arithmetic.{sum, width}
use Rattle.drm_num.specs.Quotient.{floor, ceiling}
use Rattle.drm_num.proofs.Integers.{along, le_self, comm, distrib, max_below, trans, sums, keeps, keeps_right, turns, cancels, le_of_lt_z, sign, product_not_negative, product_above_zero, min_first, min_second, max_first, max_second, min_is, negated_left, min_above}
use Rattle.drm_num.proofs.Sizes.{rounded-order, rounded-width, width-sum}
use Rattle.drm_num.proofs.Rounding.{floor_above, ceiling_below, IsFloor-floor, IsCeiling-ceiling}
use lib.IntN.{+ℤ_idl}
use Rattle.drm_num.proofs.Ring.{Var, Lit, Sum, Prod, Neg, ring}
use Rattle.drm_pose.specs.declared.boxes.LinkBox.{LinkBox}
use Rattle.std.specs.Option.{unwrap_or}
use Rattle.std.proofs.lemmas.Option.{slice_get_within, slice_get-get_or}
use Rattle.drm_pose.specs.Boxes.{parts_of, part_of, piece_of, run_of, pose_of}
use Rattle.drm_pose.specs.Chain.{Joint, Chain, turn_bottom, chain_of, axis_point, axis_of}
use Rattle.drm_pose.specs.Enclosure.{LiesIn, HoldsLink, Encloses, IsInPart}
use Rattle.drm_pose.specs.Laws.{PartsHoldTheAxis}
use Rattle.drm_pose.specs.Moment.{denominator, joints_at}
use Rattle.drm_num.specs.Small.{IsSmall}
use Rattle.drm_pose.specs.Widths.{IsPlateWithin, IsLinkBox, IsInside}
use Rattle.drm_pose.proofs.DirectionLemmas.{turn_bottom_above}
use Rattle.drm_pose.proofs.EnclosureLemmas.{poses_enclose}

-- ---- what a piece's box holds

-- q / 1 is at most both ends of the piece's share of lo: then at most each share e / f between p / n and (p + 1) / n
share_low : (lo q n p e f : ℤ) → pos 0 <ℤ n → pos 0 ≤ℤ f → (p *ℤ f) ≤ℤ (e *ℤ n) → (e *ℤ n) ≤ℤ ((p +ℤ pos 1) *ℤ f) → (q *ℤ n) ≤ℤ (lo *ℤ p) → (q *ℤ n) ≤ℤ (lo *ℤ (p +ℤ pos 1)) → (q *ℤ f) ≤ℤ (e *ℤ lo)
share_low lo q n p e f above not_negative after before first second =
    let x = Var 0 in
    let y = Var 1 in
    let z = Var 2 in
    let regroup : (a b c : ℤ) → (a *ℤ b) *ℤ c ≡ a *ℤ (b *ℤ c) = λ a b c. ring (a ∷ b ∷ c ∷ []) (Prod (Prod x y) z) (Prod x (Prod y z)) refl in
    let start : (q *ℤ n) *ℤ f ≡ n *ℤ (q *ℤ f) = ring (q ∷ n ∷ f ∷ []) (Prod (Prod x y) z) (Prod y (Prod x z)) refl in
    let end : lo *ℤ (e *ℤ n) ≡ n *ℤ (e *ℤ lo) = ring (lo ∷ e ∷ n ∷ []) (Prod x (Prod y z)) (Prod z (Prod y x)) refl in
    let scaled : ((q *ℤ n) *ℤ f) ≤ℤ (lo *ℤ (e *ℤ n)) = elim (sign lo) [
      | inl s ↦ trans (along refl (regroup lo p f) (keeps_right f not_negative first)) (keeps lo s after)
      | inr s ↦ trans (along refl (regroup lo (p +ℤ pos 1) f) (keeps_right f not_negative second)) (turns lo s before)
    ] in
    cancels n above (along start end scaled)

share_high : (hi q n p e f : ℤ) → pos 0 <ℤ n → pos 0 ≤ℤ f → (p *ℤ f) ≤ℤ (e *ℤ n) → (e *ℤ n) ≤ℤ ((p +ℤ pos 1) *ℤ f) → (hi *ℤ p) ≤ℤ (q *ℤ n) → (hi *ℤ (p +ℤ pos 1)) ≤ℤ (q *ℤ n) → (e *ℤ hi) ≤ℤ (q *ℤ f)
share_high hi q n p e f above not_negative after before first second =
    let x = Var 0 in
    let y = Var 1 in
    let z = Var 2 in
    let regroup : (a b c : ℤ) → (a *ℤ b) *ℤ c ≡ a *ℤ (b *ℤ c) = λ a b c. ring (a ∷ b ∷ c ∷ []) (Prod (Prod x y) z) (Prod x (Prod y z)) refl in
    let end : (q *ℤ n) *ℤ f ≡ n *ℤ (q *ℤ f) = ring (q ∷ n ∷ f ∷ []) (Prod (Prod x y) z) (Prod y (Prod x z)) refl in
    let start : hi *ℤ (e *ℤ n) ≡ n *ℤ (e *ℤ hi) = ring (hi ∷ e ∷ n ∷ []) (Prod x (Prod y z)) (Prod z (Prod y x)) refl in
    let scaled : (hi *ℤ (e *ℤ n)) ≤ℤ ((q *ℤ n) *ℤ f) = elim (sign hi) [
      | inl s ↦ trans (keeps hi s before) (along (regroup hi (p +ℤ pos 1) f) refl (keeps_right f not_negative second))
      | inr s ↦ trans (turns hi s after) (along (regroup hi p f) refl (keeps_right f not_negative first))
    ] in
    cancels n above (along start end scaled)

-- the bound of a base and a share of the displacement bounds the axis point; u is one in ulps
axis_low : (u base q shift f e px d t m : ℤ) → pos 0 ≤ℤ e → pos 0 ≤ℤ f → pos 0 ≤ℤ t → pos 0 ≤ℤ (d *ℤ t) → (base *ℤ d) ≤ℤ (u *ℤ px) → (shift *ℤ (d *ℤ t)) ≤ℤ (u *ℤ m) → (q *ℤ f) ≤ℤ (e *ℤ shift) → ((base +ℤ q) *ℤ (f *ℤ (d *ℤ t))) ≤ℤ (u *ℤ ((f *ℤ (t *ℤ px)) +ℤ (e *ℤ m)))
axis_low u base q shift f e px d t m e_up f_up t_up bottom_up in_base in_shift share =
    let a = Var 0 in
    let b = Var 1 in
    let c = Var 2 in
    let g = Var 3 in
    let h = Var 4 in
    let first : ((f *ℤ t) *ℤ (base *ℤ d)) ≤ℤ ((f *ℤ t) *ℤ (u *ℤ px)) = keeps (f *ℤ t) (product_not_negative f_up t_up) in_base in
    let second : ((q *ℤ f) *ℤ (d *ℤ t)) ≤ℤ ((e *ℤ shift) *ℤ (d *ℤ t)) = keeps_right (d *ℤ t) bottom_up share in
    let third : (e *ℤ (shift *ℤ (d *ℤ t))) ≤ℤ (e *ℤ (u *ℤ m)) = keeps e e_up in_shift in
    let regroup : (e *ℤ shift) *ℤ (d *ℤ t) ≡ e *ℤ (shift *ℤ (d *ℤ t)) = ring (e ∷ shift ∷ d ∷ t ∷ []) (Prod (Prod a b) (Prod c g)) (Prod a (Prod b (Prod c g))) refl in
    let left : ((f *ℤ t) *ℤ (base *ℤ d)) +ℤ ((q *ℤ f) *ℤ (d *ℤ t)) ≡ (base +ℤ q) *ℤ (f *ℤ (d *ℤ t)) =
    ring (f ∷ t ∷ base ∷ d ∷ q ∷ []) (Sum (Prod (Prod a b) (Prod c g)) (Prod (Prod h a) (Prod g b))) (Prod (Sum c h) (Prod a (Prod g b))) refl in
    let right : ((f *ℤ t) *ℤ (u *ℤ px)) +ℤ (e *ℤ (u *ℤ m)) ≡ u *ℤ ((f *ℤ (t *ℤ px)) +ℤ (e *ℤ m)) =
    ring (f ∷ t ∷ u ∷ px ∷ e ∷ m ∷ []) (Sum (Prod (Prod a b) (Prod c g)) (Prod h (Prod c (Var 5)))) (Prod c (Sum (Prod a (Prod b g)) (Prod h (Var 5)))) refl in
    along left right (sums first (trans second (along (sym regroup) refl third)))

axis_high : (u base q shift f e px d t m : ℤ) → pos 0 ≤ℤ e → pos 0 ≤ℤ f → pos 0 ≤ℤ t → pos 0 ≤ℤ (d *ℤ t) → (u *ℤ px) ≤ℤ (base *ℤ d) → (u *ℤ m) ≤ℤ (shift *ℤ (d *ℤ t)) → (e *ℤ shift) ≤ℤ (q *ℤ f) → (u *ℤ ((f *ℤ (t *ℤ px)) +ℤ (e *ℤ m))) ≤ℤ ((base +ℤ q) *ℤ (f *ℤ (d *ℤ t)))
axis_high u base q shift f e px d t m e_up f_up t_up bottom_up in_base in_shift share =
    let a = Var 0 in
    let b = Var 1 in
    let c = Var 2 in
    let g = Var 3 in
    let h = Var 4 in
    let first : ((f *ℤ t) *ℤ (u *ℤ px)) ≤ℤ ((f *ℤ t) *ℤ (base *ℤ d)) = keeps (f *ℤ t) (product_not_negative f_up t_up) in_base in
    let second : ((e *ℤ shift) *ℤ (d *ℤ t)) ≤ℤ ((q *ℤ f) *ℤ (d *ℤ t)) = keeps_right (d *ℤ t) bottom_up share in
    let third : (e *ℤ (u *ℤ m)) ≤ℤ (e *ℤ (shift *ℤ (d *ℤ t))) = keeps e e_up in_shift in
    let regroup : (e *ℤ shift) *ℤ (d *ℤ t) ≡ e *ℤ (shift *ℤ (d *ℤ t)) = ring (e ∷ shift ∷ d ∷ t ∷ []) (Prod (Prod a b) (Prod c g)) (Prod a (Prod b (Prod c g))) refl in
    let right : ((f *ℤ t) *ℤ (base *ℤ d)) +ℤ ((q *ℤ f) *ℤ (d *ℤ t)) ≡ (base +ℤ q) *ℤ (f *ℤ (d *ℤ t)) =
    ring (f ∷ t ∷ base ∷ d ∷ q ∷ []) (Sum (Prod (Prod a b) (Prod c g)) (Prod (Prod h a) (Prod g b))) (Prod (Sum c h) (Prod a (Prod g b))) refl in
    let left : ((f *ℤ t) *ℤ (u *ℤ px)) +ℤ (e *ℤ (u *ℤ m)) ≡ u *ℤ ((f *ℤ (t *ℤ px)) +ℤ (e *ℤ m)) =
    ring (f ∷ t ∷ u ∷ px ∷ e ∷ m ∷ []) (Sum (Prod (Prod a b) (Prod c g)) (Prod h (Prod c (Var 5)))) (Prod c (Sum (Prod a (Prod b g)) (Prod h (Var 5)))) refl in
    along left right (sums first (trans (along refl (sym regroup) third) second))

-- one coordinate of an axis point lies in the piece's interval
Lies-part : (px d t m : ℤ) (from shift : Interval) (p n e f : ℕ) → 1 ≤ n → pos 0 <ℤ t → IsInPart p n e f → Lies (record { top = px; bottom = d }) from → Lies (record { top = m; bottom = d *ℤ t }) shift →
    Lies (record { top = (pos f *ℤ (t *ℤ px)) +ℤ (pos e *ℤ m); bottom = pos f *ℤ (d *ℤ t) }) (part_of from shift p n)
Lies-part px d t m from shift p n e f cut above part in_from in_shift =
    let n_above : pos 0 <ℤ pos n = omega (arith, ints) in
    let f_above : pos 0 <ℤ pos f = omega (arith, ints, part.proper) in
    let e_up : pos 0 ≤ℤ pos e = omega (arith, ints) in
    let after : (pos p *ℤ pos f) ≤ℤ (pos e *ℤ pos n) = omega (arith, ints, part.after) in
    let before : (pos e *ℤ pos n) ≤ℤ ((pos p +ℤ pos 1) *ℤ pos f) = omega (arith, ints, part.before) in
    let least = int_min (shift.lo *ℤ pos p) (shift.lo *ℤ pos (p + 1)) in
    let most = int_max (shift.hi *ℤ pos p) (shift.hi *ℤ pos (p + 1)) in
    let down : (floor least (pos n) *ℤ pos n) ≤ℤ least = (IsFloor-floor least (pos n) n_above).at_most in
    let up : most ≤ℤ (ceiling most (pos n) *ℤ pos n) = (IsCeiling-ceiling most (pos n) n_above).at_least in
    let low = share_low shift.lo (floor least (pos n)) (pos n) (pos p) (pos e) (pos f) n_above (le_of_lt_z f_above) after before (trans down (min_first _ _)) (trans down (min_second _ _)) in
    let high = share_high shift.hi (ceiling most (pos n)) (pos n) (pos p) (pos e) (pos f) n_above (le_of_lt_z f_above) after before (trans (max_first _ _) up) (trans (max_second _ _) up) in
    record {
      proper = product_above_zero f_above in_shift.proper;
      above = axis_low unit from.lo (floor least (pos n)) shift.lo (pos f) (pos e) px d t m e_up (le_of_lt_z f_above) (le_of_lt_z above) (le_of_lt_z in_shift.proper) in_from.above in_shift.above low;
      below = axis_high unit from.hi (ceiling most (pos n)) shift.hi (pos f) (pos e) px d t m e_up (le_of_lt_z f_above) (le_of_lt_z above) (le_of_lt_z in_shift.proper) in_from.below in_shift.below high;
    }

-- the piece's box holds the points of the link's axis
pub piece-holds : (box : LinkBox) (d : ℤ) (c : Chain) (j : Joint) (p n e f : ℕ) → pos 0 <ℤ d → 1 ≤ n → HoldsLink d c j box → IsInPart p n e f → LiesIn (axis_point d c j e f) (piece_of box p n)
unfolding piece_of
piece-holds box d c j p n e f above cut h part =
    let turn = turn_bottom_above d j.n above in
    record {
      x = Lies-part c.px c.d (turn_bottom d j.n) _ box.base.x box.shift.x p n e f cut turn part h.base.x h.shift.x;
      y = Lies-part c.py c.d (turn_bottom d j.n) _ box.base.y box.shift.y p n e f cut turn part h.base.y h.shift.y;
    }

-- so where boxes hold an arm, the box of a part of link k holds the points of the link's axis
pub part-holds : (boxes : List LinkBox) (d : ℤ) (joints : List Joint) (k : ℕ) (box : LinkBox) (p n e f : ℕ) → pos 0 <ℤ d → 1 ≤ n → Encloses boxes d joints → slice_get boxes k ≡ Some box → IsInPart p n e f → LiesIn (axis_of d joints k e f) (piece_of box p n)
part-holds boxes d joints k box p n e f above cut encloses is_box part =
    let below : k < length joints = omega (arith, slice_get_within boxes k box is_box, encloses.each) in
    let blank : Joint = record { len = pos 0; n = pos 0 } in
    let is_joint : slice_get joints k ≡ Some (get_or joints k blank) = slice_get-get_or joints k blank below in
    subst (λ (o : Option Joint). LiesIn (axis_point d (chain_of d (take k joints)) (unwrap_or o blank) e f) (piece_of box p n)) (sym is_joint)
    (piece-holds box d (chain_of d (take k joints)) (get_or joints k blank) p n e f above cut (encloses.holds k (get_or joints k blank) box is_joint is_box) part)

pub parts_hold_the_axis : PartsHoldTheAxis
parts_hold_the_axis links motion depth index m k box p n e f fits shallow in_piece is_box cut part =
    let above : pos 0 <ℤ denominator m = omega (arith, ints, in_piece.moment.proper) in
    part-holds (pose_of links motion depth index) (denominator m) (joints_at links motion m) k box p n e f above cut (poses_enclose links motion depth index fits shallow m in_piece) is_box part

-- ---- sizes

-- the lesser share of the lower end is at most the greater share of the upper end
pub shares_ordered : (lo hi : ℤ) (p q : ℕ) → lo ≤ℤ hi → int_min (lo *ℤ pos p) (lo *ℤ pos q) ≤ℤ int_max (hi *ℤ pos p) (hi *ℤ pos q)
shares_ordered lo hi p q h =
    let up : pos 0 ≤ℤ pos p = omega (arith, ints) in
    trans (min_first _ _) (trans (keeps_right (pos p) up h) (max_first _ _))

-- the interval of a run of pieces is ordered
pub IsOrdered-parts_of : (from shift : Interval) (p q n : ℕ) → 1 ≤ n → IsOrdered from → IsOrdered shift → IsOrdered (parts_of from shift p q n)
IsOrdered-parts_of from shift p q n some ordered_from ordered_shift =
    let above : pos 0 <ℤ pos n = omega (arith, ints) in
    sums ordered_from (rounded-order (pos n) _ _ above (shares_ordered shift.lo shift.hi p q ordered_shift))

-- ---- numbers that passed through 64 bits

-- a quotient, rounded up
pub ceiling_from : (q z n : ℤ) → IsSmall (pos (2 ^ 51)) z → IsSmall (pos (2 ^ 42)) q → q ≡ floor (to_z w64 (of_z w64 (pos 0 -ℤ to_z w64 (of_z w64 z)))) n → to_z w64 (of_z w64 (pos 0 -ℤ to_z w64 (of_z w64 q))) ≡ ceiling z n
ceiling_from q z n h small is_q =
    let fits_z : FitsSigned w64 z = omega (arith, ints, h.low, h.high) in
    let fits_opposite : FitsSigned w64 (pos 0 -ℤ z) = omega (arith, ints, h.low, h.high) in
    let plain : q ≡ floor (pos 0 -ℤ z) n = simp to_z-of_z at is_q in
    let is_floor : q ≡ floor (neg_ℤ z) n = plain ∙ ap (λ (t : ℤ). floor t n) (+ℤ_idl (neg_ℤ z)) in
    let fits_q : FitsSigned w64 q = omega (arith, ints, small.low, small.high) in
    let fits_result : FitsSigned w64 (pos 0 -ℤ q) = omega (arith, ints, small.low, small.high) in
    let result : pos 0 -ℤ q ≡ ceiling z n = +ℤ_idl (neg_ℤ q) ∙ ap neg_ℤ is_floor in
    simp to_z-of_z result

-- the sum of two small numbers
pub sum_from : (a b x y : ℤ) → IsSmall (pos (2 ^ 42)) a → IsSmall (pos (2 ^ 42)) b → a ≡ x → b ≡ y → to_z w64 (of_z w64 (to_z w64 (of_z w64 a) +ℤ to_z w64 (of_z w64 b))) ≡ x +ℤ y
sum_from a b x y small_a small_b is_a is_b =
    let fits_a : FitsSigned w64 a = omega (arith, ints, small_a.low, small_a.high) in
    let fits_b : FitsSigned w64 b = omega (arith, ints, small_b.low, small_b.high) in
    let fits_sum : FitsSigned w64 (a +ℤ b) = omega (arith, ints, small_a.low, small_a.high, small_b.low, small_b.high) in
    let result : a +ℤ b ≡ x +ℤ y = rw (is_a, is_b) refl in
    simp to_z-of_z result

-- ---- how wide a piece's box is

-- the greater share of the upper end above the lesser share of the lower end
shares_apart : (lo hi p n m : ℤ) → lo ≤ℤ hi → neg_ℤ m ≤ℤ lo → hi ≤ℤ m → pos 0 ≤ℤ p → (p +ℤ pos 1) ≤ℤ n → int_max (hi *ℤ p) (hi *ℤ (p +ℤ pos 1)) ≤ℤ (int_min (lo *ℤ p) (lo *ℤ (p +ℤ pos 1)) +ℤ (((hi -ℤ lo) *ℤ n) +ℤ m))
shares_apart lo hi p n m ordered low high p_up p_in =
    let x = Var 0 in
    let y = Var 1 in
    let z = Var 2 in
    let gap : pos 0 ≤ℤ (hi -ℤ lo) = omega (arith, ints) in
    let short : ((hi -ℤ lo) *ℤ p) ≤ℤ ((hi -ℤ lo) *ℤ n) = keeps (hi -ℤ lo) gap (omega (arith, ints)) in
    let long : ((hi -ℤ lo) *ℤ (p +ℤ pos 1)) ≤ℤ ((hi -ℤ lo) *ℤ n) = keeps (hi -ℤ lo) gap p_in in
    let short_is : (hi -ℤ lo) *ℤ p ≡ (hi *ℤ p) -ℤ (lo *ℤ p) = ring (hi ∷ lo ∷ p ∷ []) (Prod (Sum x (Neg y)) z) (Sum (Prod x z) (Neg (Prod y z))) refl in
    let long_is : (hi -ℤ lo) *ℤ (p +ℤ pos 1) ≡ ((hi *ℤ p) +ℤ hi) -ℤ ((lo *ℤ p) +ℤ lo) = ring (hi ∷ lo ∷ p ∷ []) (Prod (Sum x (Neg y)) (Sum z (Lit (pos 1)))) (Sum (Sum (Prod x z) x) (Neg (Sum (Prod y z) y))) refl in
    let hi_is : hi *ℤ (p +ℤ pos 1) ≡ (hi *ℤ p) +ℤ hi = ring (hi ∷ p ∷ []) (Prod x (Sum y (Lit (pos 1)))) (Sum (Prod x y) x) refl in
    let lo_is : lo *ℤ (p +ℤ pos 1) ≡ (lo *ℤ p) +ℤ lo = ring (lo ∷ p ∷ []) (Prod x (Sum y (Lit (pos 1)))) (Sum (Prod x y) x) refl in
    elim (min_is (lo *ℤ p) (lo *ℤ (p +ℤ pos 1))) [
      | inl e ↦
          let first : (hi *ℤ p) ≤ℤ ((lo *ℤ p) +ℤ (((hi -ℤ lo) *ℤ n) +ℤ m)) = omega (arith, ints) in
          let second : (hi *ℤ (p +ℤ pos 1)) ≤ℤ ((lo *ℤ p) +ℤ (((hi -ℤ lo) *ℤ n) +ℤ m)) = omega (arith, ints) in
          rw e (max_below first second)
      | inr e ↦
          let first : (hi *ℤ p) ≤ℤ ((lo *ℤ (p +ℤ pos 1)) +ℤ (((hi -ℤ lo) *ℤ n) +ℤ m)) = omega (arith, ints) in
          let second : (hi *ℤ (p +ℤ pos 1)) ≤ℤ ((lo *ℤ (p +ℤ pos 1)) +ℤ (((hi -ℤ lo) *ℤ n) +ℤ m)) = omega (arith, ints) in
          rw e (max_below first second)
    ]

-- a piece is at most as wide as the base, the displacement and the share s of a link no longer than m, and two ulps
part_width : (from shift : Interval) (p n : ℕ) (m s : ℤ) → p < n → IsOrdered shift → EndsWithin m shift → m ≤ℤ (pos n *ℤ s) → width (part_of from shift p n) ≤ℤ (((width from +ℤ width shift) +ℤ s) +ℤ pos 1)
part_width from shift p n m s below ordered within cut =
    let above : pos 0 <ℤ pos n = omega (arith, ints) in
    let p_up : pos 0 ≤ℤ pos p = omega (arith, ints) in
    let p_in : (pos p +ℤ pos 1) ≤ℤ pos n = omega (arith, ints) in
    let least = int_min (shift.lo *ℤ pos p) (shift.lo *ℤ pos (p + 1)) in
    let greatest = int_max (shift.hi *ℤ pos p) (shift.hi *ℤ pos (p + 1)) in
    let apart = shares_apart shift.lo shift.hi (pos p) (pos n) m ordered within.low within.high p_up p_in in
    let enough : greatest ≤ℤ (least +ℤ (pos n *ℤ (width shift +ℤ s))) = omega (arith, ints, apart, distrib (pos n) (width shift) s, comm (pos n) (width shift)) in
    let rounded = rounded-width (pos n) least greatest (width shift +ℤ s) above enough in
    omega (arith, ints, rounded)

share_of_link : (n len side : ℕ) → 16 * len ≤ n * side → (pos len *ℤ unit) ≤ℤ (pos n *ℤ pos (side * 2 ^ 26))
share_of_link n len side h =
    let regroup : n * (side * 2 ^ 26) ≡ (n * side) * 2 ^ 26 = sym (mul_assoc n side (2 ^ 26)) in
    omega (arith, ints, regroup)

-- where a link's end is as narrow as a leaf asks, and the link is cut in enough pieces
pub leaf_part : (from shift : Interval) (p n len side : ℕ) → p < n → IsOrdered shift → EndsWithin (pos len *ℤ unit) shift → 16 * len ≤ n * side → width (sum from shift) ≤ℤ pos (side * 2 ^ 26) → width (part_of from shift p n) ≤ℤ pos (side * 2 ^ 27 + 2)
leaf_part from shift p n len side below ordered within enough leaf =
    let share : (pos len *ℤ unit) ≤ℤ (pos n *ℤ pos (side * 2 ^ 26)) = share_of_link n len side enough in
    let wide = part_width from shift p n (pos len *ℤ unit) (pos (side * 2 ^ 26)) below ordered within share in
    omega (arith, ints, wide, width-sum from shift, leaf)

-- ---- how far a piece's box reaches

-- a share of a number that is no smaller than -m, and one of a number that is no larger than m
share_above : (z q n m : ℤ) → pos 0 ≤ℤ q → q ≤ℤ n → pos 0 ≤ℤ m → neg_ℤ m ≤ℤ z → (neg_ℤ m *ℤ n) ≤ℤ (z *ℤ q)
share_above z q n m up below m_up h =
    let first : (neg_ℤ m *ℤ q) ≤ℤ (z *ℤ q) = keeps_right q up h in
    let second : (m *ℤ q) ≤ℤ (m *ℤ n) = keeps m m_up below in
    omega (arith, ints, negated_left m q, negated_left m n)

share_below : (z q n m : ℤ) → pos 0 ≤ℤ q → q ≤ℤ n → pos 0 ≤ℤ m → z ≤ℤ m → (z *ℤ q) ≤ℤ (m *ℤ n)
share_below z q n m up below m_up h = trans (keeps_right q up h) (keeps m m_up below)

-- so a share of a number within 4,096 units, and the lesser and the greater of two
pub share_small : (end : ℤ) (p q : ℕ) → p ≤ q → IsSmall (pos (2 ^ 42)) end → IsSmall (pos (2 ^ 42 * q)) (end *ℤ pos p)
share_small end p q within h =
    let up : pos 0 ≤ℤ pos p = omega (arith, ints) in
    let below : pos p ≤ℤ pos q = omega (arith, ints) in
    let limit_up : pos 0 ≤ℤ pos (2 ^ 42) = omega (arith, ints) in
    record {
      low = along (negated_left (pos (2 ^ 42)) (pos q)) refl (share_above end (pos p) (pos q) (pos (2 ^ 42)) up below limit_up h.low);
      high = share_below end (pos p) (pos q) (pos (2 ^ 42)) up below limit_up h.high;
    }

pub least_small : (end : ℤ) (p q : ℕ) → p ≤ q → IsSmall (pos (2 ^ 42)) end → IsSmall (pos (2 ^ 42 * q)) (int_min (end *ℤ pos p) (end *ℤ pos q))
least_small end p q within h =
    let first = share_small end p q within h in
    let second = share_small end q q (le_refl q) h in
    record { low = min_above first.low second.low; high = trans (min_first _ _) first.high }

pub greatest_small : (end : ℤ) (p q : ℕ) → p ≤ q → IsSmall (pos (2 ^ 42)) end → IsSmall (pos (2 ^ 42 * q)) (int_max (end *ℤ pos p) (end *ℤ pos q))
greatest_small end p q within h =
    let first = share_small end p q within h in
    let second = share_small end q q (le_refl q) h in
    record { low = trans first.low (max_first _ _); high = max_below first.high second.high }

parts_within : (from shift : Interval) (p q n : ℕ) (m : ℤ) → p ≤ q → q ≤ n → 1 ≤ n → pos 0 ≤ℤ m → EndsWithin m from → EndsWithin m shift → EndsWithin (m +ℤ m) (parts_of from shift p q n)
parts_within from shift p q n m pieces within some m_up in_from in_shift =
    let above : pos 0 <ℤ pos n = omega (arith, ints) in
    let p_up : pos 0 ≤ℤ pos p = omega (arith, ints) in
    let p_in : pos p ≤ℤ pos n = omega (arith, ints) in
    let q_up : pos 0 ≤ℤ pos q = omega (arith, ints) in
    let q_in : pos q ≤ℤ pos n = omega (arith, ints) in
    let least = int_min (shift.lo *ℤ pos p) (shift.lo *ℤ pos q) in
    let greatest = int_max (shift.hi *ℤ pos p) (shift.hi *ℤ pos q) in
    let low : neg_ℤ m ≤ℤ floor least (pos n) =
    floor_above least (pos n) (neg_ℤ m) above (min_above (share_above shift.lo (pos p) (pos n) m p_up p_in m_up in_shift.low) (share_above shift.lo (pos q) (pos n) m q_up q_in m_up in_shift.low)) in
    let high : ceiling greatest (pos n) ≤ℤ m =
    ceiling_below greatest (pos n) m above (max_below (share_below shift.hi (pos p) (pos n) m p_up p_in m_up in_shift.high) (share_below shift.hi (pos q) (pos n) m q_up q_in m_up in_shift.high)) in
    record { low = omega (arith, ints, low, in_from.low); high = omega (arith, ints, high, in_from.high) }

-- the box of a run of pieces of a link within 4,096 units lies within 8,192 units
pub run-within : (box : LinkBox) (p q n : ℕ) → p ≤ q → q ≤ n → 1 ≤ n → IsLinkBox box → IsPlateWithin (pos (2 ^ 43)) (run_of box p q n)
unfolding run_of
run-within box p q n pieces within some sound =
    let up : pos 0 ≤ℤ pos (2 ^ 42) = omega (arith, ints) in
    record {
      x = parts_within box.base.x box.shift.x p q n (pos (2 ^ 42)) pieces within some up sound.base.x sound.shift.x;
      y = parts_within box.base.y box.shift.y p q n (pos (2 ^ 42)) pieces within some up sound.base.y sound.shift.y;
    }

-- ---- a run of pieces holds each of them

-- a multiple between two multiples
between_low : (z p r q : ℤ) → p ≤ℤ r → r ≤ℤ q → int_min (z *ℤ p) (z *ℤ q) ≤ℤ (z *ℤ r)
between_low z p r q after before = elim (sign z) [ inl s ↦ trans (min_first _ _) (keeps z s after) | inr s ↦ trans (min_second _ _) (turns z s before) ]

between_high : (z p r q : ℤ) → p ≤ℤ r → r ≤ℤ q → (z *ℤ r) ≤ℤ int_max (z *ℤ p) (z *ℤ q)
between_high z p r q after before = elim (sign z) [ inl s ↦ trans (keeps z s before) (max_second _ _) | inr s ↦ trans (turns z s after) (max_first _ _) ]

part_inside : (from shift : Interval) (p q r n : ℕ) → 1 ≤ n → p ≤ r → r < q → ((parts_of from shift p q n).lo ≤ℤ (part_of from shift r n).lo) × ((part_of from shift r n).hi ≤ℤ (parts_of from shift p q n).hi)
part_inside from shift p q r n some after before =
    let above : pos 0 <ℤ pos n = omega (arith, ints) in
    let p_r : pos p ≤ℤ pos r = omega (arith, ints) in
    let r_q : pos r ≤ℤ pos q = omega (arith, ints) in
    let p_next : pos p ≤ℤ pos (r + 1) = omega (arith, ints) in
    let next_q : pos (r + 1) ≤ℤ pos q = omega (arith, ints) in
    let least = int_min (shift.lo *ℤ pos p) (shift.lo *ℤ pos q) in
    let greatest = int_max (shift.hi *ℤ pos p) (shift.hi *ℤ pos q) in
    let least_r = int_min (shift.lo *ℤ pos r) (shift.lo *ℤ pos (r + 1)) in
    let greatest_r = int_max (shift.hi *ℤ pos r) (shift.hi *ℤ pos (r + 1)) in
    let low : least ≤ℤ least_r = min_above (between_low shift.lo (pos p) (pos r) (pos q) p_r r_q) (between_low shift.lo (pos p) (pos (r + 1)) (pos q) p_next next_q) in
    let high : greatest_r ≤ℤ greatest = max_below (between_high shift.hi (pos p) (pos r) (pos q) p_r r_q) (between_high shift.hi (pos p) (pos (r + 1)) (pos q) p_next next_q) in
    let down : floor least (pos n) ≤ℤ floor least_r (pos n) = floor_above least_r (pos n) (floor least (pos n)) above (trans (IsFloor-floor least (pos n) above).at_most low) in
    let up : ceiling greatest_r (pos n) ≤ℤ ceiling greatest (pos n) = ceiling_below greatest_r (pos n) (ceiling greatest (pos n)) above (trans high (IsCeiling-ceiling greatest (pos n) above).at_least) in
    (sums (le_self from.lo) down, sums (le_self from.hi) up)

pub piece_inside : (box : LinkBox) (p q r n : ℕ) → 1 ≤ n → p ≤ r → r < q → IsInside (piece_of box r n) (run_of box p q n)
unfolding piece_of run_of
piece_inside box p q r n some after before =
    let across = part_inside box.base.x box.shift.x p q r n some after before in
    let upward = part_inside box.base.y box.shift.y p q r n some after before in
    record { left = across.0; right = across.1; down = upward.0; up = upward.1 }

-- a run of one piece is the piece
pub run_of_one : (box : LinkBox) (p n : ℕ) → run_of box p (p + 1) n ≡ piece_of box p n
unfolding piece_of run_of
run_of_one box p n = refl
