-- How far a motion is from a swept cell.
use Rattle.std.proofs.Common.{◌≡◌, ℕ, ◌+◌, ℤ, pos, neg_ℤ, ◌+ℤ◌, ◌-ℤ◌, ◌*ℤ◌, ◌≤ℤ◌, ◌<ℤ◌, refl, ap, ◌∙◌, [], ◌∷◌, arith}
use Rattle.std.proofs.lemmas.Int.{ints}
use Rattle.drm_num.specs.Interval.{Interval, Lies, unit}
use Rattle.drm_num.specs.Arithmetic.{width}
use Rattle.drm_num.proofs.Integers.{along, keeps, keeps_right, trans, product_not_negative, product_above_zero, square_not_negative, cancels, cancels_right, product_within}
use Rattle.drm_num.proofs.Distances.{triangle}
use Rattle.drm_num.proofs.IntervalLemmas.{Lies-difference}
use Rattle.drm_num.proofs.Ring.{Var, Lit, Sum, Prod, Neg, ring}
use Rattle.drm_grid.specs.Laws.{AreWithin}

-- numbers of an interval of width b at most are at most b apart
apart_within : (u e w f b : ℤ) (s : Interval) → Lies (record { top = u; bottom = e }) s → Lies (record { top = w; bottom = f }) s → width s ≤ℤ b
    → (neg_ℤ (b *ℤ (e *ℤ f)) ≤ℤ (unit *ℤ ((u *ℤ f) -ℤ (w *ℤ e)))) × ((unit *ℤ ((u *ℤ f) -ℤ (w *ℤ e))) ≤ℤ (b *ℤ (e *ℤ f)))
apart_within u e w f b s in_first in_second narrow =
    let lies = Lies-difference in_first in_second in
    let bottom : pos 0 <ℤ (e *ℤ f) = product_above_zero in_first.proper in_second.proper in
    let bottom_up : pos 0 ≤ℤ (e *ℤ f) = omega (arith, ints) in
    let wide : ((s.hi -ℤ s.lo) *ℤ (e *ℤ f)) ≤ℤ (b *ℤ (e *ℤ f)) = keeps_right (e *ℤ f) bottom_up narrow in
    let p = Var 0 in
    let q = Var 1 in
    let r = Var 2 in
    let turned : (s.lo -ℤ s.hi) *ℤ (e *ℤ f) ≡ neg_ℤ ((s.hi -ℤ s.lo) *ℤ (e *ℤ f)) = ring (s.lo ∷ s.hi ∷ (e *ℤ f) ∷ []) (Prod (Sum p (Neg q)) r) (Neg (Prod (Sum q (Neg p)) r)) refl in
    let low = lies.above in
    let high = lies.below in
    (omega (arith, ints), trans high wide)

-- where three times the width is at most twice s units, they are at most two thirds of s apart
two_thirds : (t z b f p : ℤ) → pos 0 <ℤ f → pos 0 ≤ℤ p → (pos 3 *ℤ b) ≤ℤ (pos 2 *ℤ (z *ℤ f))
    → neg_ℤ (b *ℤ p) ≤ℤ (f *ℤ t) → (f *ℤ t) ≤ℤ (b *ℤ p)
    → (neg_ℤ (pos 2 *ℤ (z *ℤ p)) ≤ℤ (pos 3 *ℤ t)) × ((pos 3 *ℤ t) ≤ℤ (pos 2 *ℤ (z *ℤ p)))
two_thirds t z b f p f_up p_up narrow low high =
    let scaled : ((pos 3 *ℤ b) *ℤ p) ≤ℤ ((pos 2 *ℤ (z *ℤ f)) *ℤ p) = keeps_right p p_up narrow in
    let three_up : pos 0 ≤ℤ pos 3 = omega (arith, ints) in
    let low3 : (pos 3 *ℤ neg_ℤ (b *ℤ p)) ≤ℤ (pos 3 *ℤ (f *ℤ t)) = keeps (pos 3) three_up low in
    let high3 : (pos 3 *ℤ (f *ℤ t)) ≤ℤ (pos 3 *ℤ (b *ℤ p)) = keeps (pos 3) three_up high in
    let x = Var 0 in
    let y = Var 1 in
    let w = Var 2 in
    let e1 : (pos 3 *ℤ b) *ℤ p ≡ pos 3 *ℤ (b *ℤ p) = ring (b ∷ p ∷ []) (Prod (Prod (Lit (pos 3)) x) y) (Prod (Lit (pos 3)) (Prod x y)) refl in
    let e2 : (pos 2 *ℤ (z *ℤ f)) *ℤ p ≡ f *ℤ (pos 2 *ℤ (z *ℤ p)) = ring (z ∷ f ∷ p ∷ []) (Prod (Prod (Lit (pos 2)) (Prod x y)) w) (Prod y (Prod (Lit (pos 2)) (Prod x w))) refl in
    let e3 : pos 3 *ℤ (f *ℤ t) ≡ f *ℤ (pos 3 *ℤ t) = ring (f ∷ t ∷ []) (Prod (Lit (pos 3)) (Prod x y)) (Prod x (Prod (Lit (pos 3)) y)) refl in
    let e4 : pos 3 *ℤ neg_ℤ (b *ℤ p) ≡ neg_ℤ (pos 3 *ℤ (b *ℤ p)) = ring (b ∷ p ∷ []) (Prod (Lit (pos 3)) (Neg (Prod x y))) (Neg (Prod (Lit (pos 3)) (Prod x y))) refl in
    let e5 : f *ℤ neg_ℤ (pos 2 *ℤ (z *ℤ p)) ≡ neg_ℤ (f *ℤ (pos 2 *ℤ (z *ℤ p))) = ring (f ∷ z ∷ p ∷ []) (Prod x (Neg (Prod (Lit (pos 2)) (Prod y w)))) (Neg (Prod x (Prod (Lit (pos 2)) (Prod y w)))) refl in
    let above : (f *ℤ (pos 3 *ℤ t)) ≤ℤ (f *ℤ (pos 2 *ℤ (z *ℤ p))) = along e3 e2 (trans high3 (along e1 refl scaled)) in
    let wide : (pos 3 *ℤ (b *ℤ p)) ≤ℤ (f *ℤ (pos 2 *ℤ (z *ℤ p))) = along e1 e2 scaled in
    let below : (f *ℤ neg_ℤ (pos 2 *ℤ (z *ℤ p))) ≤ℤ (f *ℤ (pos 3 *ℤ t)) = omega (arith, ints, e3, e4, e5, wide, low3) in
    (cancels f f_up below, cancels f f_up above)

some_pos : (n : ℕ) → pos 0 ≤ℤ pos n
some_pos n = omega (arith, ints)

linear : (a b z : ℤ) → (pos 9 *ℤ a) ≤ℤ (pos 4 *ℤ z) → (pos 9 *ℤ b) ≤ℤ (pos 4 *ℤ z) → pos 0 ≤ℤ z → (a +ℤ b) ≤ℤ z
linear a b z one two z_up = omega (arith, ints)

-- a vector that is made longer
scaled_squares : (a b r k : ℤ) → ((a *ℤ a) +ℤ (b *ℤ b)) ≤ℤ (r *ℤ r) → (((a *ℤ k) *ℤ (a *ℤ k)) +ℤ ((b *ℤ k) *ℤ (b *ℤ k))) ≤ℤ ((r *ℤ k) *ℤ (r *ℤ k))
scaled_squares a b r k within =
    let u = Var 0 in
    let v = Var 1 in
    let w = Var 2 in
    let left : ((a *ℤ a) +ℤ (b *ℤ b)) *ℤ (k *ℤ k) ≡ ((a *ℤ k) *ℤ (a *ℤ k)) +ℤ ((b *ℤ k) *ℤ (b *ℤ k)) = ring (a ∷ b ∷ k ∷ []) (Prod (Sum (Prod u u) (Prod v v)) (Prod w w)) (Sum (Prod (Prod u w) (Prod u w)) (Prod (Prod v w) (Prod v w))) refl in
    let right : (r *ℤ r) *ℤ (k *ℤ k) ≡ (r *ℤ k) *ℤ (r *ℤ k) = ring (r ∷ k ∷ []) (Prod (Prod u u) (Prod v v)) (Prod (Prod u v) (Prod u v)) refl in
    along left right (keeps_right (k *ℤ k) (square_not_negative k) within)

-- the two steps from the point to the box's point and on make the whole way, e times
meet_side : (x u w d e f : ℤ) → (((x *ℤ e) -ℤ (u *ℤ d)) *ℤ f) +ℤ (((u *ℤ f) -ℤ (w *ℤ e)) *ℤ d) ≡ ((x *ℤ f) -ℤ (w *ℤ d)) *ℤ e
meet_side x u w d e f =
    let vx = Var 0 in
    let vu = Var 1 in
    let vw = Var 2 in
    let vd = Var 3 in
    let ve = Var 4 in
    let vf = Var 5 in
    ring (x ∷ u ∷ w ∷ d ∷ e ∷ f ∷ []) (Sum (Prod (Sum (Prod vx ve) (Neg (Prod vu vd))) vf) (Prod (Sum (Prod vu vf) (Neg (Prod vw ve))) vd)) (Prod (Sum (Prod vx vf) (Neg (Prod vw vd))) ve) refl

squares_of : (a b e : ℤ) → ((a *ℤ e) *ℤ (a *ℤ e)) +ℤ ((b *ℤ e) *ℤ (b *ℤ e)) ≡ ((a *ℤ a) +ℤ (b *ℤ b)) *ℤ (e *ℤ e)
squares_of a b e =
    let u = Var 0 in
    let v = Var 1 in
    let w = Var 2 in
    ring (a ∷ b ∷ e ∷ []) (Sum (Prod (Prod u w) (Prod u w)) (Prod (Prod v w) (Prod v w))) (Prod (Sum (Prod u u) (Prod v v)) (Prod w w)) refl

meet_sides : (x u wx d e f y v wy : ℤ) →
    (((((x *ℤ e) -ℤ (u *ℤ d)) *ℤ f) +ℤ (((u *ℤ f) -ℤ (wx *ℤ e)) *ℤ d)) *ℤ ((((x *ℤ e) -ℤ (u *ℤ d)) *ℤ f) +ℤ (((u *ℤ f) -ℤ (wx *ℤ e)) *ℤ d)))
    +ℤ (((((y *ℤ e) -ℤ (v *ℤ d)) *ℤ f) +ℤ (((v *ℤ f) -ℤ (wy *ℤ e)) *ℤ d)) *ℤ ((((y *ℤ e) -ℤ (v *ℤ d)) *ℤ f) +ℤ (((v *ℤ f) -ℤ (wy *ℤ e)) *ℤ d)))
    ≡ ((((x *ℤ f) -ℤ (wx *ℤ d)) *ℤ ((x *ℤ f) -ℤ (wx *ℤ d))) +ℤ (((y *ℤ f) -ℤ (wy *ℤ d)) *ℤ ((y *ℤ f) -ℤ (wy *ℤ d)))) *ℤ (e *ℤ e)
meet_sides x u wx d e f y v wy =
    let second = (((y *ℤ e) -ℤ (v *ℤ d)) *ℤ f) +ℤ (((v *ℤ f) -ℤ (wy *ℤ e)) *ℤ d) in
    ap (λ (t : ℤ). (t *ℤ t) +ℤ (second *ℤ second)) (meet_side x u wx d e f)
    ∙ ap (λ (t : ℤ). ((((x *ℤ f) -ℤ (wx *ℤ d)) *ℤ e) *ℤ (((x *ℤ f) -ℤ (wx *ℤ d)) *ℤ e)) +ℤ (t *ℤ t)) (meet_side y v wy d e f)
    ∙ squares_of ((x *ℤ f) -ℤ (wx *ℤ d)) ((y *ℤ f) -ℤ (wy *ℤ d)) e

far_sides : (r s d e f : ℤ) → (((r *ℤ (d *ℤ e)) *ℤ f) +ℤ ((s *ℤ (e *ℤ f)) *ℤ d)) *ℤ (((r *ℤ (d *ℤ e)) *ℤ f) +ℤ ((s *ℤ (e *ℤ f)) *ℤ d)) ≡ (((r +ℤ s) *ℤ (d *ℤ f)) *ℤ ((r +ℤ s) *ℤ (d *ℤ f))) *ℤ (e *ℤ e)
far_sides r s d e f =
    let a = Var 0 in
    let b = Var 1 in
    let c = Var 2 in
    let g = Var 3 in
    let h = Var 4 in
    let side = Sum (Prod (Prod a (Prod c g)) h) (Prod (Prod b (Prod g h)) c) in
    let whole = Prod (Sum a b) (Prod c h) in
    ring (r ∷ s ∷ d ∷ e ∷ f ∷ []) (Prod side side) (Prod (Prod whole whole) (Prod g g)) refl

-- so together, by squares, they are at most s apart
short_of : (s t z : ℤ) → neg_ℤ (pos 2 *ℤ z) ≤ℤ (pos 3 *ℤ s) → (pos 3 *ℤ s) ≤ℤ (pos 2 *ℤ z) → neg_ℤ (pos 2 *ℤ z) ≤ℤ (pos 3 *ℤ t) → (pos 3 *ℤ t) ≤ℤ (pos 2 *ℤ z)
    → ((s *ℤ s) +ℤ (t *ℤ t)) ≤ℤ (z *ℤ z)
short_of s t z a b c d =
    let first = (product_within a b a b).1 in
    let second = (product_within c d c d).1 in
    let x = Var 0 in
    let nine_s : (pos 3 *ℤ s) *ℤ (pos 3 *ℤ s) ≡ pos 9 *ℤ (s *ℤ s) = ring (s ∷ []) (Prod (Prod (Lit (pos 3)) x) (Prod (Lit (pos 3)) x)) (Prod (Lit (pos 9)) (Prod x x)) refl in
    let nine_t : (pos 3 *ℤ t) *ℤ (pos 3 *ℤ t) ≡ pos 9 *ℤ (t *ℤ t) = ring (t ∷ []) (Prod (Prod (Lit (pos 3)) x) (Prod (Lit (pos 3)) x)) (Prod (Lit (pos 9)) (Prod x x)) refl in
    let four_z : (pos 2 *ℤ z) *ℤ (pos 2 *ℤ z) ≡ pos 4 *ℤ (z *ℤ z) = ring (z ∷ []) (Prod (Prod (Lit (pos 2)) x) (Prod (Lit (pos 2)) x)) (Prod (Lit (pos 4)) (Prod x x)) refl in
    let one : (pos 9 *ℤ (s *ℤ s)) ≤ℤ (pos 4 *ℤ (z *ℤ z)) = along nine_s four_z first in
    let two : (pos 9 *ℤ (t *ℤ t)) ≤ℤ (pos 4 *ℤ (z *ℤ z)) = along nine_t four_z second in
    let z_up = square_not_negative z in
    linear (s *ℤ s) (t *ℤ t) (z *ℤ z) one two z_up

-- a point within r of a point of a narrow box is within r and s of every point of the box
pub near_far : (x y d u v e wx wy wd b : ℤ) (r s : ℕ) (across up : Interval) → pos 0 <ℤ d → AreWithin x y d u v e r
    → Lies (record { top = u; bottom = e }) across → Lies (record { top = wx; bottom = wd }) across
    → Lies (record { top = v; bottom = e }) up → Lies (record { top = wy; bottom = wd }) up
    → width across ≤ℤ b → width up ≤ℤ b → (pos 3 *ℤ b) ≤ℤ (pos 2 *ℤ (pos s *ℤ unit))
    → ((((x *ℤ wd) -ℤ (wx *ℤ d)) *ℤ ((x *ℤ wd) -ℤ (wx *ℤ d))) +ℤ (((y *ℤ wd) -ℤ (wy *ℤ d)) *ℤ ((y *ℤ wd) -ℤ (wy *ℤ d)))) ≤ℤ ((pos (r + s) *ℤ (d *ℤ wd)) *ℤ (pos (r + s) *ℤ (d *ℤ wd)))
near_far x y d u v e wx wy wd b r s across up d_up within ux wx_in vx wy_in narrow narrow_up small =
    let e_up = ux.proper in
    let w_up = wx_in.proper in
    let p = e *ℤ wd in
    let p_up : pos 0 <ℤ p = product_above_zero e_up w_up in
    let p_some : pos 0 ≤ℤ p = omega (arith, ints) in
    let d_some : pos 0 ≤ℤ d = omega (arith, ints) in
    let w_some : pos 0 ≤ℤ wd = omega (arith, ints) in
    let e_some : pos 0 ≤ℤ e = omega (arith, ints) in
    let unit_up : pos 0 <ℤ unit = omega (arith, ints) in
    let tx = (u *ℤ wd) -ℤ (wx *ℤ e) in
    let ty = (v *ℤ wd) -ℤ (wy *ℤ e) in
    let ax = (x *ℤ e) -ℤ (u *ℤ d) in
    let ay = (y *ℤ e) -ℤ (v *ℤ d) in
    let mx = apart_within u e wx wd b across ux wx_in narrow in
    let my = apart_within v e wy wd b up vx wy_in narrow_up in
    let thirds_x = two_thirds tx (pos s) b unit p unit_up p_some small mx.0 mx.1 in
    let thirds_y = two_thirds ty (pos s) b unit p unit_up p_some small my.0 my.1 in
    let box : ((tx *ℤ tx) +ℤ (ty *ℤ ty)) ≤ℤ ((pos s *ℤ p) *ℤ (pos s *ℤ p)) = short_of tx ty (pos s *ℤ p) thirds_x.0 thirds_x.1 thirds_y.0 thirds_y.1 in
    let first = scaled_squares ax ay (pos r *ℤ (d *ℤ e)) wd within.near in
    let second = scaled_squares tx ty (pos s *ℤ p) d box in
    let r_up : pos 0 ≤ℤ ((pos r *ℤ (d *ℤ e)) *ℤ wd) = product_not_negative (product_not_negative (some_pos r) (product_not_negative d_some e_some)) w_some in
    let s_up : pos 0 ≤ℤ ((pos s *ℤ p) *ℤ d) = product_not_negative (product_not_negative (some_pos s) p_some) d_some in
    let sum = triangle (ax *ℤ wd) (ay *ℤ wd) (tx *ℤ d) (ty *ℤ d) r_up s_up first second in
    let e_square : pos 0 <ℤ (e *ℤ e) = product_above_zero e_up e_up in
    cancels_right (e *ℤ e) e_square (along (meet_sides x u wx d e wd y v wy) (far_sides (pos r) (pos s) d e wd) sum)
