-- The intervals of the cosine and the sine hold every value, stay within one, and are at most twice as wide as the tangents'.
use Rattle.std.proofs.Common.{◌≡◌, ◌⊎◌, inl, inr, Bool, true, false, if◌then◌else◌, ℤ, pos, ◌+ℤ◌, ◌-ℤ◌, ◌*ℤ◌, neg_ℤ, ◌≤ℤ◌, ◌<ℤ◌, refl, sym, ap, ◌∙◌, [], ◌∷◌, arith}
use Rattle.std.proofs.lemmas.Int.{ints, clamps}
use Rattle.std.specs.Int.{int_min, int_max}
use Rattle.drm_num.specs.Fraction.{Fraction, IsProper}
use Rattle.drm_num.specs.Interval.{Interval, IsOrdered, EndsWithin, IsAtLeastUlps, IsAtMostUlps, Lies, unit, ulps}
use Rattle.drm_num.specs.Small.{IsSmall}
use Rattle.drm_num.proofs.SmallLemmas.{IsSmall-floor, IsSmall-ceiling}
use Rattle.drm_num.proofs.Integers.{along, le_self, negated_right, keeps, keeps_right, trans, negates, comm, le_of_lt_z, product_within, product_not_negative, zero_times, square_not_negative, max_first, max_second, min_first, min_second, max_is, min_above, max_below, negated_left}
use Rattle.drm_num.proofs.Ring.{Var, Prod, Neg, ring}
use Rattle.drm_num.proofs.Rounding.{unit_positive, IsFloor-floor, IsCeiling-ceiling}
use Rattle.drm_num.proofs.FractionLemmas.{low_through, high_through}
use Rattle.drm_num.proofs.IntervalLemmas.{Lies-ulps, Lies-ordered}
use Rattle.drm_num.proofs.Distances.{squares_order}
use Rattle.drm_half.specs.HalfAngle.{cosine, sine}
use Rattle.drm_half.specs.Turned.{ulps_below, ulps_above, least_size, greatest_size, has_number, cosine_interval, sine_interval, ordered}
use Rattle.drm_half.proofs.HalfAngleLemmas.{radius_positive, cosine_one, sine_one, cosine_falls, sine_rises, sine_falls, beside_one, two_negatives}

unit_not_negative : pos 0 ≤ℤ unit
unit_not_negative = omega (arith, ints)

-- ---- rounding in ulps

ulps_below-at_most : (x : Fraction) → IsProper x → IsAtLeastUlps (ulps_below x) x
ulps_below-at_most x p = (IsFloor-floor (unit *ℤ x.top) x.bottom p).at_most

ulps_above-at_least : (x : Fraction) → IsProper x → IsAtMostUlps (ulps_above x) x
ulps_above-at_least x p = (IsCeiling-ceiling (unit *ℤ x.top) x.bottom p).at_least

-- the proof's form of the tangent's bounds: the square of the size of f * n against that of an end
square_within : {u v : ℤ} → neg_ℤ v ≤ℤ u → u ≤ℤ v → (u *ℤ u) ≤ℤ (v *ℤ v)
square_within h k = (product_within h k h k).1

sizes_apart : (t : Interval) (x : Fraction) → Lies x t → ((unit *ℤ x.top) *ℤ (unit *ℤ x.top)) ≤ℤ ((greatest_size t *ℤ x.bottom) *ℤ (greatest_size t *ℤ x.bottom))
sizes_apart t x h =
    let p_up : pos 0 ≤ℤ x.bottom = le_of_lt_z h.proper in
    let high : (t.hi *ℤ x.bottom) ≤ℤ (greatest_size t *ℤ x.bottom) = keeps_right x.bottom p_up (max_second (neg_ℤ t.lo) t.hi) in
    let low : (neg_ℤ t.lo *ℤ x.bottom) ≤ℤ (greatest_size t *ℤ x.bottom) = keeps_right x.bottom p_up (max_first (neg_ℤ t.lo) t.hi) in
    square_within (omega (arith, ints, negated_left t.lo x.bottom, h.above)) (trans h.below high)

nothing_squared : (b c : ℤ) → ((pos 0 *ℤ b) *ℤ (pos 0 *ℤ b)) ≤ℤ (c *ℤ c)
nothing_squared b c = along (sym (ap (λ (z : ℤ). z *ℤ z) (zero_times b))) refl (square_not_negative c)

-- the least size is that of an end, or 0
pub which_size : (t : Interval) → (least_size t ≡ t.lo) ⊎ ((least_size t ≡ neg_ℤ t.hi) ⊎ (least_size t ≡ pos 0))
which_size t =
    elim (max_is (int_max t.lo (neg_ℤ t.hi)) (pos 0)) [
      | inl e ↦ elim (max_is t.lo (neg_ℤ t.hi)) [ inl d ↦ inl (e ∙ d) | inr d ↦ inr (inl (e ∙ d)) ]
      | inr e ↦ inr (inr e)
    ]

same_square : (a : ℤ) → neg_ℤ a *ℤ neg_ℤ a ≡ a *ℤ a
same_square a =
    let u = Var 0 in
    ring (a ∷ []) (Prod (Neg u) (Neg u)) (Prod u u) refl

sizes_near : (t : Interval) (x : Fraction) → Lies x t → ((least_size t *ℤ x.bottom) *ℤ (least_size t *ℤ x.bottom)) ≤ℤ ((unit *ℤ x.top) *ℤ (unit *ℤ x.top))
sizes_near t x h =
    let p_up : pos 0 ≤ℤ x.bottom = le_of_lt_z h.proper in
    let size_up : pos 0 ≤ℤ least_size t = max_second (int_max t.lo (neg_ℤ t.hi)) (pos 0) in
    let sized : (m : ℤ) → pos 0 ≤ℤ m → (m ≡ t.lo) ⊎ ((m ≡ neg_ℤ t.hi) ⊎ (m ≡ pos 0)) → ((m *ℤ x.bottom) *ℤ (m *ℤ x.bottom)) ≤ℤ ((unit *ℤ x.top) *ℤ (unit *ℤ x.top)) =
    λ m m_up which.
    let up : pos 0 ≤ℤ (m *ℤ x.bottom) = product_not_negative m_up p_up in
    elim which [
      | inl e ↦ squares_order up (along (ap (λ (z : ℤ). z *ℤ x.bottom) (sym e)) refl h.above)
      | inr rest ↦ elim rest [
        | inl e ↦
            let turned : (m *ℤ x.bottom) ≤ℤ neg_ℤ (unit *ℤ x.top) = along (sym (negated_left t.hi x.bottom) ∙ ap (λ (z : ℤ). z *ℤ x.bottom) (sym e)) refl (negates h.below) in
            along refl (same_square (unit *ℤ x.top)) (squares_order up turned)
        | inr e ↦ along (ap (λ (z : ℤ). (z *ℤ x.bottom) *ℤ (z *ℤ x.bottom)) (sym e)) refl (nothing_squared x.bottom (unit *ℤ x.top))
      ]
    ] in
    sized (least_size t) size_up (which_size t)

-- ---- the cosines

pub Lies-cosine : {x : Fraction} {t : Interval} → Lies x t → Lies (cosine x) (cosine_interval t)
unfolding cosine_interval
Lies-cosine {x} {t} h =
    let n = x.top in
    let p = x.bottom in
    let far = greatest_size t in
    let near = least_size t in
    let far_cosine = cosine (ulps far) in
    let near_cosine = cosine (ulps near) in
    let far_proper : IsProper far_cosine = radius_positive unit far unit_positive in
    let near_proper : IsProper near_cosine = radius_positive unit near unit_positive in
    record {
      proper = radius_positive p n h.proper;
      above = low_through unit (ulps_below far_cosine) ((p *ℤ p) -ℤ (n *ℤ n)) ((p *ℤ p) +ℤ (n *ℤ n)) far_cosine.top far_cosine.bottom (radius_positive p n h.proper) far_proper unit_not_negative (cosine_falls n p far unit (sizes_apart t x h)) (ulps_below-at_most far_cosine far_proper);
      below = high_through unit (ulps_above near_cosine) ((p *ℤ p) -ℤ (n *ℤ n)) ((p *ℤ p) +ℤ (n *ℤ n)) near_cosine.top near_cosine.bottom (radius_positive p n h.proper) near_proper unit_not_negative (cosine_falls near unit n p (along (ap (λ (z : ℤ). z *ℤ z) (comm near p)) (ap (λ (z : ℤ). z *ℤ z) (comm unit n)) (sizes_near t x h))) (ulps_above-at_least near_cosine near_proper);
    }

-- ---- the sines

sine_proper : (a : ℤ) → IsProper (sine (ulps a))
sine_proper a = radius_positive unit a unit_positive

-- a sine at most that of an end is at most what that end's sine is rounded up to
sine_high : (a : ℤ) (x : Fraction) → IsProper x → ((pos 2 *ℤ (x.top *ℤ x.bottom)) *ℤ ((unit *ℤ unit) +ℤ (a *ℤ a))) ≤ℤ ((pos 2 *ℤ (a *ℤ unit)) *ℤ ((x.bottom *ℤ x.bottom) +ℤ (x.top *ℤ x.top))) → IsAtMostUlps (ulps_above (sine (ulps a))) (sine x)
sine_high a x p e =
    high_through unit (ulps_above (sine (ulps a))) (sine x).top (sine x).bottom (sine (ulps a)).top (sine (ulps a)).bottom
    (radius_positive x.bottom x.top p) (sine_proper a) unit_not_negative e (ulps_above-at_least (sine (ulps a)) (sine_proper a))

sine_low : (a : ℤ) (x : Fraction) → IsProper x → ((pos 2 *ℤ (a *ℤ unit)) *ℤ ((x.bottom *ℤ x.bottom) +ℤ (x.top *ℤ x.top))) ≤ℤ ((pos 2 *ℤ (x.top *ℤ x.bottom)) *ℤ ((unit *ℤ unit) +ℤ (a *ℤ a))) → IsAtLeastUlps (ulps_below (sine (ulps a))) (sine x)
sine_low a x p e =
    low_through unit (ulps_below (sine (ulps a))) (sine x).top (sine x).bottom (sine (ulps a)).top (sine (ulps a)).bottom
    (radius_positive x.bottom x.top p) (sine_proper a) unit_not_negative e (ulps_below-at_most (sine (ulps a)) (sine_proper a))

raised : {g h : ℤ} (y : Fraction) → IsProper y → g ≤ℤ h → IsAtMostUlps g y → IsAtMostUlps h y
raised y p e k = trans k (keeps_right y.bottom (le_of_lt_z p) e)

lowered : {g h : ℤ} (y : Fraction) → IsProper y → h ≤ℤ g → IsAtLeastUlps g y → IsAtLeastUlps h y
lowered y p e k = trans (keeps_right y.bottom (le_of_lt_z p) e) k

-- with 1 outside of the interval, an end's sine is at least as great
high_beside : (t : Interval) (x : Fraction) → Lies x t → (unit <ℤ t.lo) ⊎ (t.hi <ℤ unit) → IsAtMostUlps (int_max (ulps_above (sine (ulps t.lo))) (ulps_above (sine (ulps t.hi)))) (sine x)
high_beside t x h outside =
    let n = x.top in
    let p = x.bottom in
    let y_proper : IsProper (sine x) = radius_positive p n h.proper in
    elim (beside_one unit t.lo t.hi n p unit_positive h.proper h.above h.below outside) [
      | inl e ↦ raised (sine x) y_proper (max_second (ulps_above (sine (ulps t.lo))) (ulps_above (sine (ulps t.hi)))) (sine_high t.hi x h.proper (sine_rises n p t.hi unit h.below e))
      | inr e ↦ raised (sine x) y_proper (max_first (ulps_above (sine (ulps t.lo))) (ulps_above (sine (ulps t.hi)))) (sine_high t.lo x h.proper (sine_falls n p t.lo unit h.above e))
    ]

mirrored : {f lo hi : ℤ} → (neg_ℤ f <ℤ lo) ⊎ (hi <ℤ neg_ℤ f) → (f <ℤ neg_ℤ hi) ⊎ (neg_ℤ lo <ℤ f)
mirrored {f} {lo} {hi} (inl h) = inr (omega (arith, ints))
mirrored {f} {lo} {hi} (inr h) = inl (omega (arith, ints))

-- with -1 outside of the interval, an end's sine is at most as great: the case above, mirrored
low_beside : (t : Interval) (x : Fraction) → Lies x t → (neg_ℤ unit <ℤ t.lo) ⊎ (t.hi <ℤ neg_ℤ unit) → IsAtLeastUlps (int_min (ulps_below (sine (ulps t.lo))) (ulps_below (sine (ulps t.hi)))) (sine x)
low_beside t x h outside =
    let n = x.top in
    let p = x.bottom in
    let y_proper : IsProper (sine x) = radius_positive p n h.proper in
    let above : (neg_ℤ t.hi *ℤ p) ≤ℤ (unit *ℤ neg_ℤ n) = along (sym (negated_left t.hi p)) (sym (negated_right unit n)) (negates h.below) in
    let below : (unit *ℤ neg_ℤ n) ≤ℤ (neg_ℤ t.lo *ℤ p) = along (sym (negated_right unit n)) (sym (negated_left t.lo p)) (negates h.above) in
    elim (beside_one unit (neg_ℤ t.hi) (neg_ℤ t.lo) (neg_ℤ n) p unit_positive h.proper above below (mirrored outside)) [
      | inl e ↦ lowered (sine x) y_proper (min_first (ulps_below (sine (ulps t.lo))) (ulps_below (sine (ulps t.hi)))) (sine_low t.lo x h.proper (sine_rises t.lo unit n p (along (comm t.lo p) (comm unit n) h.above) (along (two_negatives n t.lo ∙ comm n t.lo) (comm p unit) e)))
      | inr e ↦ lowered (sine x) y_proper (min_second (ulps_below (sine (ulps t.lo))) (ulps_below (sine (ulps t.hi)))) (sine_low t.hi x h.proper (sine_falls t.hi unit n p (along (comm unit n) (comm t.hi p) h.below) (along (comm p unit) (two_negatives n t.hi ∙ comm n t.hi) e)))
    ]

pub has_number-false : (t : Interval) (a : ℤ) → has_number t a ≡ false → (a <ℤ t.lo) ⊎ (t.hi <ℤ a)
has_number-false t a e = grind (arith, ints)

pub has_number-true : (t : Interval) (a : ℤ) → has_number t a ≡ true → (t.lo ≤ℤ a) × (a ≤ℤ t.hi)
has_number-true t a e = grind (arith, ints)

above_least_sine : (b : Bool) (t : Interval) (x : Fraction) → Lies x t → has_number t (neg_ℤ unit) ≡ b → IsAtLeastUlps (if b then neg_ℤ unit else int_min (ulps_below (sine (ulps t.lo))) (ulps_below (sine (ulps t.hi)))) (sine x)
above_least_sine true t x h e = along (negated_right unit (sine x).bottom ∙ sym (negated_left unit (sine x).bottom)) refl (keeps unit unit_not_negative (sine_one x.bottom x.top).low)
above_least_sine false t x h e = low_beside t x h (has_number-false t (neg_ℤ unit) e)

below_greatest_sine : (b : Bool) (t : Interval) (x : Fraction) → Lies x t → has_number t unit ≡ b → IsAtMostUlps (if b then unit else int_max (ulps_above (sine (ulps t.lo))) (ulps_above (sine (ulps t.hi)))) (sine x)
below_greatest_sine true t x h e = keeps unit unit_not_negative (sine_one x.bottom x.top).high
below_greatest_sine false t x h e = high_beside t x h (has_number-false t unit e)

pub Lies-sine : {x : Fraction} {t : Interval} → Lies x t → Lies (sine x) (sine_interval t)
unfolding sine_interval
Lies-sine {x} {t} h = record {
  proper = radius_positive x.bottom x.top h.proper;
  above = above_least_sine (has_number t (neg_ℤ unit)) t x h refl;
  below = below_greatest_sine (has_number t unit) t x h refl;
}

-- ---- the ends stand in order

pub IsOrdered-cosine_interval : (t : Interval) → IsOrdered t → IsOrdered (cosine_interval t)
IsOrdered-cosine_interval t p = Lies-ordered (Lies-cosine (Lies-ulps t.lo t (le_self t.lo) p))

pub IsOrdered-sine_interval : (t : Interval) → IsOrdered t → IsOrdered (sine_interval t)
IsOrdered-sine_interval t p = Lies-ordered (Lies-sine (Lies-ulps t.lo t (le_self t.lo) p))

-- ---- neither interval goes past one

-- a fraction from -1 to 1, in ulps
scaled_small : (f t b : ℤ) → pos 0 ≤ℤ f → IsSmall b t → IsSmall (f *ℤ b) (f *ℤ t)
scaled_small f t b p h = record { low = along (negated_right f b) refl (keeps f p h.low); high = keeps f p h.high }

pub cosine_size : (a : ℤ) → IsSmall (unit *ℤ (cosine (ulps a)).bottom) (unit *ℤ (cosine (ulps a)).top)
cosine_size a = scaled_small unit (cosine (ulps a)).top (cosine (ulps a)).bottom unit_not_negative (cosine_one unit a)

pub sine_size : (a : ℤ) → IsSmall (unit *ℤ (sine (ulps a)).bottom) (unit *ℤ (sine (ulps a)).top)
sine_size a = scaled_small unit (sine (ulps a)).top (sine (ulps a)).bottom unit_not_negative (sine_one unit a)

pub EndsWithin-cosine_interval : (t : Interval) → EndsWithin unit (cosine_interval t)
unfolding cosine_interval
EndsWithin-cosine_interval t = record {
  low = (IsSmall-floor unit _ _ (sine_proper (greatest_size t)) (cosine_size (greatest_size t))).low;
  high = (IsSmall-ceiling unit _ _ (sine_proper (least_size t)) (cosine_size (least_size t))).high;
}

below_within : (a : ℤ) → neg_ℤ unit ≤ℤ ulps_below (sine (ulps a))
below_within a = (IsSmall-floor unit _ _ (sine_proper a) (sine_size a)).low

above_within : (a : ℤ) → ulps_above (sine (ulps a)) ≤ℤ unit
above_within a = (IsSmall-ceiling unit _ _ (sine_proper a) (sine_size a)).high

least_within : (b : Bool) (t : Interval) → neg_ℤ unit ≤ℤ (if b then neg_ℤ unit else int_min (ulps_below (sine (ulps t.lo))) (ulps_below (sine (ulps t.hi))))
least_within true t = le_self (neg_ℤ unit)
least_within false t = min_above (below_within t.lo) (below_within t.hi)

greatest_within : (b : Bool) (t : Interval) → (if b then unit else int_max (ulps_above (sine (ulps t.lo))) (ulps_above (sine (ulps t.hi)))) ≤ℤ unit
greatest_within true t = le_self unit
greatest_within false t = max_below (above_within t.lo) (above_within t.hi)

pub EndsWithin-sine_interval : (t : Interval) → EndsWithin unit (sine_interval t)
unfolding sine_interval
EndsWithin-sine_interval t = record { low = least_within (has_number t (neg_ℤ unit)) t; high = greatest_within (has_number t unit) t }

-- ---- the ends of an interval

-- among the tangents from one that is not above 0 to one that is not below it, the greatest cosine is 1
pub cosine_across : (lo hi : ℤ) → lo ≤ℤ pos 0 → pos 0 ≤ℤ hi → unit ≡ ulps_above (cosine (ulps (least_size (ordered lo hi))))
cosine_across lo hi low high =
    let none : least_size (ordered lo hi) ≡ pos 0 = omega (arith, ints, clamps) in
    ap (λ (a : ℤ). ulps_above (cosine (ulps a))) (sym none)
