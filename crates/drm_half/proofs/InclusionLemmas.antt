-- The intervals of the cosine and the sine are no wider than they must be: each end is a value at a tangent of the interval,
-- rounded. So it lies in what a larger interval gives, which holds the value.
use Rattle.std.proofs.Common.{◌≡◌, inl, inr, ℤ, pos, ◌+ℤ◌, ◌-ℤ◌, ◌*ℤ◌, neg_ℤ, ◌≤ℤ◌, refl, sym, ap, ◌∙◌, arith}
use Rattle.std.proofs.lemmas.Int.{ints, clamps}
use Rattle.drm_num.specs.Fraction.{Fraction}
use Rattle.drm_num.specs.Interval.{Interval, IsOrdered, Lies, unit, ulps}
use Rattle.drm_num.proofs.Integers.{along, le_self, trans, max_is}
use Rattle.drm_num.proofs.Rounding.{floor_above, ceiling_below}
use Rattle.drm_num.proofs.IntervalLemmas.{Lies-ulps}
use Rattle.drm_half.specs.HalfAngle.{cosine, sine}
use Rattle.drm_half.specs.Turned.{ulps_below, ulps_above, least_size, greatest_size, has_number, cosine_interval, sine_interval}
use Rattle.drm_half.specs.Laws.{CosinesKeepInclusion, SinesKeepInclusion}
use Rattle.drm_half.proofs.HalfAngleLemmas.{two_negatives}
use Rattle.drm_half.proofs.TurnLemmas.{which_size, Lies-cosine, Lies-sine, IsOrdered-cosine_interval, IsOrdered-sine_interval}
use Rattle.drm_half.proofs.WidthLemmas.{PlaceOf, sine_floor, sine_ceiling, least_place, greatest_place}

-- a number of an interval, rounded down and up, is no farther out than the ends
rounded_between : (x : Fraction) (s : Interval) → Lies x s → (s.lo ≤ℤ ulps_below x) × (ulps_above x ≤ℤ s.hi)
rounded_between x s h = (floor_above (unit *ℤ x.top) x.bottom s.lo h.proper h.above, ceiling_below (unit *ℤ x.top) x.bottom s.hi h.proper h.below)

-- ---- the cosines

abbrev cosine_floor : ℤ → ℤ
cosine_floor a = ulps_below (cosine (ulps a))

abbrev cosine_ceiling : ℤ → ℤ
cosine_ceiling a = ulps_above (cosine (ulps a))

cosine_even : (a : ℤ) → cosine (ulps (neg_ℤ a)) ≡ cosine (ulps a)
cosine_even a =
    let from_square : ℤ → Fraction = λ z. record { top = (unit *ℤ unit) -ℤ z; bottom = (unit *ℤ unit) +ℤ z } in
    ap from_square (two_negatives a a)

least_cosine_place : (t : Interval) → IsOrdered t → PlaceOf t cosine_floor (cosine_floor (greatest_size t))
least_cosine_place t h =
    elim (max_is (neg_ℤ t.lo) t.hi) [
      | inl e ↦ record { place = t.lo; low = le_self t.lo; high = h; there = ap cosine_floor e ∙ ap ulps_below (cosine_even t.lo) }
      | inr e ↦ record { place = t.hi; low = h; high = le_self t.hi; there = ap cosine_floor e }
    ]

greatest_cosine_place : (t : Interval) → IsOrdered t → PlaceOf t cosine_ceiling (cosine_ceiling (least_size t))
greatest_cosine_place t h =
    elim (which_size t) [
      | inl e ↦ record { place = t.lo; low = le_self t.lo; high = h; there = ap cosine_ceiling e }
      | inr rest ↦ elim rest [
        | inl e ↦ record { place = t.hi; low = h; high = le_self t.hi; there = ap cosine_ceiling e ∙ ap ulps_above (cosine_even t.hi) }
        | inr e ↦ record { place = pos 0; low = omega (arith, ints, clamps, e); high = omega (arith, ints, clamps, e); there = ap cosine_ceiling e }
      ]
    ]

cosine_between : (t : Interval) (a : ℤ) → t.lo ≤ℤ a → a ≤ℤ t.hi → ((cosine_interval t).lo ≤ℤ cosine_floor a) × (cosine_ceiling a ≤ℤ (cosine_interval t).hi)
cosine_between t a low high = rounded_between (cosine (ulps a)) (cosine_interval t) (Lies-cosine (Lies-ulps a t low high))

pub included_cosine : CosinesKeepInclusion
unfolding cosine_interval
included_cosine small large h =
    let least = least_cosine_place small h.ordered in
    let greatest = greatest_cosine_place small h.ordered in
    record {
      low = along refl (sym least.there) (cosine_between large least.place (trans h.low least.low) (trans least.high h.high)).0;
      ordered = IsOrdered-cosine_interval small h.ordered;
      high = along (sym greatest.there) refl (cosine_between large greatest.place (trans h.low greatest.low) (trans greatest.high h.high)).1;
    }

-- ---- the sines

sine_between : (t : Interval) (a : ℤ) → t.lo ≤ℤ a → a ≤ℤ t.hi → ((sine_interval t).lo ≤ℤ sine_floor a) × (sine_ceiling a ≤ℤ (sine_interval t).hi)
sine_between t a low high = rounded_between (sine (ulps a)) (sine_interval t) (Lies-sine (Lies-ulps a t low high))

pub included_sine : SinesKeepInclusion
unfolding sine_interval
included_sine small large h =
    let least = least_place (has_number small (neg_ℤ unit)) small h.ordered refl in
    let greatest = greatest_place (has_number small unit) small h.ordered refl in
    record {
      low = along refl (sym least.there) (sine_between large least.place (trans h.low least.low) (trans least.high h.high)).0;
      ordered = IsOrdered-sine_interval small h.ordered;
      high = along (sym greatest.there) refl (sine_between large greatest.place (trans h.low greatest.low) (trans greatest.high h.high)).1;
    }
