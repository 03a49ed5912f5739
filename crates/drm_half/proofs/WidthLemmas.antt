-- The intervals of the cosine and the sine are at most twice as wide as the tangents' interval, and two ulps more.
use Rattle.std.proofs.Common.{◌≡◌, inl, inr, Bool, true, false, if◌then◌else◌, ℤ, pos, ◌+ℤ◌, ◌-ℤ◌, ◌*ℤ◌, neg_ℤ, ◌≤ℤ◌, ◌<ℤ◌, refl, [], ◌∷◌, arith}
use Rattle.std.proofs.lemmas.Int.{ints, clamps, by_lt_z}
use Rattle.std.specs.Int.{int_min, int_max}
use Rattle.drm_num.specs.Interval.{Interval, IsOrdered, unit, ulps}
use Rattle.drm_num.specs.Quotient.{floor, ceiling}
use Rattle.drm_num.specs.Arithmetic.{width}
use Rattle.drm_num.proofs.Integers.{keeps_right, trans, by_gap, sums, negates, le_self, le_of_lt_z, product_above_zero, product_not_negative, square_not_negative, sum_not_negative, max_first, max_second, max_is, min_is, max_below, distrib, distrib_right, one_times}
use Rattle.drm_num.proofs.Ring.{Var, Lit, Sum, Prod, Neg, ring}
use Rattle.drm_num.proofs.Rounding.{unit_positive, IsFloor-floor, IsCeiling-ceiling}
use Rattle.drm_half.specs.HalfAngle.{cosine, sine}
use Rattle.drm_half.specs.Turned.{ulps_below, ulps_above, least_size, greatest_size, has_number, cosine_interval, sine_interval}
use Rattle.drm_half.proofs.HalfAngleLemmas.{radius_positive, radius_not_negative}
use Rattle.drm_half.proofs.TurnLemmas.{has_number-true}

doubled : {a b : ℤ} → a ≤ℤ b → (pos 2 *ℤ a) ≤ℤ (pos 2 *ℤ b)
doubled {a} {b} h = omega (arith, ints)

-- ---- two quotients at most k apart, rounded outwards

times_right : (u n d : ℤ) → pos 0 <ℤ d → u <ℤ n → (u *ℤ d) <ℤ (n *ℤ d)
times_right u n d p h =
    let next : (u +ℤ pos 1) ≤ℤ n = omega (arith, ints) in
    let over : ((u +ℤ pos 1) *ℤ d) ≤ℤ (n *ℤ d) = keeps_right d (le_of_lt_z p) next in
    omega (arith, ints, over, distrib_right u (pos 1) d, one_times d)

up_side : (u b d : ℤ) → (u *ℤ b) *ℤ d ≡ u *ℤ (b *ℤ d)
up_side u b d =
    let x = Var 0 in
    let y = Var 1 in
    let z = Var 2 in
    ring (u ∷ b ∷ d ∷ []) (Prod (Prod x y) z) (Prod x (Prod y z)) refl

down_side : (u b d : ℤ) → (u *ℤ d) *ℤ b ≡ u *ℤ (b *ℤ d)
down_side u b d =
    let x = Var 0 in
    let y = Var 1 in
    let z = Var 2 in
    ring (u ∷ b ∷ d ∷ []) (Prod (Prod x z) y) (Prod x (Prod y z)) refl

along_below : {a b c : ℤ} → a ≡ b → a <ℤ c → b <ℤ c
along_below {a} {b} {c} e h = omega (arith, ints)

along_above : {a b c : ℤ} → b ≡ c → a <ℤ b → a <ℤ c
along_above {a} {b} {c} e h = omega (arith, ints)

-- n / b is at most m / d + k
pub rounded_apart : (n b m d k : ℤ) → pos 0 <ℤ b → pos 0 <ℤ d → (n *ℤ d) ≤ℤ ((m *ℤ b) +ℤ (k *ℤ (b *ℤ d))) → (ceiling n b -ℤ floor m d) ≤ℤ (k +ℤ pos 1)
rounded_apart n b m d k p q h =
    let up = ceiling n b in
    let down = floor m d in
    let bd = b *ℤ d in
    let high : ((up -ℤ pos 1) *ℤ bd) <ℤ (n *ℤ d) = along_below (up_side (up -ℤ pos 1) b d) (times_right ((up -ℤ pos 1) *ℤ b) n d q (IsCeiling-ceiling n b p).previous_is_below) in
    let low : (m *ℤ b) <ℤ ((down +ℤ pos 1) *ℤ bd) = along_above (down_side (down +ℤ pos 1) b d) (times_right m ((down +ℤ pos 1) *ℤ d) b p (IsFloor-floor m d q).next_is_above) in
    by_lt_z (k +ℤ pos 1) (up -ℤ down)
    (λ wide.
    let over : ((down +ℤ pos 1) +ℤ k) ≤ℤ (up -ℤ pos 1) = omega (arith, ints) in
    let product : (((down +ℤ pos 1) +ℤ k) *ℤ bd) ≤ℤ ((up -ℤ pos 1) *ℤ bd) = keeps_right bd (le_of_lt_z (product_above_zero p q)) over in
    absurd (omega (arith, ints, product, high, low, h, distrib_right (down +ℤ pos 1) k bd)))
    (λ other. other)

-- ---- the cosine moves by at most twice the tangent

-- what is left over, for the sizes a and b, of which a is at most b
cosine_rest : (f a b : ℤ) → ℤ
cosine_rest f a b = ((f *ℤ f) *ℤ ((((f -ℤ b) *ℤ (f -ℤ b)) +ℤ ((f -ℤ a) *ℤ (f -ℤ a))) +ℤ ((b *ℤ b) +ℤ (a *ℤ a)))) +ℤ (pos 2 *ℤ ((a *ℤ a) *ℤ (b *ℤ b)))

cosine_rest-not_negative : (f a b : ℤ) → pos 0 ≤ℤ cosine_rest f a b
unfolding cosine_rest
cosine_rest-not_negative f a b =
    let two : pos 0 ≤ℤ pos 2 = omega (arith, ints) in
    sum_not_negative
    (product_not_negative (square_not_negative f) (sum_not_negative (sum_not_negative (square_not_negative (f -ℤ b)) (square_not_negative (f -ℤ a))) (sum_not_negative (square_not_negative b) (square_not_negative a))))
    (product_not_negative two (product_not_negative (square_not_negative a) (square_not_negative b)))

cosine_step : (f a b : ℤ) → ((f *ℤ ((f *ℤ f) -ℤ (b *ℤ b))) *ℤ ((f *ℤ f) +ℤ (a *ℤ a))) +ℤ ((pos 2 *ℤ (b -ℤ a)) *ℤ (((f *ℤ f) +ℤ (a *ℤ a)) *ℤ ((f *ℤ f) +ℤ (b *ℤ b)))) ≡ ((f *ℤ ((f *ℤ f) -ℤ (a *ℤ a))) *ℤ ((f *ℤ f) +ℤ (b *ℤ b))) +ℤ ((b -ℤ a) *ℤ cosine_rest f a b)
unfolding cosine_rest
cosine_step f a b =
    let x = Var 0 in
    let y = Var 1 in
    let z = Var 2 in
    let ff = Prod x x in
    let aa = Prod y y in
    let bb = Prod z z in
    let fa = Sum x (Neg y) in
    let fb = Sum x (Neg z) in
    let ba = Sum z (Neg y) in
    let rest = Sum (Prod ff (Sum (Sum (Prod fb fb) (Prod fa fa)) (Sum bb aa))) (Prod (Lit (pos 2)) (Prod aa bb)) in
    ring (f ∷ a ∷ b ∷ [])
    (Sum (Prod (Prod x (Sum ff (Neg bb))) (Sum ff aa)) (Prod (Prod (Lit (pos 2)) ba) (Prod (Sum ff aa) (Sum ff bb))))
    (Sum (Prod (Prod x (Sum ff (Neg aa))) (Sum ff bb)) (Prod ba rest)) refl

pub cosine_moves : (f a b : ℤ) → a ≤ℤ b → ((f *ℤ ((f *ℤ f) -ℤ (a *ℤ a))) *ℤ ((f *ℤ f) +ℤ (b *ℤ b))) ≤ℤ (((f *ℤ ((f *ℤ f) -ℤ (b *ℤ b))) *ℤ ((f *ℤ f) +ℤ (a *ℤ a))) +ℤ ((pos 2 *ℤ (b -ℤ a)) *ℤ (((f *ℤ f) +ℤ (a *ℤ a)) *ℤ ((f *ℤ f) +ℤ (b *ℤ b)))))
cosine_moves f a b h =
    let apart : pos 0 ≤ℤ (b -ℤ a) = omega (arith, ints) in
    by_gap _ _ ((b -ℤ a) *ℤ cosine_rest f a b) (cosine_step f a b) (product_not_negative apart (cosine_rest-not_negative f a b))

-- the least and the greatest size of an interval's numbers are no farther apart than its ends
either_side : (t : Interval) → IsOrdered t → pos 0 ≤ℤ greatest_size t
either_side t h = omega (arith, ints, clamps)

sizes_order : (t : Interval) → IsOrdered t → least_size t ≤ℤ greatest_size t
sizes_order t h = max_below (max_below (trans h (max_second (neg_ℤ t.lo) t.hi)) (trans (negates h) (max_first (neg_ℤ t.lo) t.hi))) (either_side t h)

pub sizes-width : (t : Interval) → IsOrdered t → (greatest_size t -ℤ least_size t) ≤ℤ width t
sizes-width t h = omega (arith, ints, clamps)

pub width-cosine_interval : (t : Interval) → IsOrdered t → width (cosine_interval t) ≤ℤ (pos 2 *ℤ width t +ℤ pos 2)
unfolding cosine_interval
width-cosine_interval t h =
    let near = least_size t in
    let far = greatest_size t in
    let apart = rounded_apart (unit *ℤ (cosine (ulps near)).top) (cosine (ulps near)).bottom (unit *ℤ (cosine (ulps far)).top) (cosine (ulps far)).bottom (pos 2 *ℤ (far -ℤ near)) (radius_positive unit near unit_positive) (radius_positive unit far unit_positive) (cosine_moves unit near far (sizes_order t h)) in
    omega (arith, ints, apart, sizes-width t h, distrib (pos 2) far (neg_ℤ near))

-- ---- the sine moves by at most twice the tangent

sine_rest : (f a b : ℤ) → ℤ
sine_rest f a b = ((f *ℤ f) *ℤ (((a *ℤ a) +ℤ (b *ℤ b)) +ℤ ((a +ℤ b) *ℤ (a +ℤ b)))) +ℤ (pos 2 *ℤ ((a *ℤ a) *ℤ (b *ℤ b)))

sine_other_rest : (f a b : ℤ) → ℤ
sine_other_rest f a b = (pos 4 *ℤ ((f *ℤ f) *ℤ (f *ℤ f))) +ℤ (((f *ℤ f) *ℤ (((a *ℤ a) +ℤ (b *ℤ b)) +ℤ ((a -ℤ b) *ℤ (a -ℤ b)))) +ℤ (pos 2 *ℤ ((a *ℤ a) *ℤ (b *ℤ b))))

sine_rest-not_negative : (f a b : ℤ) → pos 0 ≤ℤ sine_rest f a b
unfolding sine_rest
sine_rest-not_negative f a b =
    let two : pos 0 ≤ℤ pos 2 = omega (arith, ints) in
    sum_not_negative
    (product_not_negative (square_not_negative f) (sum_not_negative (sum_not_negative (square_not_negative a) (square_not_negative b)) (square_not_negative (a +ℤ b))))
    (product_not_negative two (product_not_negative (square_not_negative a) (square_not_negative b)))

sine_other_rest-not_negative : (f a b : ℤ) → pos 0 ≤ℤ sine_other_rest f a b
unfolding sine_other_rest
sine_other_rest-not_negative f a b =
    let two : pos 0 ≤ℤ pos 2 = omega (arith, ints) in
    let four : pos 0 ≤ℤ pos 4 = omega (arith, ints) in
    sum_not_negative
    (product_not_negative four (square_not_negative (f *ℤ f)))
    (sum_not_negative
    (product_not_negative (square_not_negative f) (sum_not_negative (sum_not_negative (square_not_negative a) (square_not_negative b)) (square_not_negative (a -ℤ b))))
    (product_not_negative two (product_not_negative (square_not_negative a) (square_not_negative b))))

-- from b up to a, and from a down to b
rising_step : (f a b : ℤ) → ((f *ℤ (pos 2 *ℤ (b *ℤ f))) *ℤ ((f *ℤ f) +ℤ (a *ℤ a))) +ℤ ((pos 2 *ℤ (a -ℤ b)) *ℤ (((f *ℤ f) +ℤ (a *ℤ a)) *ℤ ((f *ℤ f) +ℤ (b *ℤ b)))) ≡ ((f *ℤ (pos 2 *ℤ (a *ℤ f))) *ℤ ((f *ℤ f) +ℤ (b *ℤ b))) +ℤ ((a -ℤ b) *ℤ sine_rest f a b)
unfolding sine_rest
rising_step f a b =
    let x = Var 0 in
    let y = Var 1 in
    let z = Var 2 in
    let ff = Prod x x in
    let aa = Prod y y in
    let bb = Prod z z in
    let ab = Sum y (Neg z) in
    let two = Lit (pos 2) in
    let rest = Sum (Prod ff (Sum (Sum aa bb) (Prod (Sum y z) (Sum y z)))) (Prod two (Prod aa bb)) in
    ring (f ∷ a ∷ b ∷ [])
    (Sum (Prod (Prod x (Prod two (Prod z x))) (Sum ff aa)) (Prod (Prod two ab) (Prod (Sum ff aa) (Sum ff bb))))
    (Sum (Prod (Prod x (Prod two (Prod y x))) (Sum ff bb)) (Prod ab rest)) refl

falling_step : (f a b : ℤ) → ((f *ℤ (pos 2 *ℤ (a *ℤ f))) *ℤ ((f *ℤ f) +ℤ (b *ℤ b))) +ℤ ((pos 2 *ℤ (a -ℤ b)) *ℤ (((f *ℤ f) +ℤ (b *ℤ b)) *ℤ ((f *ℤ f) +ℤ (a *ℤ a)))) ≡ ((f *ℤ (pos 2 *ℤ (b *ℤ f))) *ℤ ((f *ℤ f) +ℤ (a *ℤ a))) +ℤ ((a -ℤ b) *ℤ sine_other_rest f a b)
unfolding sine_other_rest
falling_step f a b =
    let x = Var 0 in
    let y = Var 1 in
    let z = Var 2 in
    let ff = Prod x x in
    let aa = Prod y y in
    let bb = Prod z z in
    let ab = Sum y (Neg z) in
    let two = Lit (pos 2) in
    let rest = Sum (Prod (Lit (pos 4)) (Prod ff ff)) (Sum (Prod ff (Sum (Sum aa bb) (Prod ab ab))) (Prod two (Prod aa bb))) in
    ring (f ∷ a ∷ b ∷ [])
    (Sum (Prod (Prod x (Prod two (Prod y x))) (Sum ff bb)) (Prod (Prod two ab) (Prod (Sum ff bb) (Sum ff aa))))
    (Sum (Prod (Prod x (Prod two (Prod z x))) (Sum ff aa)) (Prod ab rest)) refl

-- the tangents a and b, in either order, at most w apart
pub sine_moves : (f a b w : ℤ) → (a -ℤ b) ≤ℤ w → (b -ℤ a) ≤ℤ w → ((f *ℤ (pos 2 *ℤ (a *ℤ f))) *ℤ ((f *ℤ f) +ℤ (b *ℤ b))) ≤ℤ (((f *ℤ (pos 2 *ℤ (b *ℤ f))) *ℤ ((f *ℤ f) +ℤ (a *ℤ a))) +ℤ ((pos 2 *ℤ w) *ℤ (((f *ℤ f) +ℤ (a *ℤ a)) *ℤ ((f *ℤ f) +ℤ (b *ℤ b)))))
sine_moves f a b w up down =
    let radii = ((f *ℤ f) +ℤ (a *ℤ a)) *ℤ ((f *ℤ f) +ℤ (b *ℤ b)) in
    let radii_up : pos 0 ≤ℤ radii = product_not_negative (radius_not_negative f a) (radius_not_negative f b) in
    let wider : (d : ℤ) → d ≤ℤ w → ((pos 2 *ℤ d) *ℤ radii) ≤ℤ ((pos 2 *ℤ w) *ℤ radii) = λ d e. keeps_right radii radii_up (doubled e) in
    by_lt_z a b
    (λ below.
    let apart : pos 0 ≤ℤ (b -ℤ a) = omega (arith, ints) in
    trans
    (by_gap _ _ ((b -ℤ a) *ℤ sine_other_rest f b a) (falling_step f b a) (product_not_negative apart (sine_other_rest-not_negative f b a)))
    (sums (le_self ((f *ℤ (pos 2 *ℤ (b *ℤ f))) *ℤ ((f *ℤ f) +ℤ (a *ℤ a)))) (wider (b -ℤ a) down)))
    (λ above.
    let apart : pos 0 ≤ℤ (a -ℤ b) = omega (arith, ints) in
    trans
    (by_gap _ _ ((a -ℤ b) *ℤ sine_rest f a b) (rising_step f a b) (product_not_negative apart (sine_rest-not_negative f a b)))
    (sums (le_self ((f *ℤ (pos 2 *ℤ (b *ℤ f))) *ℤ ((f *ℤ f) +ℤ (a *ℤ a)))) (wider (a -ℤ b) up)))

-- ---- both extremes are sines at places of the interval

-- v is the value at a place of the interval
pub record PlaceOf (t : Interval) (value : ℤ → ℤ) (v : ℤ) : Type 0 where
  pub place : ℤ
  pub low : t.lo ≤ℤ place
  pub high : place ≤ℤ t.hi
  pub there : v ≡ value place

abbrev pub sine_floor : ℤ → ℤ
sine_floor a = ulps_below (sine (ulps a))

abbrev pub sine_ceiling : ℤ → ℤ
sine_ceiling a = ulps_above (sine (ulps a))

pub least_place : (b : Bool) (t : Interval) → IsOrdered t → has_number t (neg_ℤ unit) ≡ b → PlaceOf t sine_floor (if b then neg_ℤ unit else int_min (ulps_below (sine (ulps t.lo))) (ulps_below (sine (ulps t.hi))))
least_place true t h e = record { place = neg_ℤ unit; low = (has_number-true t (neg_ℤ unit) e).0; high = (has_number-true t (neg_ℤ unit) e).1; there = refl }
least_place false t h e =
    elim (min_is (sine_floor t.lo) (sine_floor t.hi)) [
      | inl d ↦ record { place = t.lo; low = le_self t.lo; high = h; there = d }
      | inr d ↦ record { place = t.hi; low = h; high = le_self t.hi; there = d }
    ]

pub greatest_place : (b : Bool) (t : Interval) → IsOrdered t → has_number t unit ≡ b → PlaceOf t sine_ceiling (if b then unit else int_max (ulps_above (sine (ulps t.lo))) (ulps_above (sine (ulps t.hi))))
greatest_place true t h e = record { place = unit; low = (has_number-true t unit e).0; high = (has_number-true t unit e).1; there = refl }
greatest_place false t h e =
    elim (max_is (sine_ceiling t.lo) (sine_ceiling t.hi)) [
      | inl d ↦ record { place = t.lo; low = le_self t.lo; high = h; there = d }
      | inr d ↦ record { place = t.hi; low = h; high = le_self t.hi; there = d }
    ]

places_apart : (t : Interval) (a b : ℤ) → t.lo ≤ℤ a → a ≤ℤ t.hi → t.lo ≤ℤ b → b ≤ℤ t.hi → (sine_ceiling a -ℤ sine_floor b) ≤ℤ (pos 2 *ℤ width t +ℤ pos 1)
places_apart t a b a_low a_high b_low b_high =
    rounded_apart (unit *ℤ (sine (ulps a)).top) (sine (ulps a)).bottom (unit *ℤ (sine (ulps b)).top) (sine (ulps b)).bottom (pos 2 *ℤ width t) (radius_positive unit a unit_positive) (radius_positive unit b unit_positive)
    (sine_moves unit a b (width t) (omega (arith, ints)) (omega (arith, ints)))

pub width-sine_interval : (t : Interval) → IsOrdered t → width (sine_interval t) ≤ℤ (pos 2 *ℤ width t +ℤ pos 2)
unfolding sine_interval
width-sine_interval t h =
    let low = least_place (has_number t (neg_ℤ unit)) t h refl in
    let high = greatest_place (has_number t unit) t h refl in
    let apart = places_apart t high.place low.place high.low high.high low.low low.high in
    omega (arith, ints, apart, low.there, high.there)
