-- How large the ends of a result are, and how wide it is.
use Rattle.std.proofs.Common.{◌≡◌, ℤ, pos, ◌+ℤ◌, ◌-ℤ◌, ◌*ℤ◌, neg_ℤ, ◌≤ℤ◌, ◌<ℤ◌, refl, [], ◌∷◌, arith}
use Rattle.std.proofs.lemmas.Int.{ints, by_lt_z}
use Rattle.drm_num.specs.Interval.{Interval, IsOrdered, EndsWithin, Overlaps, unit}
use Rattle.drm_num.specs.Quotient.{floor, ceiling}
use Rattle.drm_num.specs.Arithmetic.{sum, difference, scaled, width, common_part, hull, least_product, greatest_product, product_sum, product_difference}
use Rattle.drm_num.proofs.Integers.{along, cancels_right, le_of_lt_z, trans, keeps, keeps_right, sums, negates, distrib, distrib_right, negated_right, comm, min_above, max_below, max_first, min_first, product_within}
use Rattle.drm_num.proofs.Ring.{Var, Sum, Prod, Neg, ring}
use Rattle.drm_num.proofs.ProductLemmas.{least_at_most_greatest}
use Rattle.drm_num.proofs.Rounding.{unit_positive, IsFloor-floor, IsCeiling-ceiling}

-- ---- ends

pub EndsWithin-wider : {m n : ℤ} {s : Interval} → m ≤ℤ n → EndsWithin m s → EndsWithin n s
EndsWithin-wider h k = record { low = trans (negates h) k.low; high = trans k.high h }

pub EndsWithin-sum : {m n : ℤ} {a b : Interval} → EndsWithin m a → EndsWithin n b → EndsWithin (m +ℤ n) (sum a b)
EndsWithin-sum {m} {n} {a} {b} h k = record { low = omega (arith, ints, h.low, k.low); high = sums h.high k.high }

pub EndsWithin-difference : {m n : ℤ} {a b : Interval} → EndsWithin m a → EndsWithin n b → EndsWithin (m +ℤ n) (difference a b)
EndsWithin-difference {m} {n} {a} {b} h k = record { low = omega (arith, ints, h.low, k.high); high = omega (arith, ints, h.high, k.low) }

pub EndsWithin-scaled : (k : ℤ) {m : ℤ} {s : Interval} → pos 0 ≤ℤ k → EndsWithin m s → EndsWithin (k *ℤ m) (scaled k s)
EndsWithin-scaled k {m} p h = record { low = along (negated_right k m) refl (keeps k p h.low); high = keeps k p h.high }

-- ---- widths

pub width-not_negative : {s : Interval} → IsOrdered s → pos 0 ≤ℤ width s
width-not_negative {s} h = omega (arith, ints)

pub width-sum : (a b : Interval) → width (sum a b) ≡ width a +ℤ width b
width-sum a b = omega (arith, ints)

pub width-difference : (a b : Interval) → width (difference a b) ≡ width a +ℤ width b
width-difference a b = omega (arith, ints)

pub width-scaled : (k : ℤ) (s : Interval) → width (scaled k s) ≡ k *ℤ width s
width-scaled k s = omega (arith, ints, distrib k s.hi (neg_ℤ s.lo), negated_right k s.lo)

pub width-common_part : (a b : Interval) → width (common_part a b) ≤ℤ width a
width-common_part a b = omega (arith, ints, max_first a.lo b.lo, min_first a.hi b.hi)

-- a difference of two numbers of one interval
apart_at_most : {x y lo hi : ℤ} → lo ≤ℤ x → x ≤ℤ hi → lo ≤ℤ y → y ≤ℤ hi → ((x -ℤ y) ≤ℤ (hi -ℤ lo)) × (neg_ℤ (hi -ℤ lo) ≤ℤ (x -ℤ y))
apart_at_most {x} {y} {lo} {hi} h k u v = (omega (arith, ints), omega (arith, ints))

products_apart : (x y x' y' : ℤ) → (x *ℤ y) ≡ ((x' *ℤ y') +ℤ ((x *ℤ (y -ℤ y')) +ℤ ((x -ℤ x') *ℤ y')))
products_apart x y x' y' =
    let a = Var 0 in
    let b = Var 1 in
    let c = Var 2 in
    let d = Var 3 in
    ring (x ∷ y ∷ x' ∷ y' ∷ []) (Prod a b) (Sum (Prod c d) (Sum (Prod a (Sum b (Neg d))) (Prod (Sum a (Neg c)) d))) refl

-- two products of numbers of a and b
pub products_near : {f x y x' y' : ℤ} (a b : Interval) → EndsWithin f a → EndsWithin f b → a.lo ≤ℤ x → x ≤ℤ a.hi → b.lo ≤ℤ y → y ≤ℤ b.hi → a.lo ≤ℤ x' → x' ≤ℤ a.hi → b.lo ≤ℤ y' → y' ≤ℤ b.hi → (x *ℤ y) ≤ℤ ((x' *ℤ y') +ℤ (f *ℤ (width a +ℤ width b)))
products_near {f} {x} {y} {x'} {y'} a b a_in b_in x_low x_high y_low y_high x'_low x'_high y'_low y'_high =
    let second = apart_at_most y_low y_high y'_low y'_high in
    let first = apart_at_most x_low x_high x'_low x'_high in
    let by_second = (product_within (trans a_in.low x_low) (trans x_high a_in.high) second.1 second.0).1 in
    let by_first = (product_within first.1 first.0 (trans b_in.low y'_low) (trans y'_high b_in.high)).1 in
    omega (arith, ints, products_apart x y x' y', by_second, by_first, distrib f (width a) (width b), comm (width a) f)

least_is_near : (a b : Interval) {c : ℤ} → c ≤ℤ (a.lo *ℤ b.lo) → c ≤ℤ (a.lo *ℤ b.hi) → c ≤ℤ (a.hi *ℤ b.lo) → c ≤ℤ (a.hi *ℤ b.hi) → c ≤ℤ least_product a b
least_is_near a b ll lh hl hh = min_above (min_above ll lh) (min_above hl hh)

pub products-width : {f : ℤ} (a b : Interval) → IsOrdered a → IsOrdered b → EndsWithin f a → EndsWithin f b → greatest_product a b ≤ℤ (least_product a b +ℤ (f *ℤ (width a +ℤ width b)))
products-width {f} a b p q h k =
    let spread = f *ℤ (width a +ℤ width b) in
    let near : (x y : ℤ) → a.lo ≤ℤ x → x ≤ℤ a.hi → b.lo ≤ℤ y → y ≤ℤ b.hi → (x *ℤ y) ≤ℤ (least_product a b +ℤ spread) =
    λ x y x_low x_high y_low y_high.
    let moved : (x' y' : ℤ) → (x *ℤ y) ≤ℤ ((x' *ℤ y') +ℤ spread) → ((x *ℤ y) -ℤ spread) ≤ℤ (x' *ℤ y') = λ x' y' e. omega (arith, ints) in
    let least : ((x *ℤ y) -ℤ spread) ≤ℤ least_product a b =
    least_is_near a b
    (moved a.lo b.lo (products_near a b h k x_low x_high y_low y_high (omega (arith, ints)) p (omega (arith, ints)) q))
    (moved a.lo b.hi (products_near a b h k x_low x_high y_low y_high (omega (arith, ints)) p q (omega (arith, ints))))
    (moved a.hi b.lo (products_near a b h k x_low x_high y_low y_high p (omega (arith, ints)) (omega (arith, ints)) q))
    (moved a.hi b.hi (products_near a b h k x_low x_high y_low y_high p (omega (arith, ints)) q (omega (arith, ints)))) in
    omega (arith, ints) in
    max_below
    (max_below (near a.lo b.lo (omega (arith, ints)) p (omega (arith, ints)) q) (near a.lo b.hi (omega (arith, ints)) p q (omega (arith, ints))))
    (max_below (near a.hi b.lo p (omega (arith, ints)) (omega (arith, ints)) q) (near a.hi b.hi p (omega (arith, ints)) q (omega (arith, ints))))

-- rounding outwards widens by at most one: the two numbers, in units of 1 / f, lie at most f * w apart
pub rounded-width : (f least greatest w : ℤ) → pos 0 <ℤ f → greatest ≤ℤ (least +ℤ (f *ℤ w)) → (ceiling greatest f -ℤ floor least f) ≤ℤ (w +ℤ pos 1)
rounded-width f least greatest w p h =
    let down = floor least f in
    let up = ceiling greatest f in
    let above = (IsFloor-floor least f p).next_is_above in
    let below = (IsCeiling-ceiling greatest f p).previous_is_below in
    by_lt_z (w +ℤ pos 1) (up -ℤ down)
    (λ wide.
    let over : ((down +ℤ pos 1) +ℤ w) ≤ℤ (up -ℤ pos 1) = omega (arith, ints) in
    let product : (((down +ℤ pos 1) +ℤ w) *ℤ f) ≤ℤ ((up -ℤ pos 1) *ℤ f) = keeps_right f (le_of_lt_z p) over in
    absurd (omega (arith, ints, product, above, below, distrib_right (down +ℤ pos 1) w f, comm w f)))
    (λ other. other)

-- the four widths together
abbrev pub four_widths : Interval → Interval → Interval → Interval → ℤ
four_widths a b c d = (width a +ℤ width b) +ℤ (width c +ℤ width d)

pub width-product_sum : (a b c d : Interval) → IsOrdered a → IsOrdered b → IsOrdered c → IsOrdered d → EndsWithin unit a → EndsWithin unit b → EndsWithin unit c → EndsWithin unit d → width (product_sum a b c d) ≤ℤ (four_widths a b c d +ℤ pos 1)
unfolding product_sum
width-product_sum a b c d oa ob oc od ha hb hc hd =
    let first = products-width a b oa ob ha hb in
    let second = products-width c d oc od hc hd in
    let spread : (greatest_product a b +ℤ greatest_product c d) ≤ℤ ((least_product a b +ℤ least_product c d) +ℤ (unit *ℤ four_widths a b c d)) = omega (arith, ints, first, second, distrib unit (width a +ℤ width b) (width c +ℤ width d)) in
    rounded-width unit _ _ (four_widths a b c d) unit_positive spread

pub width-product_difference : (a b c d : Interval) → IsOrdered a → IsOrdered b → IsOrdered c → IsOrdered d → EndsWithin unit a → EndsWithin unit b → EndsWithin unit c → EndsWithin unit d → width (product_difference a b c d) ≤ℤ (four_widths a b c d +ℤ pos 1)
unfolding product_difference
width-product_difference a b c d oa ob oc od ha hb hc hd =
    let first = products-width a b oa ob ha hb in
    let second = products-width c d oc od hc hd in
    let spread : (greatest_product a b -ℤ least_product c d) ≤ℤ ((least_product a b -ℤ greatest_product c d) +ℤ (unit *ℤ four_widths a b c d)) = omega (arith, ints, first, second, distrib unit (width a +ℤ width b) (width c +ℤ width d)) in
    rounded-width unit _ _ (four_widths a b c d) unit_positive spread

-- ---- order of the ends

pub IsOrdered-sum : {a b : Interval} → IsOrdered a → IsOrdered b → IsOrdered (sum a b)
IsOrdered-sum h k = sums h k

pub IsOrdered-difference : {a b : Interval} → IsOrdered a → IsOrdered b → IsOrdered (difference a b)
IsOrdered-difference h k = sums h (negates k)

pub IsOrdered-scaled : (k : ℤ) {s : Interval} → pos 0 ≤ℤ k → IsOrdered s → IsOrdered (scaled k s)
IsOrdered-scaled k p h = keeps k p h

pub IsOrdered-common_part : (a b : Interval) → IsOrdered a → IsOrdered b → Overlaps a b → IsOrdered (common_part a b)
IsOrdered-common_part a b p q h = max_below (min_above p h.first) (min_above h.second q)

pub IsOrdered-hull : (a b : Interval) → IsOrdered a → IsOrdered (hull a b)
IsOrdered-hull a b p = trans (min_first a.lo b.lo) (trans p (max_first a.hi b.hi))

-- a number rounded down is at most a greater number rounded up
pub rounded-order : (f least greatest : ℤ) → pos 0 <ℤ f → least ≤ℤ greatest → floor least f ≤ℤ ceiling greatest f
rounded-order f least greatest p h =
    cancels_right f p (trans (IsFloor-floor least f p).at_most (trans h (IsCeiling-ceiling greatest f p).at_least))

pub IsOrdered-product_sum : (a b c d : Interval) → IsOrdered (product_sum a b c d)
unfolding product_sum
IsOrdered-product_sum a b c d = rounded-order unit _ _ unit_positive (sums (least_at_most_greatest a b) (least_at_most_greatest c d))

pub IsOrdered-product_difference : (a b c d : Interval) → IsOrdered (product_difference a b c d)
unfolding product_difference
IsOrdered-product_difference a b c d = rounded-order unit _ _ unit_positive (sums (least_at_most_greatest a b) (negates (least_at_most_greatest c d)))
