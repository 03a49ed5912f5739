-- What each operation keeps of the inclusion of its arguments.
use Rattle.std.proofs.Common.{ℤ, pos, ◌-ℤ◌, ◌*ℤ◌, ◌≤ℤ◌, ◌<ℤ◌, refl, [], ◌∷◌, arith}
use Rattle.std.proofs.lemmas.Int.{ints}
use Rattle.std.specs.Int.{int_max}
use Rattle.drm_num.specs.Interval.{Interval, Lies, unit}
use Rattle.drm_num.specs.Arithmetic.{least_product, greatest_product, product_sum, product_difference}
use Rattle.drm_num.specs.Inclusion.{IsIncluded, InclusionIsOfNumbers, SumsKeepInclusion, DifferencesKeepInclusion, MultiplesKeepInclusion, CommonPartsKeepInclusion, HullsKeepInclusion, ProductSumsKeepInclusion, ProductDifferencesKeepInclusion, WidthsRise, GapsFall}
use Rattle.drm_num.proofs.Integers.{along, cancels, keeps, le_self, trans, sums, negates, min_above, max_below, min_rises, max_rises}
use Rattle.drm_num.proofs.Ring.{Var, Prod, ring}
use Rattle.drm_num.proofs.Rounding.{unit_positive, floor_rises, ceiling_rises}
use Rattle.drm_num.proofs.IntervalLemmas.{Lies-ulps, Lies-wider}
use Rattle.drm_num.proofs.ProductLemmas.{least_product-below, greatest_product-above}
use Rattle.drm_num.proofs.Sizes.{IsOrdered-hull, IsOrdered-common_part, IsOrdered-product_sum, IsOrdered-product_difference}

-- ---- the numbers of an interval

-- a whole number of ulps lies between the ends
pub whole_low : (k : ℤ) (s : Interval) → Lies (record { top = k; bottom = unit }) s → s.lo ≤ℤ k
whole_low k s h = omega (arith, ints, h.above)

pub whole_high : (k : ℤ) (s : Interval) → Lies (record { top = k; bottom = unit }) s → k ≤ℤ s.hi
whole_high k s h = omega (arith, ints, h.below)

pub of_numbers : InclusionIsOfNumbers
of_numbers inner outer ordered = (
  λ h x lies. Lies-wider inner outer h.low h.high lies,
  λ each. record {
    low = whole_low inner.lo outer (each _ (Lies-ulps inner.lo inner (le_self inner.lo) ordered));
    ordered = ordered;
    high = whole_high inner.hi outer (each _ (Lies-ulps inner.hi inner ordered (le_self inner.hi)));
  },
)

-- ---- operations that round nothing

pub included_sum : SumsKeepInclusion
included_sum a b A B h k = record { low = sums h.low k.low; ordered = sums h.ordered k.ordered; high = sums h.high k.high }

pub included_difference : DifferencesKeepInclusion
included_difference a b A B h k = record { low = sums h.low (negates k.high); ordered = sums h.ordered (negates k.ordered); high = sums h.high (negates k.low) }

pub included_multiple : MultiplesKeepInclusion
included_multiple k a A up h = record { low = keeps k up h.low; ordered = keeps k up h.ordered; high = keeps k up h.high }

pub included_common_part : CommonPartsKeepInclusion
included_common_part a b A B meet h k = record {
  low = max_rises A.lo B.lo a.lo b.lo h.low k.low;
  ordered = IsOrdered-common_part a b h.ordered k.ordered meet;
  high = min_rises a.hi b.hi A.hi B.hi h.high k.high;
}

pub included_hull : HullsKeepInclusion
included_hull a b A B h k = record {
  low = min_rises A.lo B.lo a.lo b.lo h.low k.low;
  ordered = IsOrdered-hull a b h.ordered;
  high = max_rises a.hi b.hi A.hi B.hi h.high k.high;
}

pub widths_rise : WidthsRise
widths_rise a A h = sums h.high (negates h.low)

pub gaps_fall : GapsFall
gaps_fall a b A B h k =
    max_rises (int_max (B.lo -ℤ A.hi) (A.lo -ℤ B.hi)) (pos 0) (int_max (b.lo -ℤ a.hi) (a.lo -ℤ b.hi)) (pos 0)
    (max_rises (B.lo -ℤ A.hi) (A.lo -ℤ B.hi) (b.lo -ℤ a.hi) (a.lo -ℤ b.hi) (sums k.low (negates h.high)) (sums h.low (negates k.high)))
    (le_self (pos 0))

-- ---- sums and differences of two products

cancels_square_low : (f l m : ℤ) → pos 0 <ℤ f → (l *ℤ (f *ℤ f)) ≤ℤ (f *ℤ (f *ℤ m)) → l ≤ℤ m
cancels_square_low f l m p h =
    let x = Var 0 in
    let y = Var 1 in
    cancels f p (cancels f p (along (ring (f ∷ l ∷ []) (Prod y (Prod x x)) (Prod x (Prod x y)) refl) refl h))

cancels_square_high : (f l m : ℤ) → pos 0 <ℤ f → (f *ℤ (f *ℤ m)) ≤ℤ (l *ℤ (f *ℤ f)) → m ≤ℤ l
cancels_square_high f l m p h =
    let x = Var 0 in
    let y = Var 1 in
    cancels f p (cancels f p (along refl (ring (f ∷ l ∷ []) (Prod y (Prod x x)) (Prod x (Prod x y)) refl) h))

-- the product of two whole numbers of the intervals lies between the least and the greatest product of their ends
product_between : (a b : Interval) (x y : ℤ) → a.lo ≤ℤ x → x ≤ℤ a.hi → b.lo ≤ℤ y → y ≤ℤ b.hi → (least_product a b ≤ℤ (x *ℤ y)) × ((x *ℤ y) ≤ℤ greatest_product a b)
product_between a b x y x_low x_high y_low y_high =
    let in_a = Lies-ulps x a x_low x_high in
    let in_b = Lies-ulps y b y_low y_high in (
      cancels_square_low unit (least_product a b) (x *ℤ y) unit_positive (least_product-below in_a in_b),
      cancels_square_high unit (greatest_product a b) (x *ℤ y) unit_positive (greatest_product-above in_a in_b),
    )

-- so the least product falls, and the greatest rises, as the intervals widen
products_widen : (a b A B : Interval) → IsIncluded a A → IsIncluded b B → (least_product A B ≤ℤ least_product a b) × (greatest_product a b ≤ℤ greatest_product A B)
products_widen a b A B h k =
    let a_lo = trans h.ordered h.high in
    let a_hi = trans h.low h.ordered in
    let b_lo = trans k.ordered k.high in
    let b_hi = trans k.low k.ordered in
    let ll = product_between A B a.lo b.lo h.low a_lo k.low b_lo in
    let lh = product_between A B a.lo b.hi h.low a_lo b_hi k.high in
    let hl = product_between A B a.hi b.lo a_hi h.high k.low b_lo in
    let hh = product_between A B a.hi b.hi a_hi h.high b_hi k.high in
    (min_above (min_above ll.0 lh.0) (min_above hl.0 hh.0), max_below (max_below ll.1 lh.1) (max_below hl.1 hh.1))

pub included_product_sum : ProductSumsKeepInclusion
unfolding product_sum
included_product_sum a b c d A B C D ha hb hc hd =
    let first = products_widen a b A B ha hb in
    let second = products_widen c d C D hc hd in
    record {
      low = floor_rises _ _ unit unit_positive (sums first.0 second.0);
      ordered = IsOrdered-product_sum a b c d;
      high = ceiling_rises _ _ unit unit_positive (sums first.1 second.1);
    }

pub included_product_difference : ProductDifferencesKeepInclusion
unfolding product_difference
included_product_difference a b c d A B C D ha hb hc hd =
    let first = products_widen a b A B ha hb in
    let second = products_widen c d C D hc hd in
    record {
      low = floor_rises _ _ unit unit_positive (sums first.0 (negates second.1));
      ordered = IsOrdered-product_difference a b c d;
      high = ceiling_rises _ _ unit unit_positive (sums first.1 (negates second.0));
    }
