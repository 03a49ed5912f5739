-- The rounded quotients are what their names say.
use Rattle.std.proofs.Common.{ℕ, ◌<◌, ℤ, pos, negsuc, neg_ℤ, ◌+ℤ◌, ◌*ℤ◌, ◌≤ℤ◌, ◌<ℤ◌, refl, sym, arith}
use Rattle.std.proofs.lemmas.Int.{ints, by_lt_z}
use Rattle.drm_num.specs.Interval.{unit}
use Rattle.drm_num.specs.Quotient.{floor, ceiling, IsFloor, IsCeiling}
use Rattle.drm_num.proofs.Integers.{negated_left, distrib_right, one_times, trans, keeps_right, along, negates, le_of_lt_z}

-- the scale of fixed point is not zero
pub unit_positive : pos 0 <ℤ unit
unit_positive = omega (arith, ints)

floor_parts : (n : ℤ) (k : ℕ) → 0 < k → ((floor n (pos k) *ℤ pos k) ≤ℤ n) × (n <ℤ ((floor n (pos k) *ℤ pos k) +ℤ pos k))
floor_parts (pos n) k h = (omega (arith, ints), omega (arith, ints))
floor_parts (negsuc n) k h = (omega (arith, ints), omega (arith, ints))

pub IsFloor-floor : (n d : ℤ) → pos 0 <ℤ d → IsFloor n d (floor n d)
IsFloor-floor n (pos k) h =
    let above_zero : 0 < k = omega (arith, ints) in
    let parts = floor_parts n k above_zero in
    record {
      at_most = parts.0;
      next_is_above = omega (arith, ints, parts.1, distrib_right (floor n (pos k)) (pos 1) (pos k), one_times (pos k));
    }
IsFloor-floor n (negsuc k) h = absurd (omega (arith, ints))

pub IsCeiling-ceiling : (n d : ℤ) → pos 0 <ℤ d → IsCeiling n d (ceiling n d)
IsCeiling-ceiling n d h =
    let q = floor (neg_ℤ n) d in
    let f = IsFloor-floor (neg_ℤ n) d h in
    record {
      at_least = omega (arith, ints, f.at_most, negated_left q d);
      previous_is_below = omega (arith, ints, f.next_is_above, distrib_right q (pos 1) d, distrib_right (neg_ℤ q) (neg_ℤ (pos 1)) d, negated_left q d, negated_left (pos 1) d);
    }

-- what is at most the quotient is at most its floor, and so for the ceiling
pub floor_above : (n d q : ℤ) → pos 0 <ℤ d → (q *ℤ d) ≤ℤ n → q ≤ℤ floor n d
floor_above n d q h k =
    by_lt_z (floor n d) q
    (λ below.
    let next : (floor n d +ℤ pos 1) ≤ℤ q = omega (arith, ints) in
    let over : ((floor n d +ℤ pos 1) *ℤ d) ≤ℤ (q *ℤ d) = keeps_right d (le_of_lt_z h) next in
    let fact = (IsFloor-floor n d h).next_is_above in
    absurd (omega (arith, ints, trans over k, fact)))
    (λ other. other)

pub ceiling_below : (n d q : ℤ) → pos 0 <ℤ d → n ≤ℤ (q *ℤ d) → ceiling n d ≤ℤ q
ceiling_below n d q h k =
    let turned : (neg_ℤ q *ℤ d) ≤ℤ neg_ℤ n = along (sym (negated_left q d)) refl (negates k) in
    let below : neg_ℤ q ≤ℤ floor (neg_ℤ n) d = floor_above (neg_ℤ n) d (neg_ℤ q) h turned in
    omega (arith, ints)

-- rounding keeps the order
pub floor_rises : (a b d : ℤ) → pos 0 <ℤ d → a ≤ℤ b → floor a d ≤ℤ floor b d
floor_rises a b d p h = floor_above b d (floor a d) p (trans (IsFloor-floor a d p).at_most h)

pub ceiling_rises : (a b d : ℤ) → pos 0 <ℤ d → a ≤ℤ b → ceiling a d ≤ℤ ceiling b d
ceiling_rises a b d p h = ceiling_below a d (ceiling b d) p (trans h (IsCeiling-ceiling b d p).at_least)
