-- The product with the reciprocal of a number gives the quotient by the number.
use Rattle.std.proofs.Common.{◌≡◌, ℕ, ◌+◌, ◌*◌, ◌/◌, ◌≤◌, ◌<◌, ℤ, pos, neg_ℤ, ◌+ℤ◌, ◌*ℤ◌, ◌≤ℤ◌, ◌<ℤ◌, zero, suc, ap, ◌∙◌, arith, mul_assoc, ◌-ℤ◌}
use Rattle.std.proofs.Math.Nat.{mul_left_comm, mul-le-mul_left, mul-le-mul_right, div-mul-le_self, lt-mul-div-succ, le-div_iff_mul-le, div-lt_iff_lt-mul, lt_of_mul-lt-mul_left}
use Rattle.std.proofs.lemmas.Int.{ints}
use Rattle.drm_num.specs.Quotient.{floor}
use Rattle.drm_num.specs.Reciprocal.{IsReciprocal}
use Rattle.drm_num.proofs.Integers.{distrib_right, negated_left}
use Rattle.drm_num.proofs.Rounding.{IsFloor-floor, floor_above}

-- only a number above zero has a reciprocal
pub divisor_above_zero : (scale n m : ℕ) → IsReciprocal scale n m → 0 < n
divisor_above_zero scale zero m h = absurd (omega (arith, h.enough, h.least))
divisor_above_zero scale (suc n) m h = omega arith

-- the quotient is no more than what the reciprocal gives
quotient_below : (scale z n m : ℕ) → 0 < scale → IsReciprocal scale n m → z / n ≤ z * m / scale
quotient_below scale z n m some h =
    let enough : z / n * scale ≤ z / n * (n * m) = mul-le-mul_left (z / n) h.enough in
    let whole : z / n * n * m ≤ z * m = mul-le-mul_right m (div-mul-le_self z n) in
    let fits : z / n * scale ≤ z * m = omega (arith, mul_assoc (z / n) n m) in
    (le-div_iff_mul-le some).1 fits

-- n times the product is less than the next whole
scaled_below : (scale z n m : ℕ) → z * n < scale → IsReciprocal scale n m → n * (z * m) < (z + 1) * scale
scaled_below scale z n m small h =
    let most : n * m ≤ scale + n = omega (arith, h.least) in
    let scaled : z * (n * m) ≤ z * (scale + n) = mul-le-mul_left z most in
    omega (arith, mul_left_comm n z m)

-- and the quotient is no less than it
quotient_above : (scale z n m : ℕ) → z * n < scale → IsReciprocal scale n m → z * m / scale < z / n + 1
quotient_above scale z n m small h =
    let next : z < n * (z / n + 1) = lt-mul-div-succ z (divisor_above_zero scale n m h) in
    let whole : (z + 1) * scale ≤ n * (z / n + 1) * scale = mul-le-mul_right scale (omega arith) in
    let scaled : n * (z * m) < n * ((z / n + 1) * scale) = omega (arith, scaled_below scale z n m small h, mul_assoc n (z / n + 1) scale) in
    (div-lt_iff_lt-mul (omega arith)).1 (lt_of_mul-lt-mul_left n scaled)

-- where the number times the divisor is less than the scale
pub quotient_by_reciprocal : (scale z n m : ℕ) → z * n < scale → IsReciprocal scale n m → z * m / scale ≡ z / n
quotient_by_reciprocal scale z n m small h =
    let below = quotient_below scale z n m (omega arith) h in
    let above = quotient_above scale z n m small h in
    omega arith

-- a number greater by a multiple has a quotient greater by as much
floor_shifted : (z d k : ℤ) → pos 0 <ℤ d → floor (z +ℤ (k *ℤ d)) d ≡ floor z d +ℤ k
floor_shifted z d k above =
    let raised = z +ℤ (k *ℤ d) in
    let down : (floor z d *ℤ d) ≤ℤ z = (IsFloor-floor z d above).at_most in
    let raised_down : (floor raised d *ℤ d) ≤ℤ raised = (IsFloor-floor raised d above).at_most in
    let no_less : (floor z d +ℤ k) ≤ℤ floor raised d = floor_above raised d (floor z d +ℤ k) above (omega (arith, ints, down, distrib_right (floor z d) k d)) in
    let no_more : (floor raised d -ℤ k) ≤ℤ floor z d = floor_above z d (floor raised d -ℤ k) above (omega (arith, ints, raised_down, distrib_right (floor raised d) (neg_ℤ k) d, negated_left k d)) in
    omega (arith, ints, no_less, no_more)

-- so the floor, from the quotient of a number that is not negative
pub floor_from_raised : (far : ℕ) (z : ℤ) (n raised : ℕ) → 0 < n → pos raised ≡ z +ℤ pos (far * n) → pos (raised / n) ≡ floor z (pos n) +ℤ pos far
floor_from_raised far z n raised some h =
    let above : pos 0 <ℤ pos n = omega (arith, ints) in
    ap (λ (t : ℤ). floor t (pos n)) h ∙ floor_shifted z (pos n) (pos far) above
