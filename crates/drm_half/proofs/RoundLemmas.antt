-- A quotient rounded up, from the same rounded down.
use Rattle.std.proofs.Common.{◌≡◌, ℤ, pos, ◌+ℤ◌, ◌*ℤ◌, ◌≤ℤ◌, ◌<ℤ◌, arith}
use Rattle.std.proofs.lemmas.Int.{ints, by_lt_z}
use Rattle.drm_num.specs.Quotient.{floor, ceiling}
use Rattle.drm_num.proofs.Integers.{keeps_right, cancels_right, le_of_lt_z}
use Rattle.drm_num.proofs.Rounding.{IsFloor-floor, IsCeiling-ceiling, ceiling_below}

-- the division leaves nothing
pub ceiling_exact : (n d : ℤ) → pos 0 <ℤ d → floor n d *ℤ d ≡ n → ceiling n d ≡ floor n d
ceiling_exact n d above whole =
    let high : ceiling n d ≤ℤ floor n d = ceiling_below n d (floor n d) above (omega (arith, ints)) in
    let least = (IsCeiling-ceiling n d above).at_least in
    let scaled : (floor n d *ℤ d) ≤ℤ (ceiling n d *ℤ d) = omega (arith, ints) in
    let low : floor n d ≤ℤ ceiling n d = cancels_right d above scaled in
    omega (arith, ints, high, low)

-- the division leaves something
pub ceiling_next : (n d : ℤ) → pos 0 <ℤ d → (floor n d *ℤ d ≡ n → ⊥) → ceiling n d ≡ floor n d +ℤ pos 1
ceiling_next n d above rest =
    let down = IsFloor-floor n d above in
    let high : ceiling n d ≤ℤ (floor n d +ℤ pos 1) = ceiling_below n d (floor n d +ℤ pos 1) above (le_of_lt_z down.next_is_above) in
    by_lt_z (floor n d) (ceiling n d)
    (λ past. omega (arith, ints, high, past))
    (λ not_past.
    let least = (IsCeiling-ceiling n d above).at_least in
    let low = down.at_most in
    let scaled : (ceiling n d *ℤ d) ≤ℤ (floor n d *ℤ d) = keeps_right d (le_of_lt_z above) not_past in
    let whole : floor n d *ℤ d ≡ n = omega (arith, ints, least, low, scaled) in
    absurd (rest whole))
