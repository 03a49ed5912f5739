-- The gap, as the program finds it.
use Rattle.std.proofs.Common.{◌≡◌, ℕ, ◌≤◌, refl, ◌∙◌, arith}
use Rattle.std.specs.Prelude.{ℤ, pos, negsuc, nat_abs, ◌-ℤ◌, ◌≤ℤ◌}
use Rattle.std.specs.Int.{int_max}
use Rattle.std.proofs.lemmas.Int.{ints, clamps}
use Rattle.drm_num.specs.Small.{IsSmall}
use Rattle.drm_foot.specs.Gap.{gap}

pub whole_size : (z : ℤ) → pos 0 ≤ℤ z → pos (nat_abs z) ≡ z
whole_size (pos n) up = refl
whole_size (negsuc n) up = absurd (omega (arith, ints))

pub gap_found : (at low high m z : ℤ) → m ≡ int_max (low -ℤ at) (at -ℤ high) → z ≡ int_max m (pos 0) → pos (nat_abs z) ≡ gap at low high
gap_found at low high m z first second =
    let up : pos 0 ≤ℤ z = omega (arith, ints, clamps) in
    let same : z ≡ gap at low high = omega (arith, ints, clamps) in
    whole_size z up ∙ same

pub gap_small : (at low high : ℤ) (n : ℕ) → IsSmall (pos 65536) at → IsSmall (pos 65536) low → IsSmall (pos 65536) high → pos n ≡ gap at low high → n ≤ 131072
gap_small at low high n a l h is =
    let a0 = a.low in let a1 = a.high in let l0 = l.low in let l1 = l.high in let h0 = h.low in let h1 = h.high in
    omega (arith, ints, clamps)
