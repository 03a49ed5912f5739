use Rattle.std.proofs.Common.{◌≡◌, ◌≤ℤ◌, ◌*ℤ◌, ℤ, pos, neg_ℤ, ◌^◌, ap, ◌∙◌, arith, FitsSigned, w64, to_z, of_z, to_z-of_z}
use Rattle.std.proofs.lemmas.Int.{ints}
use Rattle.drm_num.specs.Interval.{Interval}
use Rattle.drm_num.proofs.Integers.{product_within, keeps}
use Rattle.drm_num.proofs.IntervalLemmas.{same_ends, Lies-scaled}
use Rattle.drm_num.proofs.interval.Iv.scale.Goals as goal

-- the product of a factor and an end fits its type
scaled_end : (k z : ℤ) → pos 0 ≤ℤ k → k ≤ℤ pos 4096 → neg_ℤ (pos (2 ^ 50)) ≤ℤ z → z ≤ℤ pos (2 ^ 50) → to_z w64 (of_z w64 (to_z w64 (of_z w64 k) *ℤ to_z w64 (of_z w64 z))) ≡ k *ℤ z
scaled_end k z not_negative k_in low high =
    let k_low : neg_ℤ (pos 4096) ≤ℤ k = omega (arith, ints) in
    let bounds = product_within k_low k_in low high in
    let k_fits : FitsSigned w64 k = omega (arith, ints) in
    let z_fits : FitsSigned w64 z = omega (arith, ints) in
    let fits : FitsSigned w64 (k *ℤ z) = omega (arith, ints, bounds.0, bounds.1) in
    simp to_z-of_z

pub returns-clause-value : goal.returns-clause-value
returns-clause-value c =
    let self_lo : c.self.inside.lo ≡ c.args.self.lo = ap (λ (s : Interval). s.lo) c.self.view_is in
    let self_hi : c.self.inside.hi ≡ c.args.self.hi = ap (λ (s : Interval). s.hi) c.self.view_is in
    let lo_is = scaled_end c.args.k c.self.inside.lo c.requires.not_negative c.requires.k_in (omega (arith, ints)) (omega (arith, ints)) in
    let hi_is = scaled_end c.args.k c.self.inside.hi c.requires.not_negative c.requires.k_in (omega (arith, ints)) (omega (arith, ints)) in
    same_ends _ _ (lo_is ∙ ap (λ (z : ℤ). c.args.k *ℤ z) self_lo) (hi_is ∙ ap (λ (z : ℤ). c.args.k *ℤ z) self_hi)

pub invariant_of-result : goal.invariant_of-result
invariant_of-result c =
    let self_lo : c.self.inside.lo ≡ c.args.self.lo = ap (λ (s : Interval). s.lo) c.self.view_is in
    let self_hi : c.self.inside.hi ≡ c.args.self.hi = ap (λ (s : Interval). s.hi) c.self.view_is in
    let lo_is = scaled_end c.args.k c.self.inside.lo c.requires.not_negative c.requires.k_in (omega (arith, ints)) (omega (arith, ints)) in
    let hi_is = scaled_end c.args.k c.self.inside.hi c.requires.not_negative c.requires.k_in (omega (arith, ints)) (omega (arith, ints)) in
    rw (lo_is, hi_is) (keeps c.args.k c.requires.not_negative c.self.invariant)

pub returns-clause-contains : goal.returns-clause-contains
returns-clause-contains c = λ x h. rw (returns-clause-value c) (Lies-scaled c.args.k c.requires.not_negative h)
