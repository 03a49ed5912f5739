-- The least and the greatest of the first numbers, one more each time.
use Rattle.std.proofs.Common.{◌≡◌, inl, inr, ℕ, ◌+◌, subst, sym, ◌∙◌, refl, arith}
use Rattle.std.specs.Prelude.{ℤ, ◌≤ℤ◌}
use Rattle.std.specs.Int.{int_min, int_max}
use Rattle.std.proofs.lemmas.Bool.{cases_lt}
use Rattle.drm_num.proofs.Integers.{along, le_self, trans, min_first, min_second, max_first, max_second, min_is, max_is}
use Rattle.drm_foot.specs.Bounds.{IsSpan}

pub span_one : (at : ℕ → ℤ) (low high : ℤ) → low ≡ at 0 → high ≡ at 0 → IsSpan 1 at low high
span_one at low high is_low is_high = record {
  least = λ i below. let same : 0 ≡ i = omega arith in subst (λ (k : ℕ). low ≤ℤ at k) same (along (sym is_low) (sym is_low ∙ is_low) (le_self (at 0)));
  most = λ i below. let same : 0 ≡ i = omega arith in subst (λ (k : ℕ). at k ≤ℤ high) same (along (sym is_high ∙ is_high) (sym is_high) (le_self (at 0)));
  has_least = (0, omega arith, sym is_low);
  has_most = (0, omega arith, sym is_high);
}

pub span_more : (n : ℕ) (at : ℕ → ℤ) (low high z least most : ℤ) → z ≡ at n → least ≡ int_min low z → most ≡ int_max high z → IsSpan n at low high → IsSpan (n + 1) at least most
span_more n at low high z least most is is_least is_most span = record {
  least = λ i below. elim (cases_lt i n) [
    | inl earlier ↦ along (sym is_least) (same_at i i) (trans (min_first low z) (span.least i earlier))
    | inr last ↦ (let same : n ≡ i = omega arith in subst (λ (k : ℕ). least ≤ℤ at k) same (along (sym is_least) is (min_second low z)))
  ];
  most = λ i below. elim (cases_lt i n) [
    | inl earlier ↦ along (same_at i i) (sym is_most) (trans (span.most i earlier) (max_first high z))
    | inr last ↦ (let same : n ≡ i = omega arith in subst (λ (k : ℕ). at k ≤ℤ most) same (along is (sym is_most) (max_second high z)))
  ];
  has_least = elim (min_is low z) [
    | inl e ↦ (let (i, below, here) = span.has_least in (i, omega arith, here ∙ (sym e ∙ sym is_least)))
    | inr e ↦ (n, omega arith, sym is ∙ (sym e ∙ sym is_least))
  ];
  has_most = elim (max_is high z) [
    | inl e ↦ (let (i, below, here) = span.has_most in (i, omega arith, here ∙ (sym e ∙ sym is_most)))
    | inr e ↦ (n, omega arith, sym is ∙ (sym e ∙ sym is_most))
  ];
}
  where
    same_at : (i k : ℕ) → at i ≡ at i
    same_at i k = refl
