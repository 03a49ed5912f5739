-- What lies in an interval, and what the operations that round nothing keep of it.
use Rattle.std.proofs.Common.{◌≡◌, ◌↔◌, ◌⊎◌, inl, inr, ℤ, pos, ◌+ℤ◌, ◌-ℤ◌, ◌*ℤ◌, neg_ℤ, ◌≤ℤ◌, ◌<ℤ◌, refl, sym, ap₂, subst, [], ◌∷◌, arith}
use Rattle.std.proofs.lemmas.Int.{ints, clamps}
use Rattle.std.specs.Int.{int_max}
use Rattle.drm_num.specs.Fraction.{Fraction, IsProper, IsSame, plus, minus, opposite, times, whole}
use Rattle.drm_num.specs.Interval.{Interval, IsOrdered, IsAtLeastUlps, Lies, Meets, Overlaps, unit, ulps}
use Rattle.drm_num.specs.Arithmetic.{sum, difference, scaled, hull, gap}
use Rattle.drm_num.proofs.Integers.{along, keeps, keeps_right, cancels_right, trans, sums, negates, sign, le_of_lt_z, product_above_zero, product_not_negative, zero_times, min_first, min_second, max_first, max_second, max_is}
use Rattle.drm_num.proofs.Ring.{Var, Lit, Sum, Prod, Neg, ring}
use Rattle.drm_num.proofs.FractionLemmas.{low_of_same, high_of_same, IsSame-cancelled}

-- ---- in general

pub Lies-ordered : {x : Fraction} {s : Interval} → Lies x s → IsOrdered s
Lies-ordered {x} h = cancels_right x.bottom h.proper (trans h.above h.below)

-- what lies in an interval lies in a wider one
pub Lies-wider : {x : Fraction} (s u : Interval) → u.lo ≤ℤ s.lo → s.hi ≤ℤ u.hi → Lies x s → Lies x u
Lies-wider {x} s u below above h = record {
  proper = h.proper;
  above = trans (keeps_right x.bottom (le_of_lt_z h.proper) below) h.above;
  below = trans h.below (keeps_right x.bottom (le_of_lt_z h.proper) above);
}

-- where a number lies, it lies under each spelling
pub Lies-same : {x y : Fraction} {s : Interval} → IsProper y → IsSame x y → Lies x s → Lies y s
Lies-same {x} {y} {s} p e h = record {
  proper = p;
  above = low_of_same unit s.lo x.top x.bottom y.top y.bottom h.proper p e.same h.above;
  below = high_of_same unit s.hi x.top x.bottom y.top y.bottom h.proper p e.same h.below;
}

pub Lies-cancelled : (k t b : ℤ) {s : Interval} → pos 0 <ℤ b → Lies (record { top = k *ℤ t; bottom = k *ℤ b }) s → Lies (record { top = t; bottom = b }) s
Lies-cancelled k t b p h = Lies-same p (IsSame-cancelled k t b) h

-- a whole number of ulps between the ends
pub Lies-ulps : (k : ℤ) (s : Interval) → s.lo ≤ℤ k → k ≤ℤ s.hi → Lies (ulps k) s
Lies-ulps k s below above = record {
  proper = omega (arith, ints);
  above = omega (arith, ints);
  below = omega (arith, ints);
}

-- ---- sums and differences

weighted : {a b c d : ℤ} (p q : ℤ) → pos 0 <ℤ p → pos 0 <ℤ q → a ≤ℤ b → c ≤ℤ d → ((a *ℤ q) +ℤ (c *ℤ p)) ≤ℤ ((b *ℤ q) +ℤ (d *ℤ p))
weighted p q h k first second = sums (keeps_right q (le_of_lt_z k) first) (keeps_right p (le_of_lt_z h) second)

sum_of_ends : (a b p q : ℤ) → ((a *ℤ p) *ℤ q) +ℤ ((b *ℤ q) *ℤ p) ≡ (a +ℤ b) *ℤ (p *ℤ q)
sum_of_ends a b p q =
    let x = Var 0 in
    let y = Var 1 in
    let u = Var 2 in
    let v = Var 3 in
    ring (a ∷ b ∷ p ∷ q ∷ []) (Sum (Prod (Prod x u) v) (Prod (Prod y v) u)) (Prod (Sum x y) (Prod u v)) refl

sum_of_tops : (f n p m q : ℤ) → ((f *ℤ n) *ℤ q) +ℤ ((f *ℤ m) *ℤ p) ≡ f *ℤ ((n *ℤ q) +ℤ (m *ℤ p))
sum_of_tops f n p m q =
    let a = Var 0 in
    let x = Var 1 in
    let u = Var 2 in
    let y = Var 3 in
    let v = Var 4 in
    ring (f ∷ n ∷ p ∷ m ∷ q ∷ []) (Sum (Prod (Prod a x) v) (Prod (Prod a y) u)) (Prod a (Sum (Prod x v) (Prod y u))) refl

pub Lies-sum : {x y : Fraction} {a b : Interval} → Lies x a → Lies y b → Lies (plus x y) (sum a b)
Lies-sum {x} {y} {a} {b} h k = record {
  proper = product_above_zero h.proper k.proper;
  above = along (sum_of_ends a.lo b.lo x.bottom y.bottom) (sum_of_tops unit x.top x.bottom y.top y.bottom) (weighted x.bottom y.bottom h.proper k.proper h.above k.above);
  below = along (sum_of_tops unit x.top x.bottom y.top y.bottom) (sum_of_ends a.hi b.hi x.bottom y.bottom) (weighted x.bottom y.bottom h.proper k.proper h.below k.below);
}

difference_of_ends : (a b p q : ℤ) → ((a *ℤ p) *ℤ q) +ℤ (neg_ℤ (b *ℤ q) *ℤ p) ≡ (a -ℤ b) *ℤ (p *ℤ q)
difference_of_ends a b p q =
    let x = Var 0 in
    let y = Var 1 in
    let u = Var 2 in
    let v = Var 3 in
    ring (a ∷ b ∷ p ∷ q ∷ []) (Sum (Prod (Prod x u) v) (Prod (Neg (Prod y v)) u)) (Prod (Sum x (Neg y)) (Prod u v)) refl

difference_of_tops : (f n p m q : ℤ) → ((f *ℤ n) *ℤ q) +ℤ (neg_ℤ (f *ℤ m) *ℤ p) ≡ f *ℤ ((n *ℤ q) -ℤ (m *ℤ p))
difference_of_tops f n p m q =
    let a = Var 0 in
    let x = Var 1 in
    let u = Var 2 in
    let y = Var 3 in
    let v = Var 4 in
    ring (f ∷ n ∷ p ∷ m ∷ q ∷ []) (Sum (Prod (Prod a x) v) (Prod (Neg (Prod a y)) u)) (Prod a (Sum (Prod x v) (Neg (Prod y u)))) refl

pub Lies-difference : {x y : Fraction} {a b : Interval} → Lies x a → Lies y b → Lies (minus x y) (difference a b)
Lies-difference {x} {y} {a} {b} h k = record {
  proper = product_above_zero h.proper k.proper;
  above = along (difference_of_ends a.lo b.hi x.bottom y.bottom) (difference_of_tops unit x.top x.bottom y.top y.bottom) (weighted x.bottom y.bottom h.proper k.proper h.above (negates k.below));
  below = along (difference_of_tops unit x.top x.bottom y.top y.bottom) (difference_of_ends a.hi b.lo x.bottom y.bottom) (weighted x.bottom y.bottom h.proper k.proper h.below (negates k.above));
}

pub Lies-opposite : {x : Fraction} {s : Interval} → Lies x s → Lies (opposite x) (record { lo = neg_ℤ s.hi; hi = neg_ℤ s.lo })
Lies-opposite {x} {s} h =
    let u = Var 0 in
    let v = Var 1 in
    let end : (e p : ℤ) → neg_ℤ (e *ℤ p) ≡ neg_ℤ e *ℤ p = λ e p. ring (e ∷ p ∷ []) (Neg (Prod u v)) (Prod (Neg u) v) refl in
    let top : (f n : ℤ) → neg_ℤ (f *ℤ n) ≡ f *ℤ neg_ℤ n = λ f n. ring (f ∷ n ∷ []) (Neg (Prod u v)) (Prod u (Neg v)) refl in
    record {
      proper = h.proper;
      above = along (end s.hi x.bottom) (top unit x.top) (negates h.below);
      below = along (top unit x.top) (end s.lo x.bottom) (negates h.above);
    }

-- ---- whole multiples

pub Lies-scaled : (k : ℤ) {x : Fraction} {s : Interval} → pos 0 ≤ℤ k → Lies x s → Lies (times (whole k) x) (scaled k s)
Lies-scaled k {x} {s} p h =
    let u = Var 0 in
    let v = Var 1 in
    let w = Var 2 in
    let end : (e b : ℤ) → k *ℤ (e *ℤ b) ≡ (k *ℤ e) *ℤ (pos 1 *ℤ b) = λ e b. ring (k ∷ e ∷ b ∷ []) (Prod u (Prod v w)) (Prod (Prod u v) (Prod (Lit (pos 1)) w)) refl in
    let top : (f n : ℤ) → k *ℤ (f *ℤ n) ≡ f *ℤ (k *ℤ n) = λ f n. ring (k ∷ f ∷ n ∷ []) (Prod u (Prod v w)) (Prod v (Prod u w)) refl in
    let one_positive : pos 0 <ℤ pos 1 = omega (arith, ints) in
    record {
      proper = product_above_zero one_positive h.proper;
      above = along (end s.lo x.bottom) (top unit x.top) (keeps k p h.above);
      below = along (top unit x.top) (end s.hi x.bottom) (keeps k p h.below);
    }

-- ---- hulls and common parts

pub Lies-hull_first : {x : Fraction} (a b : Interval) → Lies x a → Lies x (hull a b)
Lies-hull_first a b h = Lies-wider a (hull a b) (min_first a.lo b.lo) (max_first a.hi b.hi) h

pub Lies-hull_second : {x : Fraction} (a b : Interval) → Lies x b → Lies x (hull a b)
Lies-hull_second a b h = Lies-wider b (hull a b) (min_second a.lo b.lo) (max_second a.hi b.hi) h

-- ---- where two intervals meet, and how far they are apart

pub Overlaps-from_meets : {a b : Interval} → Meets a b → Overlaps a b
Overlaps-from_meets {a} {b} h = record {
  first = cancels_right h.common.bottom h.in_first.proper (trans h.in_first.above h.in_second.below);
  second = cancels_right h.common.bottom h.in_first.proper (trans h.in_second.above h.in_first.below);
}

pub Meets-from_overlap : {a b : Interval} → IsOrdered a → IsOrdered b → Overlaps a b → Meets a b
Meets-from_overlap {a} {b} p q h =
    let k = int_max a.lo b.lo in
    elim (max_is a.lo b.lo) [
      | inl e ↦
          let low : b.lo ≤ℤ a.lo = along refl e (max_second a.lo b.lo) in
          record { common = ulps a.lo; in_first = Lies-ulps a.lo a (omega (arith, ints)) p; in_second = Lies-ulps a.lo b low h.first }
      | inr e ↦
          let low : a.lo ≤ℤ b.lo = along refl e (max_first a.lo b.lo) in
          record { common = ulps b.lo; in_first = Lies-ulps b.lo a low h.second; in_second = Lies-ulps b.lo b (omega (arith, ints)) q }
    ]

pub gap-zero : (a b : Interval) → gap a b ≡ pos 0 → Overlaps a b
gap-zero a b e = record { first = omega (arith, ints, clamps, e); second = omega (arith, ints, clamps, e) }

pub gap-overlap : (a b : Interval) → Overlaps a b → gap a b ≡ pos 0
gap-overlap a b h = omega (arith, ints, clamps, h.first, h.second)

pub gap-meet : {a b : Interval} → IsOrdered a → IsOrdered b → (gap a b ≡ pos 0) ↔ Meets a b
gap-meet {a} {b} p q = (λ e. Meets-from_overlap p q (gap-zero a b e), λ h. gap-overlap a b (Overlaps-from_meets h))

-- one of two numbers is at least the other
one_is_first : (f t : ℤ) → pos 0 ≤ℤ f → (pos 0 ≤ℤ (f *ℤ t)) ⊎ (pos 0 ≤ℤ (f *ℤ neg_ℤ t))
one_is_first f t p =
    elim (sign t) [
      | inl s ↦ inl (product_not_negative p s)
      | inr s ↦ inr (product_not_negative p (along refl refl (negates s)))
    ]

opposite_top : (f n p m q : ℤ) → f *ℤ neg_ℤ ((n *ℤ q) -ℤ (m *ℤ p)) ≡ f *ℤ ((m *ℤ p) -ℤ (n *ℤ q))
opposite_top f n p m q =
    let a = Var 0 in
    let x = Var 1 in
    let u = Var 2 in
    let y = Var 3 in
    let v = Var 4 in
    ring (f ∷ n ∷ p ∷ m ∷ q ∷ []) (Prod a (Neg (Sum (Prod x v) (Neg (Prod y u))))) (Prod a (Sum (Prod y u) (Neg (Prod x v)))) refl

above_zero_or_below : (x y : Fraction) → IsAtLeastUlps (pos 0) (minus x y) ⊎ IsAtLeastUlps (pos 0) (minus y x)
above_zero_or_below x y =
    let t = (x.top *ℤ y.bottom) -ℤ (y.top *ℤ x.bottom) in
    elim (one_is_first unit t (omega (arith, ints))) [
      | inl s ↦ inl (along (sym (zero_times (x.bottom *ℤ y.bottom))) refl s)
      | inr s ↦ inr (along (sym (zero_times (y.bottom *ℤ x.bottom))) (opposite_top unit x.top x.bottom y.top y.bottom) s)
    ]

-- numbers of two intervals are at least the gap apart
pub gap-apart : {x y : Fraction} {a b : Interval} → Lies x a → Lies y b → IsAtLeastUlps (gap a b) (minus x y) ⊎ IsAtLeastUlps (gap a b) (minus y x)
gap-apart {x} {y} {a} {b} h k =
    let first = b.lo -ℤ a.hi in
    let second = a.lo -ℤ b.hi in
    let P : ℤ → Type 0 = λ g. IsAtLeastUlps g (minus x y) ⊎ IsAtLeastUlps g (minus y x) in
    elim (max_is (int_max first second) (pos 0)) [
      | inl e ↦
          subst P (sym e)
          (elim (max_is first second) [
            | inl d ↦ subst P (sym d) (inr (Lies-difference k h).above)
            | inr d ↦ subst P (sym d) (inl (Lies-difference h k).above)
          ])
      | inr e ↦ subst P (sym e) (above_zero_or_below x y)
    ]

-- two intervals with the same ends are one
pub same_ends : (s u : Interval) → s.lo ≡ u.lo → s.hi ≡ u.hi → s ≡ u
same_ends s u e d =
    let build : ℤ → ℤ → Interval = λ l h. record { lo = l; hi = h } in
    ap₂ build e d
