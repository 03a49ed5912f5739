-- Laws of sums, products and orders of whole numbers with a sign.
-- `up z` and `down z` are the two parts of z, of which one is 0: z is `up z - down z`.
use Rattle.std.proofs.Common.{◌≡◌, ℕ, ◌*◌, ◌⊎◌, inl, inr, ℤ, pos, negsuc, ◌+ℤ◌, ◌*ℤ◌, neg_ℤ, ◌≤ℤ◌, ◌<ℤ◌, refl, sym, ap, ◌∙◌, arith, mul-le-mul, le_refl}
use Rattle.std.proofs.lemmas.Int.{ints, by_lt_z}
use Rattle.std.specs.Int.{int_min, int_max}
use borrow.Author.Differences.{up, down, sum_is_lem, product_is, neg_is, le_out}
use lib.IntN.{*ℤ_comm, zero-*ℤ}

-- ---- sums and products

pub distrib : (a b c : ℤ) → a *ℤ (b +ℤ c) ≡ (a *ℤ b) +ℤ (a *ℤ c)
distrib a b c =
    omega (arith, ints, ap (λ (t : ℕ). up a * t) (sum_is_lem b c), ap (λ (t : ℕ). down a * t) (sum_is_lem b c))

pub distrib_right : (a b c : ℤ) → (a +ℤ b) *ℤ c ≡ (a *ℤ c) +ℤ (b *ℤ c)
distrib_right a b c =
    omega (arith, ints, ap (λ (t : ℕ). up c * t) (sum_is_lem a b), ap (λ (t : ℕ). down c * t) (sum_is_lem a b))

pub comm : (a b : ℤ) → a *ℤ b ≡ b *ℤ a
comm a b = *ℤ_comm a b

pub assoc : (a b c : ℤ) → (a *ℤ b) *ℤ c ≡ a *ℤ (b *ℤ c)
assoc a b c =
    omega (arith, ints, ap (λ (t : ℕ). up c * t) (product_is a b).0, ap (λ (t : ℕ). down c * t) (product_is a b).0, ap (λ (t : ℕ). up c * t) (product_is a b).1, ap (λ (t : ℕ). down c * t) (product_is a b).1, ap (λ (t : ℕ). up a * t) (product_is b c).0, ap (λ (t : ℕ). down a * t) (product_is b c).0, ap (λ (t : ℕ). up a * t) (product_is b c).1, ap (λ (t : ℕ). down a * t) (product_is b c).1)

pub times_one : (a : ℤ) → a *ℤ pos 1 ≡ a
times_one a = omega (arith, ints)

pub one_times : (a : ℤ) → pos 1 *ℤ a ≡ a
one_times a = omega (arith, ints)

pub zero_times : (a : ℤ) → pos 0 *ℤ a ≡ pos 0
zero_times a = zero-*ℤ a

pub left_middle : (a b c : ℤ) → a *ℤ (b *ℤ c) ≡ b *ℤ (a *ℤ c)
left_middle a b c = sym (assoc a b c) ∙ ap (λ (t : ℤ). t *ℤ c) (comm a b) ∙ assoc b a c

pub swap_middle : (a b c d : ℤ) → (a *ℤ b) *ℤ (c *ℤ d) ≡ (a *ℤ c) *ℤ (b *ℤ d)
swap_middle a b c d = assoc a b (c *ℤ d) ∙ ap (λ (t : ℤ). a *ℤ t) (left_middle b c d) ∙ sym (assoc a c (b *ℤ d))

pub negated_left : (a b : ℤ) → neg_ℤ a *ℤ b ≡ neg_ℤ (a *ℤ b)
negated_left a b =
    omega (arith, ints, ap (λ (t : ℕ). up b * t) (neg_is a).0, ap (λ (t : ℕ). down b * t) (neg_is a).0, ap (λ (t : ℕ). up b * t) (neg_is a).1, ap (λ (t : ℕ). down b * t) (neg_is a).1)

pub negated_right : (a b : ℤ) → a *ℤ neg_ℤ b ≡ neg_ℤ (a *ℤ b)
negated_right a b = comm a (neg_ℤ b) ∙ negated_left b a ∙ ap neg_ℤ (comm b a)

-- ---- orders

pub trans : {a b c : ℤ} → a ≤ℤ b → b ≤ℤ c → a ≤ℤ c
trans {a} {b} {c} h k = omega (arith, ints)

pub le_self : (a : ℤ) → a ≤ℤ a
le_self a = omega (arith, ints)

pub le_of_lt_z : {a b : ℤ} → a <ℤ b → a ≤ℤ b
le_of_lt_z {a} {b} h = omega (arith, ints)

-- both sides of an order, rewritten
pub along : {a b c d : ℤ} → a ≡ c → b ≡ d → a ≤ℤ b → c ≤ℤ d
along {a} {b} {c} {d} p q h = omega (arith, ints)

-- what lies above a by something that is not negative
pub by_gap : (a b e : ℤ) → b ≡ a +ℤ e → pos 0 ≤ℤ e → a ≤ℤ b
by_gap a b e p h = omega (arith, ints)

pub not_above : {a b : ℤ} → (b <ℤ a → ⊥) → a ≤ℤ b
not_above {a} {b} h = by_lt_z b a (λ k. absurd (h k)) (λ k. k)

pub sums : {a b c d : ℤ} → a ≤ℤ b → c ≤ℤ d → (a +ℤ c) ≤ℤ (b +ℤ d)
sums {a} {b} {c} {d} h k = omega (arith, ints)

pub negates : {a b : ℤ} → a ≤ℤ b → neg_ℤ b ≤ℤ neg_ℤ a
negates {a} {b} h = omega (arith, ints)

-- a number is not negative, or its opposite is not
pub sign : (a : ℤ) → (pos 0 ≤ℤ a) ⊎ (a ≤ℤ pos 0)
sign (pos n) = inl (omega (arith, ints))
sign (negsuc n) = inr (omega (arith, ints))

-- ---- orders of products

pub keeps : (k : ℤ) {a b : ℤ} → pos 0 ≤ℤ k → a ≤ℤ b → (k *ℤ a) ≤ℤ (k *ℤ b)
keeps (pos k) {a} {b} p h = omega (arith, ints, mul-le-mul (le_refl k) (le_out a b h))
keeps (negsuc k) {a} {b} p h = absurd (omega (arith, ints))

pub keeps_right : (k : ℤ) {a b : ℤ} → pos 0 ≤ℤ k → a ≤ℤ b → (a *ℤ k) ≤ℤ (b *ℤ k)
keeps_right k {a} {b} p h = along (comm k a) (comm k b) (keeps k p h)

pub turns : (k : ℤ) {a b : ℤ} → k ≤ℤ pos 0 → a ≤ℤ b → (k *ℤ b) ≤ℤ (k *ℤ a)
turns k {a} {b} p h =
    let q : pos 0 ≤ℤ neg_ℤ k = omega (arith, ints) in
    let r : (neg_ℤ k *ℤ a) ≤ℤ (neg_ℤ k *ℤ b) = keeps (neg_ℤ k) q h in
    omega (arith, ints, negated_left k a, negated_left k b)

pub product_not_negative : {a b : ℤ} → pos 0 ≤ℤ a → pos 0 ≤ℤ b → pos 0 ≤ℤ (a *ℤ b)
product_not_negative {a} {b} h k = along (comm a (pos 0) ∙ zero-*ℤ a) refl (keeps a h k)

pub product_above_zero : {a b : ℤ} → pos 0 <ℤ a → pos 0 <ℤ b → pos 0 <ℤ (a *ℤ b)
product_above_zero {a} {b} h k =
    let one_up : pos 1 ≤ℤ b = omega (arith, ints) in
    let not_negative : pos 0 ≤ℤ a = omega (arith, ints) in
    let r : (a *ℤ pos 1) ≤ℤ (a *ℤ b) = keeps a not_negative one_up in
    omega (arith, ints, times_one a)

pub square_not_negative : (a : ℤ) → pos 0 ≤ℤ (a *ℤ a)
square_not_negative (pos n) = omega (arith, ints)
square_not_negative (negsuc n) = omega (arith, ints)

pub sum_not_negative : {a b : ℤ} → pos 0 ≤ℤ a → pos 0 ≤ℤ b → pos 0 ≤ℤ (a +ℤ b)
sum_not_negative {a} {b} h k = omega (arith, ints)

-- a factor above zero cancels
pub cancels : (k : ℤ) {a b : ℤ} → pos 0 <ℤ k → (k *ℤ a) ≤ℤ (k *ℤ b) → a ≤ℤ b
cancels k {a} {b} p h =
    by_lt_z b a
    (λ below.
    let over : (b +ℤ pos 1) ≤ℤ a = omega (arith, ints) in
    let q : pos 0 ≤ℤ k = omega (arith, ints) in
    let r : (k *ℤ (b +ℤ pos 1)) ≤ℤ (k *ℤ a) = keeps k q over in
    absurd (omega (arith, ints, distrib k b (pos 1), times_one k)))
    (λ other. other)

pub cancels_right : (k : ℤ) {a b : ℤ} → pos 0 <ℤ k → (a *ℤ k) ≤ℤ (b *ℤ k) → a ≤ℤ b
cancels_right k {a} {b} p h = cancels k p (along (comm a k) (comm b k) h)

-- the product of two numbers from the bounds of their sizes
pub product_within : {a b m n : ℤ} → neg_ℤ m ≤ℤ a → a ≤ℤ m → neg_ℤ n ≤ℤ b → b ≤ℤ n → (neg_ℤ (m *ℤ n) ≤ℤ (a *ℤ b)) × ((a *ℤ b) ≤ℤ (m *ℤ n))
product_within {a} {b} {m} {n} h k u v =
    let m_up : pos 0 ≤ℤ m = omega (arith, ints) in
    elim (sign b) [
      | inl s ↦
          let low : (neg_ℤ m *ℤ b) ≤ℤ (a *ℤ b) = keeps_right b s h in
          let high : (a *ℤ b) ≤ℤ (m *ℤ b) = keeps_right b s k in
          let top : (m *ℤ b) ≤ℤ (m *ℤ n) = keeps m m_up v in
          (omega (arith, ints, negated_left m b), omega (arith, ints))
      | inr s ↦
          let low : (b *ℤ m) ≤ℤ (b *ℤ a) = turns b s k in
          let high : (b *ℤ a) ≤ℤ (b *ℤ neg_ℤ m) = turns b s h in
          let top : (m *ℤ neg_ℤ n) ≤ℤ (m *ℤ b) = keeps m m_up u in
          (omega (arith, ints, negated_right m n, comm m b, comm a b), omega (arith, ints, negated_right m n, negated_right b m, comm m b, comm a b))
    ]

-- ---- the least and the greatest of two

pub min_first : (a b : ℤ) → int_min a b ≤ℤ a
min_first a b = grind (arith, ints)

pub min_second : (a b : ℤ) → int_min a b ≤ℤ b
min_second a b = grind (arith, ints)

pub max_first : (a b : ℤ) → a ≤ℤ int_max a b
max_first a b = grind (arith, ints)

pub max_second : (a b : ℤ) → b ≤ℤ int_max a b
max_second a b = grind (arith, ints)

pub max_is : (a b : ℤ) → (int_max a b ≡ a) ⊎ (int_max a b ≡ b)
max_is a b = grind (arith, ints)

pub min_is : (a b : ℤ) → (int_min a b ≡ a) ⊎ (int_min a b ≡ b)
min_is a b = grind (arith, ints)

pub min_above : {c a b : ℤ} → c ≤ℤ a → c ≤ℤ b → c ≤ℤ int_min a b
min_above {c} {a} {b} h k = elim (min_is a b) [ inl e ↦ along refl (sym e) h | inr e ↦ along refl (sym e) k ]

pub max_below : {c a b : ℤ} → a ≤ℤ c → b ≤ℤ c → int_max a b ≤ℤ c
max_below {c} {a} {b} h k = elim (max_is a b) [ inl e ↦ along (sym e) refl h | inr e ↦ along (sym e) refl k ]

pub min_rises : (a b c d : ℤ) → a ≤ℤ c → b ≤ℤ d → int_min a b ≤ℤ int_min c d
min_rises a b c d h k = min_above (trans (min_first a b) h) (trans (min_second a b) k)

pub max_rises : (a b c d : ℤ) → a ≤ℤ c → b ≤ℤ d → int_max a b ≤ℤ int_max c d
max_rises a b c d h k = max_below (trans h (max_first c d)) (trans k (max_second c d))
