-- What the rounded sums and differences of two products hold.
use Rattle.std.proofs.Common.{◌≡◌, inl, inr, ℤ, pos, ◌+ℤ◌, ◌-ℤ◌, ◌*ℤ◌, neg_ℤ, ◌≤ℤ◌, ◌<ℤ◌, refl, sym, ap, ◌∙◌, [], ◌∷◌}
use Rattle.std.specs.Int.{int_min, int_max}
use Rattle.drm_num.specs.Fraction.{Fraction, plus, minus, times}
use Rattle.drm_num.specs.Interval.{Interval, IsOrdered, EndsWithin, Lies, unit}
use Rattle.drm_num.specs.Arithmetic.{least_product, greatest_product, product_sum, product_difference}
use Rattle.drm_num.specs.Small.{IsSmall}
use Rattle.drm_num.proofs.Integers.{along, keeps, keeps_right, turns, cancels, trans, sums, negates, sign, comm, assoc, le_of_lt_z, product_above_zero, product_within, min_first, min_second, max_first, max_second, min_above, max_below, negated_left}
use Rattle.drm_num.proofs.Ring.{Var, Sum, Prod, Neg, ring}
use Rattle.drm_num.proofs.Rounding.{unit_positive, IsFloor-floor, IsCeiling-ceiling}

-- ---- bounds of a product

-- k times what lies between lo * d and hi * d, by a bound c of k * lo and k * hi
factor_low : (k lo hi d n c : ℤ) → pos 0 ≤ℤ d → (lo *ℤ d) ≤ℤ n → n ≤ℤ (hi *ℤ d) → c ≤ℤ (k *ℤ lo) → c ≤ℤ (k *ℤ hi) → (c *ℤ d) ≤ℤ (k *ℤ n)
factor_low k lo hi d n c p above below first second =
    elim (sign k) [
      | inl s ↦ trans (keeps_right d p first) (along (sym (assoc k lo d)) refl (keeps k s above))
      | inr s ↦ trans (keeps_right d p second) (along (sym (assoc k hi d)) refl (turns k s below))
    ]

factor_high : (k lo hi d n c : ℤ) → pos 0 ≤ℤ d → (lo *ℤ d) ≤ℤ n → n ≤ℤ (hi *ℤ d) → (k *ℤ lo) ≤ℤ c → (k *ℤ hi) ≤ℤ c → (k *ℤ n) ≤ℤ (c *ℤ d)
factor_high k lo hi d n c p above below first second =
    elim (sign k) [
      | inl s ↦ trans (along refl (sym (assoc k hi d)) (keeps k s below)) (keeps_right d p second)
      | inr s ↦ trans (along refl (sym (assoc k lo d)) (turns k s above)) (keeps_right d p first)
    ]

-- c is at most each product of two ends: then it is at most each product of two numbers between them
pub product_low : (c : ℤ) (a b : Interval) (p q n m : ℤ) → pos 0 <ℤ p → pos 0 <ℤ q → (a.lo *ℤ p) ≤ℤ n → n ≤ℤ (a.hi *ℤ p) → (b.lo *ℤ q) ≤ℤ m → m ≤ℤ (b.hi *ℤ q) → c ≤ℤ (a.lo *ℤ b.lo) → c ≤ℤ (a.lo *ℤ b.hi) → c ≤ℤ (a.hi *ℤ b.lo) → c ≤ℤ (a.hi *ℤ b.hi) → (c *ℤ (p *ℤ q)) ≤ℤ (n *ℤ m)
product_low c a b p q n m hp hq n_above n_below m_above m_below ll lh hl hh =
    let at_end : (e : ℤ) → c ≤ℤ (a.lo *ℤ e) → c ≤ℤ (a.hi *ℤ e) → (c *ℤ p) ≤ℤ (n *ℤ e) =
    λ e low high. along refl (comm e n) (factor_low e a.lo a.hi p n c (le_of_lt_z hp) n_above n_below (along refl (comm a.lo e) low) (along refl (comm a.hi e) high)) in
    along (assoc c p q) refl
    (factor_low n b.lo b.hi q m (c *ℤ p) (le_of_lt_z hq) m_above m_below (at_end b.lo ll hl) (at_end b.hi lh hh))

pub product_high : (c : ℤ) (a b : Interval) (p q n m : ℤ) → pos 0 <ℤ p → pos 0 <ℤ q → (a.lo *ℤ p) ≤ℤ n → n ≤ℤ (a.hi *ℤ p) → (b.lo *ℤ q) ≤ℤ m → m ≤ℤ (b.hi *ℤ q) → (a.lo *ℤ b.lo) ≤ℤ c → (a.lo *ℤ b.hi) ≤ℤ c → (a.hi *ℤ b.lo) ≤ℤ c → (a.hi *ℤ b.hi) ≤ℤ c → (n *ℤ m) ≤ℤ (c *ℤ (p *ℤ q))
product_high c a b p q n m hp hq n_above n_below m_above m_below ll lh hl hh =
    let at_end : (e : ℤ) → (a.lo *ℤ e) ≤ℤ c → (a.hi *ℤ e) ≤ℤ c → (n *ℤ e) ≤ℤ (c *ℤ p) =
    λ e low high. along (comm e n) refl (factor_high e a.lo a.hi p n c (le_of_lt_z hp) n_above n_below (along (comm a.lo e) refl low) (along (comm a.hi e) refl high)) in
    along refl (assoc c p q)
    (factor_high n b.lo b.hi q m (c *ℤ p) (le_of_lt_z hq) m_above m_below (at_end b.lo ll hl) (at_end b.hi lh hh))

-- the least of four numbers is at most each, and the greatest is at least each
least_of_four : (a b c d : ℤ) → (int_min (int_min a b) (int_min c d) ≤ℤ a) × (int_min (int_min a b) (int_min c d) ≤ℤ b) × (int_min (int_min a b) (int_min c d) ≤ℤ c) × (int_min (int_min a b) (int_min c d) ≤ℤ d)
least_of_four a b c d =
    let first = min_first (int_min a b) (int_min c d) in
    let second = min_second (int_min a b) (int_min c d) in
    (trans first (min_first a b), trans first (min_second a b), trans second (min_first c d), trans second (min_second c d))

greatest_of_four : (a b c d : ℤ) → (a ≤ℤ int_max (int_max a b) (int_max c d)) × (b ≤ℤ int_max (int_max a b) (int_max c d)) × (c ≤ℤ int_max (int_max a b) (int_max c d)) × (d ≤ℤ int_max (int_max a b) (int_max c d))
greatest_of_four a b c d =
    let first = max_first (int_max a b) (int_max c d) in
    let second = max_second (int_max a b) (int_max c d) in
    (trans (max_first a b) first, trans (max_second a b) first, trans (max_first c d) second, trans (max_second c d) second)

group_tops : (f n m : ℤ) → (f *ℤ n) *ℤ (f *ℤ m) ≡ f *ℤ (f *ℤ (n *ℤ m))
group_tops f n m =
    let x = Var 0 in
    let y = Var 1 in
    let z = Var 2 in
    ring (f ∷ n ∷ m ∷ []) (Prod (Prod x y) (Prod x z)) (Prod x (Prod x (Prod y z))) refl

-- the product of two numbers, in units of 2^-60, lies between the least and the greatest product of the ends
pub least_product-below : {x y : Fraction} {a b : Interval} → Lies x a → Lies y b → (least_product a b *ℤ (x.bottom *ℤ y.bottom)) ≤ℤ (unit *ℤ (unit *ℤ (x.top *ℤ y.top)))
least_product-below {x} {y} {a} {b} h k =
    let four = least_of_four (a.lo *ℤ b.lo) (a.lo *ℤ b.hi) (a.hi *ℤ b.lo) (a.hi *ℤ b.hi) in
    along refl (group_tops unit x.top y.top)
    (product_low (least_product a b) a b x.bottom y.bottom (unit *ℤ x.top) (unit *ℤ y.top) h.proper k.proper h.above h.below k.above k.below four.0 four.1 four.2 four.3)

pub greatest_product-above : {x y : Fraction} {a b : Interval} → Lies x a → Lies y b → (unit *ℤ (unit *ℤ (x.top *ℤ y.top))) ≤ℤ (greatest_product a b *ℤ (x.bottom *ℤ y.bottom))
greatest_product-above {x} {y} {a} {b} h k =
    let four = greatest_of_four (a.lo *ℤ b.lo) (a.lo *ℤ b.hi) (a.hi *ℤ b.lo) (a.hi *ℤ b.hi) in
    along (group_tops unit x.top y.top) refl
    (product_high (greatest_product a b) a b x.bottom y.bottom (unit *ℤ x.top) (unit *ℤ y.top) h.proper k.proper h.above h.below k.above k.below four.0 four.1 four.2 four.3)

-- ---- sums of two products, rounded

ends_of_sum : (c d p q : ℤ) → ((c *ℤ p) *ℤ q) +ℤ ((d *ℤ q) *ℤ p) ≡ (c +ℤ d) *ℤ (p *ℤ q)
ends_of_sum c d p q =
    let x = Var 0 in
    let y = Var 1 in
    let u = Var 2 in
    let v = Var 3 in
    ring (c ∷ d ∷ p ∷ q ∷ []) (Sum (Prod (Prod x u) v) (Prod (Prod y v) u)) (Prod (Sum x y) (Prod u v)) refl

tops_of_sum : (f n p m q : ℤ) → ((f *ℤ (f *ℤ n)) *ℤ q) +ℤ ((f *ℤ (f *ℤ m)) *ℤ p) ≡ f *ℤ (f *ℤ ((n *ℤ q) +ℤ (m *ℤ p)))
tops_of_sum f n p m q =
    let a = Var 0 in
    let x = Var 1 in
    let u = Var 2 in
    let y = Var 3 in
    let v = Var 4 in
    ring (f ∷ n ∷ p ∷ m ∷ q ∷ []) (Sum (Prod (Prod a (Prod a x)) v) (Prod (Prod a (Prod a y)) u)) (Prod a (Prod a (Sum (Prod x v) (Prod y u)))) refl

scaled_end : (z f b : ℤ) → (z *ℤ f) *ℤ b ≡ f *ℤ (z *ℤ b)
scaled_end z f b = ap (λ (t : ℤ). t *ℤ b) (comm z f) ∙ assoc f z b

-- c / p and d / q bound two products from below: z, the rounded sum, bounds their sum
pub sum_low : (f z c d p q n m : ℤ) → pos 0 <ℤ f → pos 0 <ℤ p → pos 0 <ℤ q → (z *ℤ f) ≤ℤ (c +ℤ d) → (c *ℤ p) ≤ℤ (f *ℤ (f *ℤ n)) → (d *ℤ q) ≤ℤ (f *ℤ (f *ℤ m)) → (z *ℤ (p *ℤ q)) ≤ℤ (f *ℤ ((n *ℤ q) +ℤ (m *ℤ p)))
sum_low f z c d p q n m hf hp hq rounded first second =
    cancels f hf
    (trans
    (along (scaled_end z f (p *ℤ q)) refl (keeps_right (p *ℤ q) (le_of_lt_z (product_above_zero hp hq)) rounded))
    (along (ends_of_sum c d p q) (tops_of_sum f n p m q) (sums (keeps_right q (le_of_lt_z hq) first) (keeps_right p (le_of_lt_z hp) second))))

pub sum_high : (f z c d p q n m : ℤ) → pos 0 <ℤ f → pos 0 <ℤ p → pos 0 <ℤ q → (c +ℤ d) ≤ℤ (z *ℤ f) → (f *ℤ (f *ℤ n)) ≤ℤ (c *ℤ p) → (f *ℤ (f *ℤ m)) ≤ℤ (d *ℤ q) → (f *ℤ ((n *ℤ q) +ℤ (m *ℤ p))) ≤ℤ (z *ℤ (p *ℤ q))
sum_high f z c d p q n m hf hp hq rounded first second =
    cancels f hf
    (trans
    (along (tops_of_sum f n p m q) (ends_of_sum c d p q) (sums (keeps_right q (le_of_lt_z hq) first) (keeps_right p (le_of_lt_z hp) second)))
    (along refl (scaled_end z f (p *ℤ q)) (keeps_right (p *ℤ q) (le_of_lt_z (product_above_zero hp hq)) rounded)))

pub Lies-product_sum : {x y u v : Fraction} {a b c d : Interval} → Lies x a → Lies y b → Lies u c → Lies v d → Lies (plus (times x y) (times u v)) (product_sum a b c d)
unfolding product_sum
Lies-product_sum {x} {y} {u} {v} {a} {b} {c} {d} hx hy hu hv =
    let p = product_above_zero hx.proper hy.proper in
    let q = product_above_zero hu.proper hv.proper in
    record {
      proper = product_above_zero p q;
      above = sum_low unit _ (least_product a b) (least_product c d) _ _ (x.top *ℤ y.top) (u.top *ℤ v.top) unit_positive p q (IsFloor-floor (least_product a b +ℤ least_product c d) unit unit_positive).at_most (least_product-below hx hy) (least_product-below hu hv);
      below = sum_high unit _ (greatest_product a b) (greatest_product c d) _ _ (x.top *ℤ y.top) (u.top *ℤ v.top) unit_positive p q (IsCeiling-ceiling (greatest_product a b +ℤ greatest_product c d) unit unit_positive).at_least (greatest_product-above hx hy) (greatest_product-above hu hv);
    }

-- ---- differences of two products, rounded

negated_top : (f m : ℤ) → neg_ℤ (f *ℤ (f *ℤ m)) ≡ f *ℤ (f *ℤ neg_ℤ m)
negated_top f m =
    let x = Var 0 in
    let y = Var 1 in
    ring (f ∷ m ∷ []) (Neg (Prod x (Prod x y))) (Prod x (Prod x (Neg y))) refl

difference_top : (f n p m q : ℤ) → f *ℤ ((n *ℤ q) +ℤ (neg_ℤ m *ℤ p)) ≡ f *ℤ ((n *ℤ q) -ℤ (m *ℤ p))
difference_top f n p m q = ap (λ (t : ℤ). f *ℤ ((n *ℤ q) +ℤ t)) (negated_left m p)

pub Lies-product_difference : {x y u v : Fraction} {a b c d : Interval} → Lies x a → Lies y b → Lies u c → Lies v d → Lies (minus (times x y) (times u v)) (product_difference a b c d)
unfolding product_difference
Lies-product_difference {x} {y} {u} {v} {a} {b} {c} {d} hx hy hu hv =
    let p = product_above_zero hx.proper hy.proper in
    let q = product_above_zero hu.proper hv.proper in
    let n = x.top *ℤ y.top in
    let m = u.top *ℤ v.top in
    let b1 = x.bottom *ℤ y.bottom in
    let b2 = u.bottom *ℤ v.bottom in
    let low : (neg_ℤ (greatest_product c d) *ℤ b2) ≤ℤ (unit *ℤ (unit *ℤ neg_ℤ m)) = along (sym (negated_left (greatest_product c d) b2)) (negated_top unit m) (negates (greatest_product-above hu hv)) in
    let high : (unit *ℤ (unit *ℤ neg_ℤ m)) ≤ℤ (neg_ℤ (least_product c d) *ℤ b2) = along (negated_top unit m) (sym (negated_left (least_product c d) b2)) (negates (least_product-below hu hv)) in
    record {
      proper = product_above_zero p q;
      above = along refl (difference_top unit n b1 m b2) (sum_low unit _ (least_product a b) (neg_ℤ (greatest_product c d)) b1 b2 n (neg_ℤ m) unit_positive p q (IsFloor-floor (least_product a b -ℤ greatest_product c d) unit unit_positive).at_most (least_product-below hx hy) low);
      below = along (difference_top unit n b1 m b2) refl (sum_high unit _ (greatest_product a b) (neg_ℤ (least_product c d)) b1 b2 n (neg_ℤ m) unit_positive p q (IsCeiling-ceiling (greatest_product a b -ℤ least_product c d) unit unit_positive).at_least (greatest_product-above hx hy) high);
    }

-- ---- how large the products of ends are

pub least_at_most_greatest : (a b : Interval) → least_product a b ≤ℤ greatest_product a b
least_at_most_greatest a b =
    trans (least_of_four (a.lo *ℤ b.lo) (a.lo *ℤ b.hi) (a.hi *ℤ b.lo) (a.hi *ℤ b.hi)).0
    (greatest_of_four (a.lo *ℤ b.lo) (a.lo *ℤ b.hi) (a.hi *ℤ b.lo) (a.hi *ℤ b.hi)).0

pub products_small : (a b : Interval) → IsOrdered a → IsOrdered b → EndsWithin unit a → EndsWithin unit b → IsSmall (unit *ℤ unit) (least_product a b) × IsSmall (unit *ℤ unit) (greatest_product a b)
products_small a b p q h k =
    let ll = product_within h.low (trans p h.high) k.low (trans q k.high) in
    let lh = product_within h.low (trans p h.high) (trans k.low q) k.high in
    let hl = product_within (trans h.low p) h.high k.low (trans q k.high) in
    let hh = product_within (trans h.low p) h.high (trans k.low q) k.high in
    let low : neg_ℤ (unit *ℤ unit) ≤ℤ least_product a b = min_above (min_above ll.0 lh.0) (min_above hl.0 hh.0) in
    let high : greatest_product a b ≤ℤ (unit *ℤ unit) = max_below (max_below ll.1 lh.1) (max_below hl.1 hh.1) in
    let ordered = least_at_most_greatest a b in
    (record { low = low; high = trans ordered high }, record { low = trans low ordered; high = high })
