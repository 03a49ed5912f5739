-- How the cosine and the sine move with the half-angle tangent, over whole numbers: the tangent n / p is above or below m / q.
use Rattle.std.proofs.Common.{◌≡◌, ◌⊎◌, inl, inr, ℤ, pos, ◌+ℤ◌, ◌-ℤ◌, ◌*ℤ◌, neg_ℤ, ◌≤ℤ◌, ◌<ℤ◌, refl, sym, ◌∙◌, [], ◌∷◌, arith}
use Rattle.std.proofs.lemmas.Int.{ints, by_lt_z}
use Rattle.drm_num.specs.Small.{IsSmall}
use Rattle.drm_num.proofs.Integers.{along, keeps, keeps_right, cancels, cancels_right, trans, by_gap, comm, le_of_lt_z, product_not_negative, product_above_zero, product_within, square_not_negative, sum_not_negative, negated_left, negated_right}
use Rattle.drm_num.proofs.Ring.{Var, Lit, Sum, Prod, Neg, ring}

-- ---- the squares of a radius

pub radius_not_negative : (p n : ℤ) → pos 0 ≤ℤ ((p *ℤ p) +ℤ (n *ℤ n))
radius_not_negative p n = sum_not_negative (square_not_negative p) (square_not_negative n)

pub radius_positive : (p n : ℤ) → pos 0 <ℤ p → pos 0 <ℤ ((p *ℤ p) +ℤ (n *ℤ n))
radius_positive p n h =
    let square : pos 0 <ℤ (p *ℤ p) = product_above_zero h h in
    omega (arith, ints, square_not_negative n)

-- ---- neither is past one

pub cosine_one : (p n : ℤ) → IsSmall ((p *ℤ p) +ℤ (n *ℤ n)) ((p *ℤ p) -ℤ (n *ℤ n))
cosine_one p n = record { low = omega (arith, ints, square_not_negative p, square_not_negative n); high = omega (arith, ints, square_not_negative p, square_not_negative n) }

below_one : (p n : ℤ) → (p *ℤ p) +ℤ (n *ℤ n) ≡ (pos 2 *ℤ (n *ℤ p)) +ℤ ((p -ℤ n) *ℤ (p -ℤ n))
below_one p n =
    let u = Var 0 in
    let v = Var 1 in
    ring (p ∷ n ∷ []) (Sum (Prod u u) (Prod v v)) (Sum (Prod (Lit (pos 2)) (Prod v u)) (Prod (Sum u (Neg v)) (Sum u (Neg v)))) refl

above_minus_one : (p n : ℤ) → pos 2 *ℤ (n *ℤ p) ≡ neg_ℤ ((p *ℤ p) +ℤ (n *ℤ n)) +ℤ ((p +ℤ n) *ℤ (p +ℤ n))
above_minus_one p n =
    let u = Var 0 in
    let v = Var 1 in
    ring (p ∷ n ∷ []) (Prod (Lit (pos 2)) (Prod v u)) (Sum (Neg (Sum (Prod u u) (Prod v v))) (Prod (Sum u v) (Sum u v))) refl

pub sine_one : (p n : ℤ) → IsSmall ((p *ℤ p) +ℤ (n *ℤ n)) (pos 2 *ℤ (n *ℤ p))
sine_one p n = record { low = by_gap _ _ _ (above_minus_one p n) (square_not_negative (p +ℤ n)); high = by_gap _ _ _ (below_one p n) (square_not_negative (p -ℤ n)) }

-- ---- the cosine falls with the size of the tangent

cosine_gap : (n p m q : ℤ) → ((p *ℤ p) -ℤ (n *ℤ n)) *ℤ ((q *ℤ q) +ℤ (m *ℤ m)) ≡ (((q *ℤ q) -ℤ (m *ℤ m)) *ℤ ((p *ℤ p) +ℤ (n *ℤ n))) +ℤ (pos 2 *ℤ (((m *ℤ p) *ℤ (m *ℤ p)) -ℤ ((q *ℤ n) *ℤ (q *ℤ n))))
cosine_gap n p m q =
    let a = Var 0 in
    let b = Var 1 in
    let c = Var 2 in
    let d = Var 3 in
    ring (n ∷ p ∷ m ∷ q ∷ [])
    (Prod (Sum (Prod b b) (Neg (Prod a a))) (Sum (Prod d d) (Prod c c)))
    (Sum (Prod (Sum (Prod d d) (Neg (Prod c c))) (Sum (Prod b b) (Prod a a))) (Prod (Lit (pos 2)) (Sum (Prod (Prod c b) (Prod c b)) (Neg (Prod (Prod d a) (Prod d a)))))) refl

-- where the size of n / p is at most that of m / q, the cosine of m / q is at most that of n / p
pub cosine_falls : (n p m q : ℤ) → ((q *ℤ n) *ℤ (q *ℤ n)) ≤ℤ ((m *ℤ p) *ℤ (m *ℤ p)) → (((q *ℤ q) -ℤ (m *ℤ m)) *ℤ ((p *ℤ p) +ℤ (n *ℤ n))) ≤ℤ (((p *ℤ p) -ℤ (n *ℤ n)) *ℤ ((q *ℤ q) +ℤ (m *ℤ m)))
cosine_falls n p m q h =
    let rest : pos 0 ≤ℤ (((m *ℤ p) *ℤ (m *ℤ p)) -ℤ ((q *ℤ n) *ℤ (q *ℤ n))) = omega (arith, ints) in
    let two : pos 0 ≤ℤ pos 2 = omega (arith, ints) in
    by_gap _ _ _ (cosine_gap n p m q) (product_not_negative two rest)

-- ---- the sine rises between the tangents -1 and 1, and falls outside

sine_gap : (n p m q : ℤ) → (pos 2 *ℤ (m *ℤ q)) *ℤ ((p *ℤ p) +ℤ (n *ℤ n)) ≡ ((pos 2 *ℤ (n *ℤ p)) *ℤ ((q *ℤ q) +ℤ (m *ℤ m))) +ℤ (pos 2 *ℤ (((m *ℤ p) -ℤ (q *ℤ n)) *ℤ ((p *ℤ q) -ℤ (n *ℤ m))))
sine_gap n p m q =
    let a = Var 0 in
    let b = Var 1 in
    let c = Var 2 in
    let d = Var 3 in
    ring (n ∷ p ∷ m ∷ q ∷ [])
    (Prod (Prod (Lit (pos 2)) (Prod c d)) (Sum (Prod b b) (Prod a a)))
    (Sum (Prod (Prod (Lit (pos 2)) (Prod a b)) (Sum (Prod d d) (Prod c c))) (Prod (Lit (pos 2)) (Prod (Sum (Prod c b) (Neg (Prod d a))) (Sum (Prod b d) (Neg (Prod a c)))))) refl

sine_order : (n p m q : ℤ) → pos 0 ≤ℤ (((m *ℤ p) -ℤ (q *ℤ n)) *ℤ ((p *ℤ q) -ℤ (n *ℤ m))) → ((pos 2 *ℤ (n *ℤ p)) *ℤ ((q *ℤ q) +ℤ (m *ℤ m))) ≤ℤ ((pos 2 *ℤ (m *ℤ q)) *ℤ ((p *ℤ p) +ℤ (n *ℤ n)))
sine_order n p m q h =
    let two : pos 0 ≤ℤ pos 2 = omega (arith, ints) in
    by_gap _ _ _ (sine_gap n p m q) (product_not_negative two h)

pub two_negatives : (a b : ℤ) → neg_ℤ a *ℤ neg_ℤ b ≡ a *ℤ b
two_negatives a b =
    let u = Var 0 in
    let v = Var 1 in
    ring (a ∷ b ∷ []) (Prod (Neg u) (Neg v)) (Prod u v) refl

-- n / p at most m / q, and their product at most 1: the sine of n / p is at most that of m / q
pub sine_rises : (n p m q : ℤ) → (q *ℤ n) ≤ℤ (m *ℤ p) → (n *ℤ m) ≤ℤ (p *ℤ q) → ((pos 2 *ℤ (n *ℤ p)) *ℤ ((q *ℤ q) +ℤ (m *ℤ m))) ≤ℤ ((pos 2 *ℤ (m *ℤ q)) *ℤ ((p *ℤ p) +ℤ (n *ℤ n)))
sine_rises n p m q h k =
    let first : pos 0 ≤ℤ ((m *ℤ p) -ℤ (q *ℤ n)) = omega (arith, ints) in
    let second : pos 0 ≤ℤ ((p *ℤ q) -ℤ (n *ℤ m)) = omega (arith, ints) in
    sine_order n p m q (product_not_negative first second)

-- n / p at least m / q, and their product at least 1: the sine of n / p is at most that of m / q
pub sine_falls : (n p m q : ℤ) → (m *ℤ p) ≤ℤ (q *ℤ n) → (p *ℤ q) ≤ℤ (n *ℤ m) → ((pos 2 *ℤ (n *ℤ p)) *ℤ ((q *ℤ q) +ℤ (m *ℤ m))) ≤ℤ ((pos 2 *ℤ (m *ℤ q)) *ℤ ((p *ℤ p) +ℤ (n *ℤ n)))
sine_falls n p m q h k =
    let first : pos 0 ≤ℤ neg_ℤ ((m *ℤ p) -ℤ (q *ℤ n)) = omega (arith, ints) in
    let second : pos 0 ≤ℤ neg_ℤ ((p *ℤ q) -ℤ (n *ℤ m)) = omega (arith, ints) in
    sine_order n p m q (along refl (two_negatives ((m *ℤ p) -ℤ (q *ℤ n)) ((p *ℤ q) -ℤ (n *ℤ m))) (product_not_negative first second))

-- ---- one of the ends is on the same side of the extreme

-- n / p lies between lo / f and hi / f, and 1 does not
pub beside_one : (f lo hi n p : ℤ) → pos 0 <ℤ f → pos 0 <ℤ p → (lo *ℤ p) ≤ℤ (f *ℤ n) → (f *ℤ n) ≤ℤ (hi *ℤ p) → (f <ℤ lo) ⊎ (hi <ℤ f) → ((n *ℤ hi) ≤ℤ (p *ℤ f)) ⊎ ((p *ℤ f) ≤ℤ (n *ℤ lo))
beside_one f lo hi n p hf hp above below (inl past) =
    let lo_up : pos 0 ≤ℤ lo = omega (arith, ints) in
    let first : (f *ℤ p) ≤ℤ (lo *ℤ p) = keeps_right p (le_of_lt_z hp) (le_of_lt_z past) in
    let past_one : p ≤ℤ n = cancels f hf (trans first above) in
    inr (along (comm f p) (comm lo n) (trans first (keeps lo lo_up past_one)))
beside_one f lo hi n p hf hp above below (inr before) =
    by_lt_z n (neg_ℤ p)
    (λ left.
    let p_up : pos 0 ≤ℤ p = omega (arith, ints) in
    let f_up : pos 0 ≤ℤ f = omega (arith, ints) in
    let n_left : n ≤ℤ neg_ℤ p = omega (arith, ints) in
    let scaled : (f *ℤ n) ≤ℤ (f *ℤ neg_ℤ p) = keeps f f_up n_left in
    let lo_left : lo ≤ℤ neg_ℤ f = cancels_right p hp (along refl (negated_right f p ∙ sym (negated_left f p)) (trans above scaled)) in
    let far : f ≤ℤ neg_ℤ lo = omega (arith, ints) in
    let far_n : p ≤ℤ neg_ℤ n = omega (arith, ints) in
    let lo_up : pos 0 ≤ℤ neg_ℤ lo = omega (arith, ints) in
    inr (along refl (two_negatives n lo) (trans (keeps p p_up far) (keeps_right (neg_ℤ lo) lo_up far_n))))
    (λ right.
    let f_up : pos 0 ≤ℤ f = omega (arith, ints) in
    let hi_low : neg_ℤ f ≤ℤ hi = cancels_right p hp (along (negated_right f p ∙ sym (negated_left f p)) refl (trans (keeps f f_up right) below)) in
    let top : (hi *ℤ p) ≤ℤ (f *ℤ p) = keeps_right p (le_of_lt_z hp) (le_of_lt_z before) in
    let n_high : n ≤ℤ p = cancels f hf (trans below top) in
    inl (product_within right n_high hi_low (le_of_lt_z before)).1)
