-- Distances in the plane by their squares, with no root taken.
use Rattle.std.proofs.Common.{◌≡◌, ℤ, pos, ◌+ℤ◌, ◌-ℤ◌, ◌*ℤ◌, ◌≤ℤ◌, refl, sym, [], ◌∷◌, arith}
use Rattle.std.proofs.lemmas.Int.{ints, by_lt_z}
use Rattle.drm_num.proofs.Integers.{along, keeps, keeps_right, trans, sums, by_gap, product_not_negative, square_not_negative, sum_not_negative}
use Rattle.drm_num.proofs.Ring.{Var, Lit, Sum, Prod, Neg, ring}

next_square : (y : ℤ) → (y +ℤ pos 1) *ℤ (y +ℤ pos 1) ≡ (y *ℤ y) +ℤ (y +ℤ (y +ℤ pos 1))
next_square y =
    let u = Var 0 in
    ring (y ∷ []) (Prod (Sum u (Lit (pos 1))) (Sum u (Lit (pos 1)))) (Sum (Prod u u) (Sum u (Sum u (Lit (pos 1))))) refl

-- squares of numbers that are not negative stand as the numbers do
pub squares_order : {x y : ℤ} → pos 0 ≤ℤ x → x ≤ℤ y → (x *ℤ x) ≤ℤ (y *ℤ y)
squares_order {x} {y} p h = trans (keeps x p h) (keeps_right y (trans p h) h)

pub root_order : {x y : ℤ} → pos 0 ≤ℤ y → (x *ℤ x) ≤ℤ (y *ℤ y) → x ≤ℤ y
root_order {x} {y} p h =
    by_lt_z y x
    (λ below.
    let next : (y +ℤ pos 1) ≤ℤ x = omega (arith, ints) in
    let not_negative : pos 0 ≤ℤ (y +ℤ pos 1) = omega (arith, ints) in
    let over : ((y +ℤ pos 1) *ℤ (y +ℤ pos 1)) ≤ℤ (x *ℤ x) = squares_order not_negative next in
    absurd (omega (arith, ints, trans over h, next_square y)))
    (λ other. other)

-- ---- two vectors (a, b) and (c, d), of lengths at most r and s

inner_gap : (a b c d : ℤ) → ((a *ℤ a) +ℤ (b *ℤ b)) *ℤ ((c *ℤ c) +ℤ (d *ℤ d)) ≡ (((a *ℤ c) +ℤ (b *ℤ d)) *ℤ ((a *ℤ c) +ℤ (b *ℤ d))) +ℤ (((a *ℤ d) -ℤ (b *ℤ c)) *ℤ ((a *ℤ d) -ℤ (b *ℤ c)))
inner_gap a b c d =
    let u = Var 0 in
    let v = Var 1 in
    let w = Var 2 in
    let z = Var 3 in
    let inner = Sum (Prod u w) (Prod v z) in
    let cross = Sum (Prod u z) (Neg (Prod v w)) in
    ring (a ∷ b ∷ c ∷ d ∷ []) (Prod (Sum (Prod u u) (Prod v v)) (Sum (Prod w w) (Prod z z))) (Sum (Prod inner inner) (Prod cross cross)) refl

squared_product : (r s : ℤ) → (r *ℤ r) *ℤ (s *ℤ s) ≡ (r *ℤ s) *ℤ (r *ℤ s)
squared_product r s =
    let u = Var 0 in
    let v = Var 1 in
    ring (r ∷ s ∷ []) (Prod (Prod u u) (Prod v v)) (Prod (Prod u v) (Prod u v)) refl

pub inner_le : (a b c d : ℤ) {r s : ℤ} → pos 0 ≤ℤ r → pos 0 ≤ℤ s → ((a *ℤ a) +ℤ (b *ℤ b)) ≤ℤ (r *ℤ r) → ((c *ℤ c) +ℤ (d *ℤ d)) ≤ℤ (s *ℤ s) → ((a *ℤ c) +ℤ (b *ℤ d)) ≤ℤ (r *ℤ s)
inner_le a b c d {r} {s} p q h k =
    let inner = (a *ℤ c) +ℤ (b *ℤ d) in
    let cross = (a *ℤ d) -ℤ (b *ℤ c) in
    let second = (c *ℤ c) +ℤ (d *ℤ d) in
    let second_up : pos 0 ≤ℤ second = sum_not_negative (square_not_negative c) (square_not_negative d) in
    let below : (inner *ℤ inner) ≤ℤ (((a *ℤ a) +ℤ (b *ℤ b)) *ℤ second) = by_gap _ _ (cross *ℤ cross) (inner_gap a b c d) (square_not_negative cross) in
    let over : (((a *ℤ a) +ℤ (b *ℤ b)) *ℤ second) ≤ℤ ((r *ℤ r) *ℤ (s *ℤ s)) = trans (keeps_right second second_up h) (keeps (r *ℤ r) (square_not_negative r) k) in
    root_order (product_not_negative p q) (along refl (squared_product r s) (trans below over))

vector_sum : (a b c d : ℤ) → ((a +ℤ c) *ℤ (a +ℤ c)) +ℤ ((b +ℤ d) *ℤ (b +ℤ d)) ≡ (((a *ℤ a) +ℤ (b *ℤ b)) +ℤ ((c *ℤ c) +ℤ (d *ℤ d))) +ℤ (((a *ℤ c) +ℤ (b *ℤ d)) +ℤ ((a *ℤ c) +ℤ (b *ℤ d)))
vector_sum a b c d =
    let u = Var 0 in
    let v = Var 1 in
    let w = Var 2 in
    let z = Var 3 in
    let inner = Sum (Prod u w) (Prod v z) in
    ring (a ∷ b ∷ c ∷ d ∷ []) (Sum (Prod (Sum u w) (Sum u w)) (Prod (Sum v z) (Sum v z))) (Sum (Sum (Sum (Prod u u) (Prod v v)) (Sum (Prod w w) (Prod z z))) (Sum inner inner)) refl

length_sum : (r s : ℤ) → ((r *ℤ r) +ℤ (s *ℤ s)) +ℤ ((r *ℤ s) +ℤ (r *ℤ s)) ≡ (r +ℤ s) *ℤ (r +ℤ s)
length_sum r s =
    let u = Var 0 in
    let v = Var 1 in
    ring (r ∷ s ∷ []) (Sum (Sum (Prod u u) (Prod v v)) (Sum (Prod u v) (Prod u v))) (Prod (Sum u v) (Sum u v)) refl

-- the length of a sum is at most the sum of the lengths
pub triangle : (a b c d : ℤ) {r s : ℤ} → pos 0 ≤ℤ r → pos 0 ≤ℤ s → ((a *ℤ a) +ℤ (b *ℤ b)) ≤ℤ (r *ℤ r) → ((c *ℤ c) +ℤ (d *ℤ d)) ≤ℤ (s *ℤ s) → (((a +ℤ c) *ℤ (a +ℤ c)) +ℤ ((b +ℤ d) *ℤ (b +ℤ d))) ≤ℤ ((r +ℤ s) *ℤ (r +ℤ s))
triangle a b c d {r} {s} p q h k =
    let inner = inner_le a b c d p q h k in
    along (sym (vector_sum a b c d)) (length_sum r s) (sums (sums h k) (sums inner inner))
