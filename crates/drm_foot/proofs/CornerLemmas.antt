-- A point that a ring holds lies within the bounds of its corners.
use Rattle.std.proofs.Common.{◌≡◌, inl, inr, ℕ, zero, suc, ◌+◌, ◌-◌, ◌*◌, ◌%◌, ◌<◌, ◌≤◌, refl, subst, sym, ◌∙◌, arith}
use Rattle.std.specs.Prelude.{ℤ, pos, neg_ℤ, ◌+ℤ◌, ◌-ℤ◌, ◌*ℤ◌, ◌≤ℤ◌, ◌<ℤ◌, List, [], ◌∷◌}
use Rattle.std.proofs.lemmas.Bool.{cases_lt}
use Rattle.std.proofs.lemmas.Int.{ints, by_lt_z}
use Rattle.std.proofs.lemmas.Nat.{mod-mul-add, mod_below}
use Rattle.drm_num.proofs.Integers.{along, cancels, cancels_right, comm, keeps, le_self, product_not_negative, sum_not_negative, trans, zero_times}
use Rattle.drm_num.proofs.Ring.{ring, Var, Sum, Prod, Neg}
use Rattle.drm_shape.specs.Corners.{Corner, corner_count, corner_at, next_of, turn, turn_to}
use Rattle.drm_shape.specs.declared.Shape.TheVariants.{Poly}
use Rattle.drm_shape.specs.Held.{Holds}
use Rattle.drm_shape.specs.Validity.{IsValid}

-- one of the first numbers is the least
record IsLeastAt (count : ℕ) (at : ℕ → ℤ) (m : ℕ) : Type 0 where
  below : m < count
  least : (i : ℕ) → i < count → at m ≤ℤ at i

abbrev HasLeast : ℕ → (ℕ → ℤ) → Type 0
HasLeast count at = (m : ℕ) × IsLeastAt count at m

some_least : (n : ℕ) (at : ℕ → ℤ) → HasLeast (suc n) at
some_least zero at = (0, record { below = omega arith; least = λ i below. let is : 0 ≡ i = omega arith in subst (λ (k : ℕ). at 0 ≤ℤ at k) is (le_self (at 0)) })
some_least (suc n) at =
    let (m, is) = some_least n at in
    by_lt_z (at (suc n)) (at m)
    (λ less. (
      suc n,
      record {
        below = omega arith;
        least = λ i below. elim (cases_lt i (suc n)) [
          | inl earlier ↦ (let order = is.least i earlier in omega (arith, ints))
          | inr last ↦ (let same : suc n ≡ i = omega arith in subst (λ (k : ℕ). at (suc n) ≤ℤ at k) same (le_self (at (suc n))))
        ];
      },
    ))
    (λ order. (
      m,
      record {
        below = (let low = is.below in omega arith);
        least = λ i below. elim (cases_lt i (suc n)) [
          | inl earlier ↦ is.least i earlier
          | inr last ↦ (let same : suc n ≡ i = omega arith in subst (λ (k : ℕ). at m ≤ℤ at k) same order)
        ];
      },
    ))

-- the corner before another
record IsBefore (n m p : ℕ) : Type 0 where
  below : p < n
  next : (p + 1) % n ≡ m
  other : p ≡ m → ⊥
  apart : p ≡ (m + 1) % n → ⊥

small_rest : (n k : ℕ) → k < n → k % n ≡ k
small_rest n k below = subst (λ (z : ℕ). z % n ≡ k) (plain k) (mod-mul-add 0 n k below)
  where
    plain : (z : ℕ) → 0 * n + z ≡ z
    plain z = omega arith

no_rest : (n : ℕ) → 0 < n → n % n ≡ 0
no_rest n some = subst (λ (z : ℕ). z % n ≡ 0) plain (mod-mul-add 1 n 0 some)
  where
    plain : 1 * n + 0 ≡ n
    plain = omega arith

corner_before : (n m : ℕ) → 3 ≤ n → m < n → (p : ℕ) × IsBefore n m p
corner_before n zero three below = (
  n - 1,
  record {
    below = omega arith;
    next = (let is : n - 1 + 1 ≡ n = omega arith in subst (λ (z : ℕ). z % n ≡ 0) (sym is) (no_rest n (omega arith)));
    other = λ same. absurd (omega arith);
    apart = λ same. let one = small_rest n 1 (omega arith) in absurd (omega arith);
  },
)
corner_before n (suc k) three below = (
  k,
  record {
    below = omega arith;
    next = (let is : k + 1 ≡ suc k = omega arith in subst (λ (z : ℕ). z % n ≡ suc k) (sym is) (small_rest n (suc k) below));
    other = λ same. absurd (omega arith);
    apart = λ same. elim (cases_lt (suc k + 1) n) [
      | inl inside ↦ (let rest = small_rest n (suc k + 1) inside in absurd (omega arith))
      | inr last ↦ (let is : n ≡ suc k + 1 = omega arith in let rest : (suc k + 1) % n ≡ 0 = subst (λ (z : ℕ). z % n ≡ 0) is (no_rest n (omega arith)) in absurd (omega arith))
    ];
  },
)

-- a point between the two sides at a corner, by the ways along them
across : (m q p : Corner) (x y d : ℤ)
    → turn m q p *ℤ (x -ℤ (m.x *ℤ d)) ≡ (turn_to p m x y d *ℤ (q.x -ℤ m.x)) +ℤ (turn_to m q x y d *ℤ (p.x -ℤ m.x))
across m q p x y d = identity m.x m.y q.x q.y p.x p.y x y d
  where
    identity : (mx my qx qy px py x y d : ℤ)
        → (((qx -ℤ mx) *ℤ (py -ℤ my)) -ℤ ((qy -ℤ my) *ℤ (px -ℤ mx))) *ℤ (x -ℤ (mx *ℤ d))
        ≡ ((((mx -ℤ px) *ℤ (y -ℤ (py *ℤ d))) -ℤ ((my -ℤ py) *ℤ (x -ℤ (px *ℤ d)))) *ℤ (qx -ℤ mx))
        +ℤ ((((qx -ℤ mx) *ℤ (y -ℤ (my *ℤ d))) -ℤ ((qy -ℤ my) *ℤ (x -ℤ (mx *ℤ d)))) *ℤ (px -ℤ mx))
    identity mx my qx qy px py x y d =
        let a = Var 0 in let b = Var 1 in let e = Var 2 in let f = Var 3 in let g = Var 4 in let h = Var 5 in let u = Var 6 in let v = Var 7 in let w = Var 8 in
        ring (mx ∷ my ∷ qx ∷ qy ∷ px ∷ py ∷ x ∷ y ∷ d ∷ [])
        (Prod (Sum (Prod (Sum e (Neg a)) (Sum h (Neg b))) (Neg (Prod (Sum f (Neg b)) (Sum g (Neg a))))) (Sum u (Neg (Prod a w))))
        (Sum (Prod (Sum (Prod (Sum a (Neg g)) (Sum v (Neg (Prod h w)))) (Neg (Prod (Sum b (Neg h)) (Sum u (Neg (Prod g w)))))) (Sum e (Neg a)))
        (Prod (Sum (Prod (Sum e (Neg a)) (Sum v (Neg (Prod b w)))) (Neg (Prod (Sum f (Neg b)) (Sum u (Neg (Prod a w)))))) (Sum g (Neg a))))
        refl

up : (m q p : Corner) (x y d : ℤ)
    → turn m q p *ℤ (y -ℤ (m.y *ℤ d)) ≡ (turn_to p m x y d *ℤ (q.y -ℤ m.y)) +ℤ (turn_to m q x y d *ℤ (p.y -ℤ m.y))
up m q p x y d = identity m.x m.y q.x q.y p.x p.y x y d
  where
    identity : (mx my qx qy px py x y d : ℤ)
        → (((qx -ℤ mx) *ℤ (py -ℤ my)) -ℤ ((qy -ℤ my) *ℤ (px -ℤ mx))) *ℤ (y -ℤ (my *ℤ d))
        ≡ ((((mx -ℤ px) *ℤ (y -ℤ (py *ℤ d))) -ℤ ((my -ℤ py) *ℤ (x -ℤ (px *ℤ d)))) *ℤ (qy -ℤ my))
        +ℤ ((((qx -ℤ mx) *ℤ (y -ℤ (my *ℤ d))) -ℤ ((qy -ℤ my) *ℤ (x -ℤ (mx *ℤ d)))) *ℤ (py -ℤ my))
    identity mx my qx qy px py x y d =
        let a = Var 0 in let b = Var 1 in let e = Var 2 in let f = Var 3 in let g = Var 4 in let h = Var 5 in let u = Var 6 in let v = Var 7 in let w = Var 8 in
        ring (mx ∷ my ∷ qx ∷ qy ∷ px ∷ py ∷ x ∷ y ∷ d ∷ [])
        (Prod (Sum (Prod (Sum e (Neg a)) (Sum h (Neg b))) (Neg (Prod (Sum f (Neg b)) (Sum g (Neg a))))) (Sum v (Neg (Prod b w))))
        (Sum (Prod (Sum (Prod (Sum a (Neg g)) (Sum v (Neg (Prod h w)))) (Neg (Prod (Sum b (Neg h)) (Sum u (Neg (Prod g w)))))) (Sum f (Neg b)))
        (Prod (Sum (Prod (Sum e (Neg a)) (Sum v (Neg (Prod b w)))) (Neg (Prod (Sum f (Neg b)) (Sum u (Neg (Prod a w)))))) (Sum h (Neg b))))
        refl

-- a sum of two ways, each forward, is forward, and of two that are backward is backward
forward : (t a b r s z : ℤ) → pos 0 <ℤ t → pos 0 ≤ℤ a → pos 0 ≤ℤ b → t *ℤ z ≡ (a *ℤ r) +ℤ (b *ℤ s) → pos 0 ≤ℤ r → pos 0 ≤ℤ s → pos 0 ≤ℤ z
forward t a b r s z positive first second is along_r along_s =
    let sum : pos 0 ≤ℤ ((a *ℤ r) +ℤ (b *ℤ s)) = sum_not_negative (product_not_negative first along_r) (product_not_negative second along_s) in
    cancels t {a = pos 0} {b = z} positive (along (zero t) refl (along refl (sym is) sum))
  where
    zero : (k : ℤ) → pos 0 ≡ k *ℤ pos 0
    zero k = sym (comm k (pos 0) ∙ zero_times k)

backward : (t a b r s z : ℤ) → pos 0 <ℤ t → pos 0 ≤ℤ a → pos 0 ≤ℤ b → t *ℤ z ≡ (a *ℤ r) +ℤ (b *ℤ s) → r ≤ℤ pos 0 → s ≤ℤ pos 0 → z ≤ℤ pos 0
backward t a b r s z positive first second is along_r along_s =
    let one : (a *ℤ r) ≤ℤ (a *ℤ pos 0) = keeps a first along_r in
    let other : (b *ℤ s) ≤ℤ (b *ℤ pos 0) = keeps b second along_s in
    cancels t {a = z} {b = pos 0} positive (along (sym is) refl (omega (arith, ints, comm a (pos 0), comm b (pos 0), comm t (pos 0), zero_times a, zero_times b, zero_times t)))

-- what a valid ring gives at a corner, with a point that it holds
record IsAtCorner (ring : List ℤ) (x y d : ℤ) (m q p : ℕ) : Type 0 where
  next_below : q < corner_count ring
  before_below : p < corner_count ring
  turns : pos 0 <ℤ turn (corner_at ring m) (corner_at ring q) (corner_at ring p)
  first : pos 0 ≤ℤ turn_to (corner_at ring p) (corner_at ring m) x y d
  second : pos 0 ≤ℤ turn_to (corner_at ring m) (corner_at ring q) x y d

at_corner : (ring : List ℤ) (x y d : ℤ) (m : ℕ) → IsValid (Poly ring) → Holds (Poly ring) x y d → m < corner_count ring → (p : ℕ) × IsAtCorner ring x y d m (next_of ring m) p
at_corner ring x y d m valid holds below =
    let few : 3 ≤ corner_count ring = let least = valid.corners.least in omega arith in
    let (p, is) = corner_before (corner_count ring) m few below in (
      p,
      record {
        next_below = mod_below (m + 1) (corner_count ring) (omega arith);
        before_below = is.below;
        turns = valid.convex m below p is.below is.other is.apart;
        first = subst (λ (k : ℕ). pos 0 ≤ℤ turn_to (corner_at ring p) (corner_at ring k) x y d) is.next (holds p is.below);
        second = holds m below;
      },
    )

-- a number that is at least a multiple of what is above a bound is not below the same multiple of the bound
at_most_bound : (c bound z d : ℤ) → pos 0 <ℤ d → (c *ℤ d) ≤ℤ z → z ≤ℤ (bound *ℤ d) → bound <ℤ c → ⊥
at_most_bound c bound z d positive low high above = let order = cancels_right d {a = c} {b = bound} positive (trans low high) in absurd (omega (arith, ints))

at_least_bound : (c bound z d : ℤ) → pos 0 <ℤ d → z ≤ℤ (c *ℤ d) → (bound *ℤ d) ≤ℤ z → c <ℤ bound → ⊥
at_least_bound c bound z d positive high low below = let order = cancels_right d {a = bound} {b = c} positive (trans low high) in absurd (omega (arith, ints))

-- the point is no further left, right, down or up than all corners
pub some_corner_left : (ring : List ℤ) (x y d bound : ℤ) → IsValid (Poly ring) → Holds (Poly ring) x y d → pos 0 <ℤ d → x ≤ℤ (bound *ℤ d)
    → ((i : ℕ) → i < corner_count ring → bound <ℤ (corner_at ring i).x) → ⊥
some_corner_left ring x y d bound valid holds positive to beyond =
    let some : corner_count ring ≡ suc (corner_count ring - 1) = let least = valid.corners.least in omega arith in
    let (m, is) = subst (λ (n : ℕ). HasLeast n (λ i. (corner_at ring i).x)) (sym some) (some_least (corner_count ring - 1) (λ i. (corner_at ring i).x)) in
    let (p, at) = at_corner ring x y d m valid holds is.below in
    let q = next_of ring m in
    let right = is.least q at.next_below in
    let left = is.least p at.before_below in
    let z = forward (turn (corner_at ring m) (corner_at ring q) (corner_at ring p)) (turn_to (corner_at ring p) (corner_at ring m) x y d) (turn_to (corner_at ring m) (corner_at ring q) x y d)
    ((corner_at ring q).x -ℤ (corner_at ring m).x) ((corner_at ring p).x -ℤ (corner_at ring m).x) (x -ℤ ((corner_at ring m).x *ℤ d))
    at.turns at.first at.second (across (corner_at ring m) (corner_at ring q) (corner_at ring p) x y d) (omega (arith, ints)) (omega (arith, ints)) in
    at_most_bound (corner_at ring m).x bound x d positive (omega (arith, ints)) to (beyond m is.below)

pub some_corner_right : (ring : List ℤ) (x y d bound : ℤ) → IsValid (Poly ring) → Holds (Poly ring) x y d → pos 0 <ℤ d → (bound *ℤ d) ≤ℤ x
    → ((i : ℕ) → i < corner_count ring → (corner_at ring i).x <ℤ bound) → ⊥
some_corner_right ring x y d bound valid holds positive from beyond =
    let some : corner_count ring ≡ suc (corner_count ring - 1) = let least = valid.corners.least in omega arith in
    let (m, is) = subst (λ (n : ℕ). HasLeast n (λ i. neg_ℤ (corner_at ring i).x)) (sym some) (some_least (corner_count ring - 1) (λ i. neg_ℤ (corner_at ring i).x)) in
    let (p, at) = at_corner ring x y d m valid holds is.below in
    let q = next_of ring m in
    let right = is.least q at.next_below in
    let left = is.least p at.before_below in
    let z = backward (turn (corner_at ring m) (corner_at ring q) (corner_at ring p)) (turn_to (corner_at ring p) (corner_at ring m) x y d) (turn_to (corner_at ring m) (corner_at ring q) x y d)
    ((corner_at ring q).x -ℤ (corner_at ring m).x) ((corner_at ring p).x -ℤ (corner_at ring m).x) (x -ℤ ((corner_at ring m).x *ℤ d))
    at.turns at.first at.second (across (corner_at ring m) (corner_at ring q) (corner_at ring p) x y d) (omega (arith, ints)) (omega (arith, ints)) in
    at_least_bound (corner_at ring m).x bound x d positive (omega (arith, ints)) from (beyond m is.below)

pub some_corner_below : (ring : List ℤ) (x y d bound : ℤ) → IsValid (Poly ring) → Holds (Poly ring) x y d → pos 0 <ℤ d → y ≤ℤ (bound *ℤ d)
    → ((i : ℕ) → i < corner_count ring → bound <ℤ (corner_at ring i).y) → ⊥
some_corner_below ring x y d bound valid holds positive to beyond =
    let some : corner_count ring ≡ suc (corner_count ring - 1) = let least = valid.corners.least in omega arith in
    let (m, is) = subst (λ (n : ℕ). HasLeast n (λ i. (corner_at ring i).y)) (sym some) (some_least (corner_count ring - 1) (λ i. (corner_at ring i).y)) in
    let (p, at) = at_corner ring x y d m valid holds is.below in
    let q = next_of ring m in
    let right = is.least q at.next_below in
    let left = is.least p at.before_below in
    let z = forward (turn (corner_at ring m) (corner_at ring q) (corner_at ring p)) (turn_to (corner_at ring p) (corner_at ring m) x y d) (turn_to (corner_at ring m) (corner_at ring q) x y d)
    ((corner_at ring q).y -ℤ (corner_at ring m).y) ((corner_at ring p).y -ℤ (corner_at ring m).y) (y -ℤ ((corner_at ring m).y *ℤ d))
    at.turns at.first at.second (up (corner_at ring m) (corner_at ring q) (corner_at ring p) x y d) (omega (arith, ints)) (omega (arith, ints)) in
    at_most_bound (corner_at ring m).y bound y d positive (omega (arith, ints)) to (beyond m is.below)

pub some_corner_above : (ring : List ℤ) (x y d bound : ℤ) → IsValid (Poly ring) → Holds (Poly ring) x y d → pos 0 <ℤ d → (bound *ℤ d) ≤ℤ y
    → ((i : ℕ) → i < corner_count ring → (corner_at ring i).y <ℤ bound) → ⊥
some_corner_above ring x y d bound valid holds positive from beyond =
    let some : corner_count ring ≡ suc (corner_count ring - 1) = let least = valid.corners.least in omega arith in
    let (m, is) = subst (λ (n : ℕ). HasLeast n (λ i. neg_ℤ (corner_at ring i).y)) (sym some) (some_least (corner_count ring - 1) (λ i. neg_ℤ (corner_at ring i).y)) in
    let (p, at) = at_corner ring x y d m valid holds is.below in
    let q = next_of ring m in
    let right = is.least q at.next_below in
    let left = is.least p at.before_below in
    let z = backward (turn (corner_at ring m) (corner_at ring q) (corner_at ring p)) (turn_to (corner_at ring p) (corner_at ring m) x y d) (turn_to (corner_at ring m) (corner_at ring q) x y d)
    ((corner_at ring q).y -ℤ (corner_at ring m).y) ((corner_at ring p).y -ℤ (corner_at ring m).y) (y -ℤ ((corner_at ring m).y *ℤ d))
    at.turns at.first at.second (up (corner_at ring m) (corner_at ring q) (corner_at ring p) x y d) (omega (arith, ints)) (omega (arith, ints)) in
    at_least_bound (corner_at ring m).y bound y d positive (omega (arith, ints)) from (beyond m is.below)
