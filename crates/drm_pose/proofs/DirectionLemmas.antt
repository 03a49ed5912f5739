-- A chain's direction keeps its length, so its coordinates lie between -1 and 1.
use Rattle.std.proofs.Common.{◌≡◌, ℤ, pos, neg_ℤ, ◌+ℤ◌, ◌-ℤ◌, ◌*ℤ◌, ◌≤ℤ◌, ◌<ℤ◌, List, [], ◌∷◌, refl, sym, ap, ◌∙◌, arith}
use Rattle.std.proofs.lemmas.Int.{ints}
use Rattle.drm_num.specs.Interval.{Lies, unit}
use Rattle.drm_num.specs.Arithmetic.{unit_interval}
use Rattle.drm_num.proofs.Integers.{along, keeps, le_of_lt_z, negated_left, negated_right, product_above_zero, square_not_negative, swap_middle}
use Rattle.drm_num.proofs.Distances.{root_order}
use Rattle.drm_num.proofs.Ring.{Var, Lit, Sum, Prod, Neg, ring}
use Rattle.drm_pose.specs.Chain.{Joint, Chain, base, cosine_top, sine_top, turn_bottom, turned, chain_from}
use Rattle.drm_pose.specs.Enclosure.{IsUnit}

-- the denominator of a turn is above zero
pub turn_bottom_above : (d n : ℤ) → pos 0 <ℤ d → pos 0 <ℤ turn_bottom d n
turn_bottom_above d n h =
    let first : pos 0 <ℤ (d *ℤ d) = product_above_zero h h in
    let second : pos 0 ≤ℤ (n *ℤ n) = square_not_negative n in
    omega (arith, ints)

-- the square of the length after a turn, by the square of the length before
turned_square : (x y d n : ℤ) → (((x *ℤ cosine_top d n) -ℤ (y *ℤ sine_top d n)) *ℤ ((x *ℤ cosine_top d n) -ℤ (y *ℤ sine_top d n))) +ℤ (((x *ℤ sine_top d n) +ℤ (y *ℤ cosine_top d n)) *ℤ ((x *ℤ sine_top d n) +ℤ (y *ℤ cosine_top d n))) ≡ ((x *ℤ x) +ℤ (y *ℤ y)) *ℤ (turn_bottom d n *ℤ turn_bottom d n)
turned_square x y d n =
    let a = Var 0 in
    let b = Var 1 in
    let e = Var 2 in
    let m = Var 3 in
    let cosine = Sum (Prod e e) (Neg (Prod m m)) in
    let sine = Prod (Lit (pos 2)) (Prod m e) in
    let across = Sum (Prod a cosine) (Neg (Prod b sine)) in
    let up = Sum (Prod a sine) (Prod b cosine) in
    let bottom = Sum (Prod e e) (Prod m m) in
    ring (x ∷ y ∷ d ∷ n ∷ []) (Sum (Prod across across) (Prod up up)) (Prod (Sum (Prod a a) (Prod b b)) (Prod bottom bottom)) refl

-- a turn keeps the length of the direction
pub IsUnit-turned : (d : ℤ) (c : Chain) (j : Joint) → pos 0 <ℤ d → IsUnit c → IsUnit (turned d c j)
IsUnit-turned d c j above h = record {
  proper = product_above_zero h.proper (turn_bottom_above d j.n above);
  unit_length =
      turned_square c.x c.y d j.n
      ∙ ap (λ (t : ℤ). t *ℤ (turn_bottom d j.n *ℤ turn_bottom d j.n)) h.unit_length
      ∙ swap_middle c.d c.d (turn_bottom d j.n) (turn_bottom d j.n);
}

pub IsUnit-base : IsUnit base
IsUnit-base = record { proper = omega (arith, ints); unit_length = refl }

pub IsUnit-chain : (d : ℤ) (c : Chain) (joints : List Joint) → pos 0 <ℤ d → IsUnit c → IsUnit (chain_from d c joints)
IsUnit-chain d c [] above h = h
IsUnit-chain d c (j ∷ joints) above h = IsUnit-chain d (turned d c j) joints above (IsUnit-turned d c j above h)

-- a coordinate of a vector is at most its length, and at least the opposite
coordinate_high : (x y d : ℤ) → pos 0 <ℤ d → (x *ℤ x) +ℤ (y *ℤ y) ≡ d *ℤ d → x ≤ℤ d
coordinate_high x y d above h =
    let rest : pos 0 ≤ℤ (y *ℤ y) = square_not_negative y in
    let square : (x *ℤ x) ≤ℤ (d *ℤ d) = omega (arith, ints) in
    root_order (le_of_lt_z above) square

coordinate_low : (x y d : ℤ) → pos 0 <ℤ d → (x *ℤ x) +ℤ (y *ℤ y) ≡ d *ℤ d → neg_ℤ d ≤ℤ x
coordinate_low x y d above h =
    let a = Var 0 in
    let turned_over : neg_ℤ x *ℤ neg_ℤ x ≡ x *ℤ x = ring (x ∷ []) (Prod (Neg a) (Neg a)) (Prod a a) refl in
    let other : neg_ℤ x ≤ℤ d = coordinate_high (neg_ℤ x) y d above (ap (λ (t : ℤ). t +ℤ (y *ℤ y)) turned_over ∙ h) in
    omega (arith, ints)

-- so it lies between -1 and 1
Lies-unit : (x d : ℤ) → pos 0 <ℤ d → neg_ℤ d ≤ℤ x → x ≤ℤ d → Lies (record { top = x; bottom = d }) unit_interval
Lies-unit x d above low high = record {
  proper = above;
  above = along (negated_right unit d ∙ sym (negated_left unit d)) refl (keeps unit (omega (arith, ints)) low);
  below = keeps unit (omega (arith, ints)) high;
}

pub Lies-unit_x : (c : Chain) → IsUnit c → Lies (record { top = c.x; bottom = c.d }) unit_interval
Lies-unit_x c h = Lies-unit c.x c.d h.proper (coordinate_low c.x c.y c.d h.proper h.unit_length) (coordinate_high c.x c.y c.d h.proper h.unit_length)

pub Lies-unit_y : (c : Chain) → IsUnit c → Lies (record { top = c.y; bottom = c.d }) unit_interval
Lies-unit_y c h =
    let other : (c.y *ℤ c.y) +ℤ (c.x *ℤ c.x) ≡ c.d *ℤ c.d = omega (arith, ints) in
    Lies-unit c.y c.d h.proper (coordinate_low c.y c.x c.d h.proper other) (coordinate_high c.y c.x c.d h.proper other)
