-- At each moment of a piece, the tangent of a joint lies in the joint's interval.
use Rattle.std.proofs.Common.{◌≡◌, ℕ, ◌+◌, ◌*◌, ◌-◌, ◌^◌, ◌≤◌, inl, inr, ℤ, pos, neg_ℤ, ◌+ℤ◌, ◌-ℤ◌, ◌*ℤ◌, ◌≤ℤ◌, ◌<ℤ◌, [], ◌∷◌, refl, sym, ap, ◌∙◌, arith, FitsSigned, w64, to_z, of_z, to_z-of_z, ◌%◌}
use Rattle.std.proofs.lemmas.Int.{ints}
use Rattle.std.proofs.lemmas.Nat.{pow-add}
use Rattle.std.proofs.Math.Pow.{pow_mono}
use Rattle.std.specs.Int.{int_min, int_max}
use Rattle.drm_num.specs.Interval.{Lies, unit}
use Rattle.drm_num.proofs.Integers.{along, sums, assoc, trans, by_gap, keeps_right, le_of_lt_z, sign, product_not_negative, min_first, min_second, max_first, max_second}
use Rattle.drm_num.proofs.SmallLemmas.{IsSmall-product}
use Rattle.drm_num.proofs.Ring.{Var, Lit, Sum, Prod, Neg, ring}
use Rattle.drm_pose.specs.Boxes.{tangent_at, joint_interval}
use Rattle.drm_num.specs.Small.{IsSmall}
use Rattle.drm_pose.specs.Moment.{Moment, IsInPiece, denominator, numerator}

-- the end at i / m is at most the tangent at p / w, where the joint turns that way; all are multiples of k
end_below : (a b m k i p w : ℤ) → pos 0 ≤ℤ k → pos 0 ≤ℤ ((b -ℤ a) *ℤ ((p *ℤ m) -ℤ (i *ℤ w))) → ((((a *ℤ m) +ℤ ((b -ℤ a) *ℤ i)) *ℤ k) *ℤ (pos 1024 *ℤ w)) ≤ℤ ((pos 1024 *ℤ (m *ℤ k)) *ℤ ((a *ℤ (w -ℤ p)) +ℤ (b *ℤ p)))
end_below a b m k i p w not_negative way =
    let thousand : pos 0 ≤ℤ pos 1024 = omega (arith, ints) in
    let from = Var 0 in
    let to = Var 1 in
    let pieces = Var 2 in
    let scale = Var 3 in
    let place = Var 4 in
    let part = Var 5 in
    let whole = Var 6 in
    let step = Sum to (Neg from) in
    let gap = Prod (Prod (Lit (pos 1024)) scale) (Prod step (Sum (Prod part pieces) (Neg (Prod place whole)))) in
    let end = Prod (Prod (Sum (Prod from pieces) (Prod step place)) scale) (Prod (Lit (pos 1024)) whole) in
    let here = Prod (Prod (Lit (pos 1024)) (Prod pieces scale)) (Sum (Prod from (Sum whole (Neg part))) (Prod to part)) in
    by_gap _ _ ((pos 1024 *ℤ k) *ℤ ((b -ℤ a) *ℤ ((p *ℤ m) -ℤ (i *ℤ w))))
    (ring (a ∷ b ∷ m ∷ k ∷ i ∷ p ∷ w ∷ []) here (Sum end gap) refl)
    (product_not_negative (product_not_negative thousand not_negative) way)

end_above : (a b m k i p w : ℤ) → pos 0 ≤ℤ k → pos 0 ≤ℤ ((b -ℤ a) *ℤ ((i *ℤ w) -ℤ (p *ℤ m))) → ((pos 1024 *ℤ (m *ℤ k)) *ℤ ((a *ℤ (w -ℤ p)) +ℤ (b *ℤ p))) ≤ℤ ((((a *ℤ m) +ℤ ((b -ℤ a) *ℤ i)) *ℤ k) *ℤ (pos 1024 *ℤ w))
end_above a b m k i p w not_negative way =
    let thousand : pos 0 ≤ℤ pos 1024 = omega (arith, ints) in
    let from = Var 0 in
    let to = Var 1 in
    let pieces = Var 2 in
    let scale = Var 3 in
    let place = Var 4 in
    let part = Var 5 in
    let whole = Var 6 in
    let step = Sum to (Neg from) in
    let gap = Prod (Prod (Lit (pos 1024)) scale) (Prod step (Sum (Prod place whole) (Neg (Prod part pieces)))) in
    let end = Prod (Prod (Sum (Prod from pieces) (Prod step place)) scale) (Prod (Lit (pos 1024)) whole) in
    let here = Prod (Prod (Lit (pos 1024)) (Prod pieces scale)) (Sum (Prod from (Sum whole (Neg part))) (Prod to part)) in
    by_gap _ _ ((pos 1024 *ℤ k) *ℤ ((b -ℤ a) *ℤ ((i *ℤ w) -ℤ (p *ℤ m))))
    (ring (a ∷ b ∷ m ∷ k ∷ i ∷ p ∷ w ∷ []) end (Sum here gap) refl)
    (product_not_negative (product_not_negative thousand not_negative) way)

-- a rise times what is not negative, and a fall times what is not positive
same_signs : (u v : ℤ) → u ≤ℤ pos 0 → v ≤ℤ pos 0 → pos 0 ≤ℤ (u *ℤ v)
same_signs u v h k =
    let x = Var 0 in
    let y = Var 1 in
    let first : pos 0 ≤ℤ (pos 0 -ℤ u) = omega (arith, ints) in
    let second : pos 0 ≤ℤ (pos 0 -ℤ v) = omega (arith, ints) in
    let opposite = product_not_negative first second in
    along refl (ring (u ∷ v ∷ []) (Prod (Sum (Lit (pos 0)) (Neg x)) (Sum (Lit (pos 0)) (Neg y))) (Prod x y) refl) opposite

-- the least of the ends at i / m and o / m is at most the tangent, and the greatest is at least the tangent, where p / w lies between i / m and o / m
between : (a b m k i o p w : ℤ) → pos 0 ≤ℤ k → (i *ℤ w) ≤ℤ (p *ℤ m) → (p *ℤ m) ≤ℤ (o *ℤ w) → pos 0 <ℤ w → unit ≡ pos 1024 *ℤ (m *ℤ k) →
    Lies (record { top = (a *ℤ (w -ℤ p)) +ℤ (b *ℤ p); bottom = pos 1024 *ℤ w })
    (record {
      lo = int_min (((a *ℤ m) +ℤ ((b -ℤ a) *ℤ i)) *ℤ k) (((a *ℤ m) +ℤ ((b -ℤ a) *ℤ o)) *ℤ k);
      hi = int_max (((a *ℤ m) +ℤ ((b -ℤ a) *ℤ i)) *ℤ k) (((a *ℤ m) +ℤ ((b -ℤ a) *ℤ o)) *ℤ k);
    })
between a b m k i o p w not_negative after before proper is_unit =
    let n = (a *ℤ (w -ℤ p)) +ℤ (b *ℤ p) in
    let first = ((a *ℤ m) +ℤ ((b -ℤ a) *ℤ i)) *ℤ k in
    let second = ((a *ℤ m) +ℤ ((b -ℤ a) *ℤ o)) *ℤ k in
    let bottom : pos 0 <ℤ (pos 1024 *ℤ w) = omega (arith, ints) in
    let scaled : (pos 1024 *ℤ (m *ℤ k)) *ℤ n ≡ unit *ℤ n = ap (λ (t : ℤ). t *ℤ n) (sym is_unit) in
    let low = λ (end : ℤ) (h : (end *ℤ (pos 1024 *ℤ w)) ≤ℤ ((pos 1024 *ℤ (m *ℤ k)) *ℤ n)) (k : int_min first second ≤ℤ end). trans (keeps_right (pos 1024 *ℤ w) (le_of_lt_z bottom) k) (along refl scaled h) in
    let high = λ (end : ℤ) (h : ((pos 1024 *ℤ (m *ℤ k)) *ℤ n) ≤ℤ (end *ℤ (pos 1024 *ℤ w))) (k : end ≤ℤ int_max first second). trans (along scaled refl h) (keeps_right (pos 1024 *ℤ w) (le_of_lt_z bottom) k) in
    let since_first : pos 0 ≤ℤ ((p *ℤ m) -ℤ (i *ℤ w)) = omega (arith, ints) in
    let to_second : pos 0 ≤ℤ ((o *ℤ w) -ℤ (p *ℤ m)) = omega (arith, ints) in
    let past_second : ((p *ℤ m) -ℤ (o *ℤ w)) ≤ℤ pos 0 = omega (arith, ints) in
    let past_first : ((i *ℤ w) -ℤ (p *ℤ m)) ≤ℤ pos 0 = omega (arith, ints) in
    record {
      proper = bottom;
      above = elim (sign (b -ℤ a)) [
        | inl s ↦ low first (end_below a b m k i p w not_negative (product_not_negative s since_first)) (min_first first second)
        | inr s ↦ low second (end_below a b m k o p w not_negative (same_signs _ _ s past_second)) (min_second first second)
      ];
      below = elim (sign (b -ℤ a)) [
        | inl s ↦ high second (end_above a b m k o p w not_negative (product_not_negative s to_second)) (max_second first second)
        | inr s ↦ high first (end_above a b m k i p w not_negative (same_signs _ _ s past_first)) (max_first first second)
      ];
    }

-- the two powers of the scale
power_parts : (depth : ℕ) → depth ≤ 20 → pos (2 ^ 20) ≡ pos (2 ^ depth) *ℤ pos (2 ^ (20 - depth))
power_parts depth h =
    let whole : 20 ≡ depth + (20 - depth) = omega arith in
    ap pos (ap (λ (t : ℕ). 2 ^ t) whole ∙ pow-add 2 depth (20 - depth))

unit_is : (depth : ℕ) → depth ≤ 20 → unit ≡ pos 1024 *ℤ (pos (2 ^ depth) *ℤ pos (2 ^ (20 - depth)))
unit_is depth h = ap (λ (t : ℤ). pos 1024 *ℤ t) (power_parts depth h)

-- the tangent of a joint at a moment of the piece
pub Lies-tangent : (from to : ℤ) (depth index : ℕ) (m : Moment) → depth ≤ 20 → IsInPiece depth index m → Lies (record { top = numerator from to m; bottom = denominator m }) (joint_interval from to depth index)
Lies-tangent from to depth index m shallow h =
    let proper : pos 0 <ℤ pos m.whole = omega (arith, ints) in
    let after : (pos index *ℤ pos m.whole) ≤ℤ (pos m.part *ℤ pos (2 ^ depth)) = omega (arith, ints) in
    let before : (pos m.part *ℤ pos (2 ^ depth)) ≤ℤ (pos (index + 1) *ℤ pos m.whole) = omega (arith, ints) in
    between from to (pos (2 ^ depth)) (pos (2 ^ (20 - depth))) (pos index) (pos (index + 1)) (pos m.part) (pos m.whole) (omega (arith, ints)) after before proper (unit_is depth shallow)

-- ---- sizes

pub power_small : (e : ℕ) → e ≤ 20 → IsSmall (pos (2 ^ 20)) (pos (2 ^ e))
power_small e h =
    let power : 2 ^ e ≤ 2 ^ 20 = pow_mono h in
    record { low = omega (arith, ints); high = omega (arith, ints) }

-- the end of a piece is at most the greater coordinate, and so for the opposite
tangent_high : (a b m k i c : ℤ) → a ≤ℤ c → b ≤ℤ c → pos 0 ≤ℤ i → i ≤ℤ m → pos 0 ≤ℤ k → (((a *ℤ m) +ℤ ((b -ℤ a) *ℤ i)) *ℤ k) ≤ℤ (c *ℤ (m *ℤ k))
tangent_high a b m k i c a_in b_in i_up i_in k_up =
    let from = Var 0 in
    let to = Var 1 in
    let pieces = Var 2 in
    let place = Var 3 in
    let rest_up : pos 0 ≤ℤ (m -ℤ i) = omega (arith, ints) in
    let first : (a *ℤ (m -ℤ i)) ≤ℤ (c *ℤ (m -ℤ i)) = keeps_right (m -ℤ i) rest_up a_in in
    let second : (b *ℤ i) ≤ℤ (c *ℤ i) = keeps_right i i_up b_in in
    let left : (a *ℤ (m -ℤ i)) +ℤ (b *ℤ i) ≡ (a *ℤ m) +ℤ ((b -ℤ a) *ℤ i) =
    ring (a ∷ b ∷ m ∷ i ∷ []) (Sum (Prod from (Sum pieces (Neg place))) (Prod to place)) (Sum (Prod from pieces) (Prod (Sum to (Neg from)) place)) refl in
    let right : (c *ℤ (m -ℤ i)) +ℤ (c *ℤ i) ≡ c *ℤ m =
    ring (c ∷ m ∷ i ∷ []) (Sum (Prod (Var 0) (Sum (Var 1) (Neg (Var 2)))) (Prod (Var 0) (Var 2))) (Prod (Var 0) (Var 1)) refl in
    along refl (assoc c m k) (keeps_right k k_up (along left right (sums first second)))

tangent_low : (a b m k i c : ℤ) → c ≤ℤ a → c ≤ℤ b → pos 0 ≤ℤ i → i ≤ℤ m → pos 0 ≤ℤ k → (c *ℤ (m *ℤ k)) ≤ℤ (((a *ℤ m) +ℤ ((b -ℤ a) *ℤ i)) *ℤ k)
tangent_low a b m k i c a_in b_in i_up i_in k_up =
    let from = Var 0 in
    let to = Var 1 in
    let pieces = Var 2 in
    let place = Var 3 in
    let rest_up : pos 0 ≤ℤ (m -ℤ i) = omega (arith, ints) in
    let first : (c *ℤ (m -ℤ i)) ≤ℤ (a *ℤ (m -ℤ i)) = keeps_right (m -ℤ i) rest_up a_in in
    let second : (c *ℤ i) ≤ℤ (b *ℤ i) = keeps_right i i_up b_in in
    let left : (a *ℤ (m -ℤ i)) +ℤ (b *ℤ i) ≡ (a *ℤ m) +ℤ ((b -ℤ a) *ℤ i) =
    ring (a ∷ b ∷ m ∷ i ∷ []) (Sum (Prod from (Sum pieces (Neg place))) (Prod to place)) (Sum (Prod from pieces) (Prod (Sum to (Neg from)) place)) refl in
    let right : (c *ℤ (m -ℤ i)) +ℤ (c *ℤ i) ≡ c *ℤ m =
    ring (c ∷ m ∷ i ∷ []) (Sum (Prod (Var 0) (Sum (Var 1) (Neg (Var 2)))) (Prod (Var 0) (Var 2))) (Prod (Var 0) (Var 1)) refl in
    along (assoc c m k) refl (keeps_right k k_up (along right left (sums first second)))

-- the ends of the pieces of a motion within the limits are at most four
pub tangent_small : (from to : ℤ) (depth i : ℕ) → IsSmall (pos 4096) from → IsSmall (pos 4096) to → depth ≤ 20 → i ≤ 2 ^ depth → IsSmall (pos (2 ^ 32)) (tangent_at from to depth i)
tangent_small from to depth i from_in to_in shallow place =
    let i_up : pos 0 ≤ℤ pos i = omega (arith, ints) in
    let i_in : pos i ≤ℤ pos (2 ^ depth) = omega (arith, ints) in
    let k_up : pos 0 ≤ℤ pos (2 ^ (20 - depth)) = omega (arith, ints) in
    let scale : pos (2 ^ depth) *ℤ pos (2 ^ (20 - depth)) ≡ pos (2 ^ 20) = sym (power_parts depth shallow) in
    let high = tangent_high from to (pos (2 ^ depth)) (pos (2 ^ (20 - depth))) (pos i) (pos 4096) from_in.high to_in.high i_up i_in k_up in
    let low = tangent_low from to (pos (2 ^ depth)) (pos (2 ^ (20 - depth))) (pos i) (neg_ℤ (pos 4096)) from_in.low to_in.low i_up i_in k_up in
    record { low = along (ap (λ (t : ℤ). neg_ℤ (pos 4096) *ℤ t) scale) refl low; high = along refl (ap (λ (t : ℤ). pos 4096 *ℤ t) scale) high }

-- each number on the way to an end fits 64 bits
pub record EndFits (a b m i k : ℤ) : Type 0 where
  pub start : FitsSigned w64 a
  pub rise : FitsSigned w64 b
  pub pieces : FitsSigned w64 m
  pub place : FitsSigned w64 i
  pub scale : FitsSigned w64 k
  pub first : FitsSigned w64 (a *ℤ m)
  pub second : FitsSigned w64 (b *ℤ i)
  pub sum : FitsSigned w64 ((a *ℤ m) +ℤ (b *ℤ i))
  pub whole : FitsSigned w64 (((a *ℤ m) +ℤ (b *ℤ i)) *ℤ k)

pub end_fits : {a b m i k : ℤ} → IsSmall (pos (2 ^ 12)) a → IsSmall (pos (2 ^ 13)) b → IsSmall (pos (2 ^ 20)) m → IsSmall (pos (2 ^ 20)) i → IsSmall (pos (2 ^ 20)) k → EndFits a b m i k
end_fits {a} {b} {m} {i} {k} start rise pieces place scale =
    let first = IsSmall-product start pieces in
    let second = IsSmall-product rise place in
    let sum : IsSmall (pos (2 ^ 34)) ((a *ℤ m) +ℤ (b *ℤ i)) = record { low = omega (arith, ints); high = omega (arith, ints) } in
    let whole = IsSmall-product sum scale in
    record {
      start = omega (arith, ints);
      rise = omega (arith, ints);
      pieces = omega (arith, ints);
      place = omega (arith, ints);
      scale = omega (arith, ints);
      first = omega (arith, ints);
      second = omega (arith, ints);
      sum = omega (arith, ints);
      whole = omega (arith, ints);
    }

-- a power of two, as a shift gives it
pub shifted_one : (e : ℕ) → e ≤ 20 → to_z w64 (1 * 2 ^ e % 2 ^ 64) ≡ pos (2 ^ e)
shifted_one e h =
    let power : 2 ^ e ≤ 2 ^ 20 = pow_mono h in
    omega (arith, ints)

-- an end of a piece, from numbers that passed through 64 bits
pub tangent_from : (r start to_wide pieces place scale from to : ℤ) (depth i : ℕ) → IsSmall (pos 4096) from → IsSmall (pos 4096) to → depth ≤ 20 → i ≤ 2 ^ depth →
    start ≡ from → to_wide ≡ to → pieces ≡ pos (2 ^ depth) → place ≡ pos i → scale ≡ pos (2 ^ (20 - depth)) →
    r ≡ ((to_z w64 (of_z w64 start) *ℤ to_z w64 (of_z w64 pieces)) +ℤ (to_z w64 (of_z w64 (to_z w64 (of_z w64 to_wide) -ℤ to_z w64 (of_z w64 start))) *ℤ to_z w64 (of_z w64 place))) *ℤ to_z w64 (of_z w64 scale) →
    r ≡ tangent_at from to depth i
tangent_from r start to_wide pieces place scale from to depth i from_in to_in shallow in_range is_start is_to is_pieces is_place is_scale h =
    let whole : 2 ^ depth ≤ 2 ^ 20 = pow_mono shallow in
    let rest : 20 - depth ≤ 20 = omega arith in
    let part : 2 ^ (20 - depth) ≤ 2 ^ 20 = pow_mono rest in
    let fits_start : FitsSigned w64 start = omega (arith, ints) in
    let fits_to : FitsSigned w64 to_wide = omega (arith, ints) in
    let fits_rise : FitsSigned w64 (to_wide -ℤ start) = omega (arith, ints) in
    let fits_pieces : FitsSigned w64 pieces = omega (arith, ints) in
    let fits_place : FitsSigned w64 place = omega (arith, ints) in
    let fits_scale : FitsSigned w64 scale = omega (arith, ints) in
    let plain : r ≡ ((start *ℤ pieces) +ℤ ((to_wide -ℤ start) *ℤ place)) *ℤ scale = simp to_z-of_z at h in
    rw (plain, is_start, is_to, is_pieces, is_place, is_scale) refl
