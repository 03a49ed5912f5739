-- Which lines of a grid are not beyond a coordinate.
use Rattle.std.proofs.Common.{◌≡◌, ℕ, ◌+◌, ◌-◌, ◌/◌, min, ◌<◌, ◌≤◌, ◌↔◌, inl, inr, true, arith}
use Rattle.std.specs.Prelude.{ℤ, pos, neg_ℤ, ◌+ℤ◌, ◌-ℤ◌, ◌*ℤ◌, ◌≤ℤ◌, ◌<ℤ◌}
use Rattle.std.proofs.lemmas.Int.{ints, clamps, by_lt_z}
use Rattle.std.proofs.lemmas.Bool.{cases_lt}
use lib.Signed.{le_z}
use Rattle.drm_grid.specs.Layout.{Layout, line_at}
use Rattle.drm_grid.specs.Strips.{MeetsStrip, IsBetween}
use Rattle.drm_num.specs.Interval.{Interval, IsOrdered, unit}
use Rattle.drm_num.specs.Arithmetic.{gap}
use Rattle.drm_num.specs.Quotient.{floor, ceiling}
use Rattle.drm_num.proofs.Integers.{keeps_right, product_not_negative, distrib_right, negated_left, max_below}
use Rattle.drm_num.proofs.Rounding.{IsFloor-floor, IsCeiling-ceiling, floor_above, ceiling_below}

-- a multiple is at most a number where its factor is at most the quotient that is rounded down
pub multiple_up_to : (m q a : ℤ) (d : ℕ) → 0 < d → (q *ℤ pos d) ≤ℤ a → a <ℤ ((q +ℤ pos 1) *ℤ pos d) → (m ≤ℤ q) ↔ ((m *ℤ pos d) ≤ℤ a)
multiple_up_to m q a d some at_most greatest = (
  λ le. let kept : (m *ℤ pos d) ≤ℤ (q *ℤ pos d) = keeps_right (pos d) (omega (arith, ints)) le in omega (arith, ints),
  λ le. by_lt_z q m
      (λ below. let kept : ((q +ℤ pos 1) *ℤ pos d) ≤ℤ (m *ℤ pos d) = keeps_right (pos d) (omega (arith, ints)) (omega (arith, ints)) in absurd (omega (arith, ints)))
      (λ at_most. at_most),
)

-- the same, for the line k of a grid
pub line_up_to : (grid : Layout) (k n : ℕ) (q a : ℤ) → n ≡ grid.n → 0 < grid.side
    → (q *ℤ pos grid.side) ≤ℤ a → a <ℤ ((q +ℤ pos 1) *ℤ pos grid.side)
    → (pos k ≤ℤ (q +ℤ pos (n / 2))) ↔ (line_at grid k ≤ℤ a)
line_up_to grid k n q a rows some at_most greatest =
    let both = multiple_up_to (pos k -ℤ pos (n / 2)) q a grid.side some at_most greatest in
    rw (← rows) (λ le. both.0 (omega (arith, ints)), λ le. let m = both.1 le in omega (arith, ints))

not_above : (k s : ℕ) → ¬ (k + 1 < s) → s - 1 ≤ k
not_above k s above = elim (cases_lt (k + 1) s) [ inl lt ↦ absurd (above lt) | inr le ↦ omega arith ]

-- a strip is reached where its first line is not beyond the end, and its next line is not before the start
pub reached_strip : (grid : Layout) (low high : ℤ) (k s e : ℕ)
    → ((k + 1 < s) ↔ (line_at grid (k + 1) ≤ℤ (low -ℤ pos 1))) → ((k < e) ↔ (line_at grid k ≤ℤ high)) → k < grid.n
    → MeetsStrip grid low high k ↔ IsBetween (record { start = s - 1; end = min e grid.n }) k
reached_strip grid low high k s e start end h = (
  λ reaches. record {
    from_start = not_above k s (λ beyond. let wrong = start.0 beyond in let right = reaches.starts in absurd (omega (arith, ints)));
    before_end = let inside = end.1 reaches.ends in omega arith;
  },
  λ within. record {
    starts = by_lt_z (line_at grid (k + 1)) low (λ below. let wrong = start.1 (omega (arith, ints)) in let right = within.from_start in absurd (omega arith)) (λ le. le);
    ends = end.0 (let inside = within.before_end in omega arith);
  },
)

-- the range of strips that an interval reaches is in order
pub reached_in_order : (grid : Layout) (low high : ℤ) (s e : ℕ) → low ≤ℤ (high +ℤ pos 1) → s ≤ grid.n + 1
    → ((k : ℕ) → k ≤ grid.n → (k < s) ↔ (line_at grid k ≤ℤ (low -ℤ pos 1)))
    → ((k : ℕ) → k ≤ grid.n → (k < e) ↔ (line_at grid k ≤ℤ high))
    → s - 1 ≤ min e grid.n
reached_in_order grid low high s e ordered most start end =
    elim (cases_lt e (s - 1)) [
      | inl below ↦ (
          let inside : e ≤ grid.n = omega arith in
          let line = (start e inside).0 (omega arith) in
          let beyond = (end e inside).1 (omega (arith, ints)) in
          absurd (omega arith))
      | inr le ↦ omega arith
    ]

-- the lines are in order
pub line_at-next : (grid : Layout) (k : ℕ) → line_at grid k ≤ℤ line_at grid (k + 1)
line_at-next grid k =
    let half = pos (grid.n / 2) in
    keeps_right (pos grid.side) (omega (arith, ints)) (omega (arith, ints))

-- the strip from a to b units is at most `far` units from the interval exactly where, in whole units, neither lies beyond the other by more
pub near_in_units : (x : Interval) (a b far : ℤ) → pos 0 ≤ℤ far
    → (gap x (record { lo = a *ℤ unit; hi = b *ℤ unit }) ≤ℤ (far *ℤ unit)) ↔ (((ceiling x.lo unit -ℤ far) ≤ℤ b) × (a ≤ℤ (floor x.hi unit +ℤ far)))
near_in_units x a b far some =
    let positive : pos 0 <ℤ unit = omega (arith, ints) in
    let zero : pos 0 ≤ℤ (far *ℤ unit) = product_not_negative some (omega (arith, ints)) in
    let below = IsFloor-floor x.hi unit positive in
    let above = IsCeiling-ceiling x.lo unit positive in (
      (λ near.
          let left : ((a *ℤ unit) -ℤ x.hi) ≤ℤ (far *ℤ unit) = omega (arith, ints, clamps) in
          let right : (x.lo -ℤ (b *ℤ unit)) ≤ℤ (far *ℤ unit) = omega (arith, ints, clamps) in
          let high : ((a -ℤ far) *ℤ unit) ≤ℤ x.hi = omega (arith, ints, distrib_right a (neg_ℤ far) unit, negated_left far unit) in
          let low : x.lo ≤ℤ ((b +ℤ far) *ℤ unit) = omega (arith, ints, distrib_right b far unit) in
          let q = floor_above x.hi unit (a -ℤ far) positive high in
          let r = ceiling_below x.lo unit (b +ℤ far) positive low in
          (omega (arith, ints), omega (arith, ints))),
      (λ (low, high).
          let down : (a -ℤ far) ≤ℤ floor x.hi unit = omega (arith, ints) in
          let up : ceiling x.lo unit ≤ℤ (b +ℤ far) = omega (arith, ints) in
          let unit_up : pos 0 ≤ℤ unit = omega (arith, ints) in
          let q = keeps_right unit unit_up down in
          let r = keeps_right unit unit_up up in
          let p = below.at_most in
          let s = above.at_least in
          let left : ((a *ℤ unit) -ℤ x.hi) ≤ℤ (far *ℤ unit) = omega (arith, ints, distrib_right a (neg_ℤ far) unit, negated_left far unit) in
          let right : (x.lo -ℤ (b *ℤ unit)) ≤ℤ (far *ℤ unit) = omega (arith, ints, distrib_right b far unit) in
          max_below (max_below left right) zero),
    )

-- the whole units of an interval are in order, or one apart
pub units_ordered : (x : Interval) → IsOrdered x → ceiling x.lo unit ≤ℤ (floor x.hi unit +ℤ pos 1)
units_ordered x ordered =
    let positive : pos 0 <ℤ unit = omega (arith, ints) in
    let next = (IsFloor-floor x.hi unit positive).next_is_above in
    ceiling_below x.lo unit (floor x.hi unit +ℤ pos 1) positive (omega (arith, ints))

-- ---- tests of orders

pub le_from_test : (a b : ℤ) → le_z a b ≡ true → a ≤ℤ b
le_from_test a b test = grind (arith, ints)

pub test_from_le : (a b : ℤ) → a ≤ℤ b → le_z a b ≡ true
test_from_le a b le = grind (arith, ints)
