-- The halves of a piece of a motion, and the equal parts of a link, leave nothing out.
use Rattle.std.proofs.Common.{◌≡◌, ◌⊎◌, inl, inr, ℕ, zero, suc, pos, ◌+◌, ◌*◌, ◌/◌, ◌%◌, ◌^◌, ◌≤◌, ◌<◌, ap, arith}
use Rattle.std.proofs.lemmas.Int.{ints, by_lt_z}
use Rattle.std.proofs.lemmas.Nat.{pow-add}
use Rattle.std.proofs.Math.Nat.{eq-or-lt_of_le, mul-lt-mul_of_pos_right, lt_of_mul-lt-mul_right, mul_comm}
use Rattle.drm_pose.specs.Enclosure.{IsInPart}
use Rattle.drm_pose.specs.Laws.{WholeHasEachMoment, HalvesCover, PieceHasItsStart, PartsCover, PartHasItsStart}

-- ---- pieces of motions

pub whole : WholeHasEachMoment
whole m h = record { moment = h; after = omega arith; before = omega (arith, h.bounded) }

-- p / w lies in the first or in the second half from i / t to (i + 1) / t
in_halves : (i w p t u : ℕ) → u ≡ t * 2 → i * w ≤ p * t → p * t ≤ (i + 1) * w →
    (((2 * i) * w ≤ p * u) × (p * u ≤ (2 * i + 1) * w)) ⊎ (((2 * i + 1) * w ≤ p * u) × (p * u ≤ (2 * i + 1 + 1) * w))
in_halves i w p t u double after before =
    let doubled : p * u ≡ p * (t * 2) = ap (λ x. p * x) double in
    by_lt_z (pos (p * u)) (pos ((2 * i + 1) * w))
    (λ below. inl (omega arith, omega (arith, ints)))
    (λ above. inr (omega (arith, ints), omega arith))

pub halves : HalvesCover
halves depth index m h =
    elim (in_halves index m.whole m.part (2 ^ depth) (2 ^ (depth + 1)) (pow-add 2 depth 1) h.after h.before) [
      | inl k ↦ inl (record { moment = h.moment; after = k.0; before = k.1 })
      | inr k ↦ inr (record { moment = h.moment; after = k.0; before = k.1 })
    ]

pub piece_start : PieceHasItsStart
piece_start depth index below = record {
  moment = record { proper = omega arith; bounded = omega arith };
  after = omega arith;
  before = omega arith;
}

-- ---- parts of links

-- e / f lies in the part whose number is the quotient
in_part : (n e f : ℕ) → 1 ≤ f → IsInPart (e * n / f) n e f
in_part n e f some =
    let p = e * n / f in
    let q : f * p + e * n % f ≡ e * n = omega arith in
    let rest : e * n % f < f = omega arith in
    let turned : p * f ≡ f * p = mul_comm p f in
    record { proper = some; after = omega arith; before = omega arith }

-- the quotient is below n
part_below : (n e f : ℕ) → 1 ≤ n → 1 ≤ f → e < f → e * n / f < n
part_below n e f cut some below =
    let less : e * n < f * n = mul-lt-mul_of_pos_right below cut in
    lt_of_mul-lt-mul_right f (omega (arith, (in_part n e f some).after))

pub parts : PartsCover
parts zero e f cut some most = absurd (omega arith)
parts (suc k) e f cut some most =
    elim (eq-or-lt_of_le most) [
      | inl last ↦
          let whole_link : e * suc k ≡ f * suc k = ap (λ t. t * suc k) last in
          let turned : k * f ≡ f * k = mul_comm k f in
          (k, (omega arith, record { proper = some; after = omega arith; before = omega arith }))
      | inr below ↦ (e * suc k / f, (part_below (suc k) e f cut some below, in_part (suc k) e f some))
    ]

pub part_start : PartHasItsStart
part_start n p cut = record { proper = cut; after = omega arith; before = omega arith }
