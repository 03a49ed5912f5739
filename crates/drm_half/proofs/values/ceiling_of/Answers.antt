-- Where the division leaves something, the next number is the one above.
use Rattle.std.proofs.Common.{rules, ◌≡◌, ℤ, pos, ◌+ℤ◌, ◌*ℤ◌, w64, to_z, of_z, to_z-of_z, sym, ap, ◌∙◌, subst, arith}
use Rattle.std.proofs.lemmas.Int.{ints}
use Rattle.drm_num.specs.Quotient.{floor}
use Rattle.drm_half.proofs.RoundLemmas.{ceiling_exact, ceiling_next}
use Rattle.drm_half.proofs.values.ceiling_of.Goals as goal

pub returns-then-product-n : goal.returns-then-product-n
returns-then-product-n c =
    let n_fits = c.ranges.n in
    let d_fits = c.ranges.d in
    let below_fits = c.ranges.below in
    let times : c.product.result ≡ c.args.below *ℤ c.args.d = simp to_z-of_z at c.product.ensures in
    let same : c.product.result ≡ c.args.n = search rules in
    let whole : floor c.args.n c.args.d *ℤ c.args.d ≡ c.args.n = subst (λ (q : ℤ). q *ℤ c.args.d ≡ c.args.n) c.requires.down (sym times ∙ same) in
    to_z-of_z c.ranges.below ∙ c.requires.down ∙ sym (ceiling_exact c.args.n c.args.d c.requires.positive whole)

pub returns-else-product-n : goal.returns-else-product-n
returns-else-product-n c =
    let n_fits = c.ranges.n in
    let d_fits = c.ranges.d in
    let below_fits = c.ranges.below in
    let times : c.product.result ≡ c.args.below *ℤ c.args.d = simp to_z-of_z at c.product.ensures in
    let other : c.product.result ≡ c.args.n → ⊥ = search rules in
    let rest : floor c.args.n c.args.d *ℤ c.args.d ≡ c.args.n → ⊥ = λ whole. other (times ∙ ap (λ (q : ℤ). q *ℤ c.args.d) c.requires.down ∙ whole) in
    let next : to_z w64 (of_z w64 (to_z w64 (of_z w64 c.args.below) +ℤ pos 1)) ≡ c.args.below +ℤ pos 1 = omega (arith, ints, c.requires.small.low, c.requires.small.high) in
    next ∙ ap (λ (q : ℤ). q +ℤ pos 1) c.requires.down ∙ sym (ceiling_next c.args.n c.args.d c.requires.positive rest)
