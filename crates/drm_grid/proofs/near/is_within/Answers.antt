-- The sums of the squares fit 128 bits.
use Rattle.std.proofs.Common.{FitsSigned, rules, ◌≡◌, ◌+ℤ◌, ◌*ℤ◌, ap, ◌∙◌, sym, arith, ℤ}
use Rattle.std.specs.Int.{w128}
use Rattle.std.proofs.lemmas.Int.{to_z-of_z, ints}
use Rattle.drm_num.proofs.Integers.{along}
use Rattle.drm_grid.proofs.StripLemmas.{le_from_test, test_from_le}
use Rattle.drm_grid.proofs.near.is_within.Goals as goal

pub returns : goal.returns
returns c =
    let across_fits = c.ranges.across in
    let up_fits = c.ranges.up in
    let far_fits = c.ranges.far in
    let a : c.square.result ≡ c.args.across *ℤ c.args.across = simp to_z-of_z at c.square.ensures.value in
    let b : c.square-2.result ≡ c.args.up *ℤ c.args.up = simp to_z-of_z at c.square-2.ensures.value in
    let f : c.square-3.result ≡ c.args.far *ℤ c.args.far = simp to_z-of_z at c.square-3.ensures.value in
    let a_fits : FitsSigned w128 c.square.result = search rules in
    let b_fits : FitsSigned w128 c.square-2.result = search rules in
    let f_fits : FitsSigned w128 c.square-3.result = search rules in
    let a_small = c.square.ensures.small in
    let b_small = c.square-2.ensures.small in
    let sum_fits : FitsSigned w128 (c.square.result +ℤ c.square-2.result) = omega (arith, ints) in
    let sum : c.square.result +ℤ c.square-2.result ≡ (c.args.across *ℤ c.args.across) +ℤ (c.args.up *ℤ c.args.up) = ap (λ (t : ℤ). t +ℤ c.square-2.result) a ∙ ap (λ (t : ℤ). (c.args.across *ℤ c.args.across) +ℤ t) b in (
      (λ yes. along sum f (le_from_test (c.square.result +ℤ c.square-2.result) c.square-3.result (simp to_z-of_z at yes))),
      (λ le. simp to_z-of_z (test_from_le (c.square.result +ℤ c.square-2.result) c.square-3.result (along (sym sum) (sym f) le))),
    )
