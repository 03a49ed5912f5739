use Rattle.std.proofs.Common.{arith, FitsSigned, w64, ℤ, ◌-ℤ◌, ◌∙◌, ap₂, to_z-of_z}
use Rattle.std.proofs.lemmas.Int.{ints}
use Rattle.drm_num.specs.Interval.{unit}
use Rattle.drm_num.specs.Quotient.{floor, ceiling}
use Rattle.drm_num.specs.Arithmetic.{product_difference}
use Rattle.drm_num.proofs.IntervalLemmas.{same_ends}
use Rattle.drm_num.proofs.ProductLemmas.{Lies-product_difference}
use Rattle.drm_num.proofs.product.mul_sub2.Goals as goal

pub returns-clause-value : goal.returns-clause-value
unfolding product_difference
returns-clause-value c =
    let first = c.products-first_least in
    let second = c.products-second_least in
    let least_fits : FitsSigned w64 first.result.0 = omega (arith, ints, first.ensures.least_small, first.ensures.greatest_small) in
    let greatest_fits : FitsSigned w64 first.result.1 = omega (arith, ints, first.ensures.least_small, first.ensures.greatest_small) in
    let low_fits : FitsSigned w64 second.result.1 = omega (arith, ints, second.ensures.least_small, second.ensures.greatest_small) in
    let high_fits : FitsSigned w64 second.result.0 = omega (arith, ints, second.ensures.least_small, second.ensures.greatest_small) in
    let lo_fits : FitsSigned w64 (first.result.0 -ℤ second.result.1) = omega (arith, ints, first.ensures.least_small, first.ensures.greatest_small, second.ensures.least_small, second.ensures.greatest_small) in
    let hi_fits : FitsSigned w64 (first.result.1 -ℤ second.result.0) = omega (arith, ints, first.ensures.least_small, first.ensures.greatest_small, second.ensures.least_small, second.ensures.greatest_small) in
    let lo_is = simp to_z-of_z at c.rounded.ensures.lo in
    let hi_is = simp to_z-of_z at c.rounded.ensures.hi in
    same_ends _ _
    (lo_is ∙ ap₂ (λ (x : ℤ) (y : ℤ). floor (x -ℤ y) unit) first.ensures.least second.ensures.greatest)
    (hi_is ∙ ap₂ (λ (x : ℤ) (y : ℤ). ceiling (x -ℤ y) unit) first.ensures.greatest second.ensures.least)

pub returns-clause-contains : goal.returns-clause-contains
returns-clause-contains c = λ x y u v hx hy hu hv. rw (returns-clause-value c) (Lies-product_difference hx hy hu hv)
