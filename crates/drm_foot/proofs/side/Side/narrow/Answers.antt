-- A side that goes up cuts the span off on the right, one that goes down on the left, and a level one wholly or not.
use Rattle.std.proofs.Common.{FitsSigned, w64, to_z-of_z, ◌≡◌, rules, arith}
use Rattle.std.specs.Prelude.{pos, neg_ℤ, ◌+ℤ◌, ◌-ℤ◌, ◌<ℤ◌, ◌≤ℤ◌}
use Rattle.std.proofs.lemmas.Int.{ints}
use Rattle.drm_num.specs.Quotient.{IsFloor}
use Rattle.drm_foot.specs.Sides.{lift}
use Rattle.drm_foot.proofs.SideLemmas.{fits_corner, fits_way, fits_opposite, opposite_is, fits_product, difference_fits, sum_fits, rest_fits, lt_from_test, not_lt_from_test, rising, falling, level, cut_right, cut_left, cut_all, cut_none}
use Rattle.drm_foot.proofs.side.Side.narrow.Goals as goal

pub overflow_add-most : goal.overflow_add-most
overflow_add-most c =
    let x_fits = fits_corner c.args.self.x c.requires.small.x in
    let q_fits = fits_product c.quotient.result c.quotient.ensures.small in
    rw (to_z-of_z x_fits, to_z-of_z q_fits) (sum_fits c.args.self.x c.quotient.result c.requires.small.x c.quotient.ensures.small)

pub returns-then-self-gt0 : goal.returns-then-self-gt0
returns-then-self-gt0 c =
    let side = c.args.self in
    let q = c.quotient.result in
    let x_fits = fits_corner c.args.self.x c.requires.small.x in
    let y_fits = fits_corner c.args.self.y c.requires.small.y in
    let dx_fits = fits_way c.args.self.dx c.requires.small.dx in
    let dy_fits = fits_way c.args.self.dy c.requires.small.dy in
    let bottom_fits : FitsSigned w64 c.args.bottom = c.ranges.bottom in
    let top_fits : FitsSigned w64 c.args.top = c.ranges.top in
    let low_way = difference_fits c.args.self.y c.args.bottom c.requires.small.y c.requires.bottom in
    let high_way = difference_fits c.args.self.y c.args.top c.requires.small.y c.requires.top in
    let up_fits = fits_product c.greater-up.result c.greater-up.ensures.small in
    let q_fits = fits_product c.quotient.result c.quotient.ensures.small in
    let most_fits = sum_fits c.args.self.x c.quotient.result c.requires.small.x c.quotient.ensures.small in
    let span_low : FitsSigned w64 c.args.span.low = search rules in
    let span_high : FitsSigned w64 c.args.span.high = search rules in
    let min_fits : FitsSigned w64 c.min.result = record { sfits = c.min.type_inv } in
    let up_is : c.greater-up.result ≡ lift side c.args.bottom c.args.top = simp to_z-of_z at c.greater-up.ensures.value in
    let positive : pos 0 <ℤ side.dy = lt_from_test (pos 0) side.dy (simp to_z-of_z at c.if-self-gt0.true) in
    let floor : IsFloor (lift side c.args.bottom c.args.top) side.dy q = rw up_is at (simp to_z-of_z at c.quotient.ensures.floor) in
    let cut = simp to_z-of_z at c.min.ensures.value in
    rw (to_z-of_z span_low, to_z-of_z min_fits, cut)
    (λ left right line order. cut_right c.args.span.low c.args.span.high (side.x +ℤ q) left right (rising side.x side.dy left right (lift side c.args.bottom c.args.top) q positive order floor))

pub overflow_sub-least : goal.overflow_sub-least
overflow_sub-least c =
    let x_fits = fits_corner c.args.self.x c.requires.small.x in
    let q_fits = fits_product c.quotient-then-self-lt0.result c.quotient-then-self-lt0.ensures.small in
    rw (to_z-of_z x_fits, to_z-of_z q_fits) (rest_fits c.args.self.x c.quotient-then-self-lt0.result c.requires.small.x c.quotient-then-self-lt0.ensures.small)

pub returns-then-self-lt0 : goal.returns-then-self-lt0
returns-then-self-lt0 c =
    let side = c.args.self in
    let q = c.quotient-then-self-lt0.result in
    let x_fits = fits_corner c.args.self.x c.requires.small.x in
    let y_fits = fits_corner c.args.self.y c.requires.small.y in
    let dx_fits = fits_way c.args.self.dx c.requires.small.dx in
    let dy_fits = fits_way c.args.self.dy c.requires.small.dy in
    let turned_fits = fits_opposite c.args.self.dy c.requires.small.dy in
    let bottom_fits : FitsSigned w64 c.args.bottom = c.ranges.bottom in
    let top_fits : FitsSigned w64 c.args.top = c.ranges.top in
    let low_way = difference_fits c.args.self.y c.args.bottom c.requires.small.y c.requires.bottom in
    let high_way = difference_fits c.args.self.y c.args.top c.requires.small.y c.requires.top in
    let up_fits = fits_product c.greater-up.result c.greater-up.ensures.small in
    let q_fits = fits_product c.quotient-then-self-lt0.result c.quotient-then-self-lt0.ensures.small in
    let least_fits = rest_fits c.args.self.x c.quotient-then-self-lt0.result c.requires.small.x c.quotient-then-self-lt0.ensures.small in
    let span_low : FitsSigned w64 c.args.span.low = search rules in
    let span_high : FitsSigned w64 c.args.span.high = search rules in
    let max_fits : FitsSigned w64 c.max.result = record { sfits = c.max.type_inv } in
    let up_is : c.greater-up.result ≡ lift side c.args.bottom c.args.top = simp to_z-of_z at c.greater-up.ensures.value in
    let negative : side.dy <ℤ pos 0 = lt_from_test side.dy (pos 0) (simp to_z-of_z at c.if-self-lt0.true) in
    let floor : IsFloor (lift side c.args.bottom c.args.top) (neg_ℤ side.dy) q = rw (up_is, opposite_is side.dy) at (simp to_z-of_z at c.quotient-then-self-lt0.ensures.floor) in
    let cut = simp to_z-of_z at c.max.ensures.value in
    rw (to_z-of_z span_high, to_z-of_z max_fits, cut)
    (λ left right line order. cut_left c.args.span.low c.args.span.high (side.x -ℤ q) left right (falling side.x side.dy left right (lift side c.args.bottom c.args.top) q negative order floor))

pub returns-then-up-lt0 : goal.returns-then-up-lt0
returns-then-up-lt0 c =
    let side = c.args.self in
    let y_fits = fits_corner c.args.self.y c.requires.small.y in
    let dx_fits = fits_way c.args.self.dx c.requires.small.dx in
    let dy_fits = fits_way c.args.self.dy c.requires.small.dy in
    let bottom_fits : FitsSigned w64 c.args.bottom = c.ranges.bottom in
    let top_fits : FitsSigned w64 c.args.top = c.ranges.top in
    let low_way = difference_fits c.args.self.y c.args.bottom c.requires.small.y c.requires.bottom in
    let high_way = difference_fits c.args.self.y c.args.top c.requires.small.y c.requires.top in
    let up_fits = fits_product c.greater-up.result c.greater-up.ensures.small in
    let span_low : FitsSigned w64 c.args.span.low = search rules in
    let span_high : FitsSigned w64 c.args.span.high = search rules in
    let min_fits : FitsSigned w64 c.min-then-up-lt0.result = record { sfits = c.min-then-up-lt0.type_inv } in
    let up_is : c.greater-up.result ≡ lift side c.args.bottom c.args.top = simp to_z-of_z at c.greater-up.ensures.value in
    let above = not_lt_from_test side.dy (pos 0) (simp to_z-of_z at c.if-self-lt0.false) in
    let below = not_lt_from_test (pos 0) side.dy (simp to_z-of_z at c.if-self-gt0.false) in
    let flat : side.dy ≡ pos 0 = omega (arith, ints) in
    let under : lift side c.args.bottom c.args.top <ℤ pos 0 = rw up_is at (lt_from_test c.greater-up.result (pos 0) (simp to_z-of_z at c.if-up-lt0.true)) in
    let cut = simp to_z-of_z at c.min-then-up-lt0.ensures.value in
    rw (to_z-of_z span_low, to_z-of_z min_fits, cut)
    (λ left right line order. cut_all c.args.span.low c.args.span.high left right (lift side c.args.bottom c.args.top) line under (level side.x side.dy left right (lift side c.args.bottom c.args.top) flat))

pub returns : goal.returns
returns c =
    let side = c.args.self in
    let y_fits = fits_corner c.args.self.y c.requires.small.y in
    let dx_fits = fits_way c.args.self.dx c.requires.small.dx in
    let dy_fits = fits_way c.args.self.dy c.requires.small.dy in
    let bottom_fits : FitsSigned w64 c.args.bottom = c.ranges.bottom in
    let top_fits : FitsSigned w64 c.args.top = c.ranges.top in
    let low_way = difference_fits c.args.self.y c.args.bottom c.requires.small.y c.requires.bottom in
    let high_way = difference_fits c.args.self.y c.args.top c.requires.small.y c.requires.top in
    let up_fits = fits_product c.greater-up.result c.greater-up.ensures.small in
    let up_is : c.greater-up.result ≡ lift side c.args.bottom c.args.top = simp to_z-of_z at c.greater-up.ensures.value in
    let above = not_lt_from_test side.dy (pos 0) (simp to_z-of_z at c.if-self-lt0.false) in
    let below = not_lt_from_test (pos 0) side.dy (simp to_z-of_z at c.if-self-gt0.false) in
    let flat : side.dy ≡ pos 0 = omega (arith, ints) in
    let over : pos 0 ≤ℤ lift side c.args.bottom c.args.top = rw up_is at (not_lt_from_test c.greater-up.result (pos 0) (simp to_z-of_z at c.if-up-lt0.false)) in
    λ left right line order. cut_none c.args.span.low c.args.span.high left right (lift side c.args.bottom c.args.top) over (level side.x side.dy left right (lift side c.args.bottom c.args.top) flat)
