-- The fall and the lift are what is compared.
use Rattle.std.proofs.Common.{FitsSigned, w64, to_z-of_z, ◌≡◌, sym}
use Rattle.drm_num.proofs.Integers.{along}
use Rattle.drm_foot.specs.Sides.{lift, fall}
use Rattle.drm_foot.proofs.SideLemmas.{fits_corner, fits_way, fits_product, difference_fits, le_from_test, test_from_le}
use Rattle.drm_foot.proofs.side.Side.reaches.Goals as goal

pub returns : goal.returns
returns c =
    let side = c.args.self in
    let x_fits = fits_corner c.args.self.x c.requires.small.x in
    let y_fits = fits_corner c.args.self.y c.requires.small.y in
    let dx_fits = fits_way c.args.self.dx c.requires.small.dx in
    let dy_fits = fits_way c.args.self.dy c.requires.small.dy in
    let left_fits : FitsSigned w64 c.args.left = c.ranges.left in
    let right_fits : FitsSigned w64 c.args.right = c.ranges.right in
    let bottom_fits : FitsSigned w64 c.args.bottom = c.ranges.bottom in
    let top_fits : FitsSigned w64 c.args.top = c.ranges.top in
    let left_way = difference_fits c.args.self.x c.args.left c.requires.small.x c.requires.left in
    let right_way = difference_fits c.args.self.x c.args.right c.requires.small.x c.requires.right in
    let low_way = difference_fits c.args.self.y c.args.bottom c.requires.small.y c.requires.bottom in
    let high_way = difference_fits c.args.self.y c.args.top c.requires.small.y c.requires.top in
    let up_fits = fits_product c.greater-up.result c.greater-up.ensures.small in
    let down_fits = fits_product c.lesser.result c.lesser.ensures.small in
    let up_is : c.greater-up.result ≡ lift side c.args.bottom c.args.top = simp to_z-of_z at c.greater-up.ensures.value in
    let down_is : c.lesser.result ≡ fall side c.args.left c.args.right = simp to_z-of_z at c.lesser.ensures.value in
    rw (to_z-of_z up_fits, to_z-of_z down_fits) (
      λ yes. along down_is up_is (le_from_test c.lesser.result c.greater-up.result yes),
      λ order. test_from_le c.lesser.result c.greater-up.result (along (sym down_is) (sym up_is) order),
    )
