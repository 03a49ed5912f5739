-- A disc's bounds are its centre's coordinates, less and more the radius.
use Rattle.std.proofs.Common.{FitsSigned, w32, to_z, to_z-of_z, ◌≡◌, subst, refl, arith}
use Rattle.std.specs.Prelude.{pos, ◌+ℤ◌, ◌-ℤ◌}
use Rattle.std.proofs.lemmas.Int.{ints, to_z_pos}
use Rattle.drm_shape.specs.Validity.{IsValid}
use Rattle.drm_foot.proofs.bounds.Bounds.of.Goals as goal

pub returns-in-Disc : goal.returns-in-Disc
returns-in-Disc c =
    let valid = subst IsValid c.in-Disc.is c.requires in
    let x_low = valid.in_range.0.above in
    let x_high = valid.in_range.0.below in
    let y_low = valid.in_range.1.above in
    let y_high = valid.in_range.1.below in
    let radius = valid.radius in
    let r_is : to_z w32 c.in-Disc.r ≡ pos c.in-Disc.r = to_z_pos w32 c.in-Disc.r (omega arith) in
    let x_fits : FitsSigned w32 c.in-Disc.x = omega (arith, ints) in
    let y_fits : FitsSigned w32 c.in-Disc.y = omega (arith, ints) in
    let x0 : FitsSigned w32 (c.in-Disc.x -ℤ pos c.in-Disc.r) = omega (arith, ints) in
    let y0 : FitsSigned w32 (c.in-Disc.y -ℤ pos c.in-Disc.r) = omega (arith, ints) in
    let x1 : FitsSigned w32 (c.in-Disc.x +ℤ pos c.in-Disc.r) = omega (arith, ints) in
    let y1 : FitsSigned w32 (c.in-Disc.y +ℤ pos c.in-Disc.r) = omega (arith, ints) in
    rw (c.in-Disc.is, r_is, to_z-of_z x_fits, to_z-of_z y_fits, to_z-of_z x0, to_z-of_z y0, to_z-of_z x1, to_z-of_z y1) refl
