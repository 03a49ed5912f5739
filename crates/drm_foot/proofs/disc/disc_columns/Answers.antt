-- The columns that the disc's half width at the row's nearest height reaches.
use Rattle.std.proofs.Common.{FitsSigned, w32, to_z, to_z-of_z, ◌≡◌, arith}
use Rattle.std.specs.Prelude.{pos, ◌+ℤ◌, ◌-ℤ◌}
use Rattle.std.proofs.lemmas.Int.{ints, to_z_pos}
use Rattle.drm_foot.proofs.DiscLemmas.{gap_in_row}
use Rattle.drm_foot.proofs.FootLemmas.{disc_columns}
use Rattle.drm_foot.proofs.disc.disc_columns.Goals as goal

pub half_width-half-requires-clause-within : goal.half_width-half-requires-clause-within
half_width-half-requires-clause-within c =
    let y_fits : FitsSigned w32 c.args.y = c.ranges.y in
    let first : FitsSigned w32 c.line.result = record { sfits = c.line.type_inv } in
    let second : FitsSigned w32 c.line-2.result = record { sfits = c.line-2.type_inv } in
    let value = rw (c.line.ensures.exact, c.line-2.ensures.exact) at (simp to_z-of_z at c.gap-up.ensures.value) in
    let small = gap_in_row c.args.grid.now c.args.y c.args.r c.args.row c.requires.met in
    omega (arith, ints, value, small)

pub strips_met-requires-clause-low : goal.strips_met-requires-clause-low
strips_met-requires-clause-low c =
    let low = c.requires.valid.in_range.0.above in
    let high = c.requires.valid.in_range.0.below in
    let most = c.half_width-half.ensures.most in
    let x_fits : FitsSigned w32 c.args.x = c.ranges.x in
    let half_is : to_z w32 c.half_width-half.result ≡ pos c.half_width-half.result = to_z_pos w32 c.half_width-half.result (omega arith) in
    let fits : FitsSigned w32 (c.args.x -ℤ pos c.half_width-half.result) = omega (arith, ints) in
    rw (half_is, to_z-of_z x_fits, to_z-of_z fits) (record { low = omega (arith, ints); high = omega (arith, ints) })

pub strips_met-requires-clause-high : goal.strips_met-requires-clause-high
strips_met-requires-clause-high c =
    let low = c.requires.valid.in_range.0.above in
    let high = c.requires.valid.in_range.0.below in
    let most = c.half_width-half.ensures.most in
    let x_fits : FitsSigned w32 c.args.x = c.ranges.x in
    let half_is : to_z w32 c.half_width-half.result ≡ pos c.half_width-half.result = to_z_pos w32 c.half_width-half.result (omega arith) in
    let fits : FitsSigned w32 (c.args.x +ℤ pos c.half_width-half.result) = omega (arith, ints) in
    rw (half_is, to_z-of_z x_fits, to_z-of_z fits) (record { low = omega (arith, ints); high = omega (arith, ints) })

pub strips_met-requires-clause-ordered : goal.strips_met-requires-clause-ordered
strips_met-requires-clause-ordered c =
    let low = c.requires.valid.in_range.0.above in
    let high = c.requires.valid.in_range.0.below in
    let most = c.half_width-half.ensures.most in
    let x_fits : FitsSigned w32 c.args.x = c.ranges.x in
    let half_is : to_z w32 c.half_width-half.result ≡ pos c.half_width-half.result = to_z_pos w32 c.half_width-half.result (omega arith) in
    let left_fits : FitsSigned w32 (c.args.x -ℤ pos c.half_width-half.result) = omega (arith, ints) in
    let right_fits : FitsSigned w32 (c.args.x +ℤ pos c.half_width-half.result) = omega (arith, ints) in
    rw (half_is, to_z-of_z x_fits, to_z-of_z left_fits, to_z-of_z right_fits) (omega (arith, ints))

pub returns : goal.returns
returns c =
    let low = c.requires.valid.in_range.0.above in
    let high = c.requires.valid.in_range.0.below in
    let most = c.half_width-half.ensures.most in
    let x_fits : FitsSigned w32 c.args.x = c.ranges.x in
    let y_fits : FitsSigned w32 c.args.y = c.ranges.y in
    let first : FitsSigned w32 c.line.result = record { sfits = c.line.type_inv } in
    let second : FitsSigned w32 c.line-2.result = record { sfits = c.line-2.type_inv } in
    let half_is : to_z w32 c.half_width-half.result ≡ pos c.half_width-half.result = to_z_pos w32 c.half_width-half.result (omega arith) in
    let left_fits : FitsSigned w32 (c.args.x -ℤ pos c.half_width-half.result) = omega (arith, ints) in
    let right_fits : FitsSigned w32 (c.args.x +ℤ pos c.half_width-half.result) = omega (arith, ints) in
    let value = rw (c.line.ensures.exact, c.line-2.ensures.exact) at (simp to_z-of_z at c.gap-up.ensures.value) in
    let across = simp to_z-of_z at (rw half_is at c.strips_met.ensures.exact) in
    disc_columns c.args.grid.now c.args.x c.args.y c.args.r c.gap-up.result c.half_width-half.result c.args.row c.strips_met.result
    c.requires.on_grid value c.half_width-half.ensures.within c.half_width-half.ensures.greatest c.strips_met.ensures.within across
