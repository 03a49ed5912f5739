-- Each gap alone is at most the distance.
use Rattle.std.proofs.Common.{pos, ◌*ℤ◌, ◌≤ℤ◌, arith}
use Rattle.std.proofs.lemmas.Int.{ints}
use Rattle.drm_num.specs.Interval.{unit}
use Rattle.drm_num.proofs.Integers.{product_not_negative}
use Rattle.drm_grid.specs.Near.{gap_across, gap_up}
use Rattle.drm_grid.proofs.NearLemmas.{gap_below, gap_below_second}
use Rattle.drm_grid.proofs.laws.near_cells_are_in_near_strips.Goals as goal

pub returns : goal.returns
returns c = λ grid across up cell far near.
    let some : pos 0 ≤ℤ pos far = omega (arith, ints) in
    let unit_up : pos 0 ≤ℤ unit = omega (arith, ints) in
    let far_up : pos 0 ≤ℤ (pos far *ℤ unit) = product_not_negative some unit_up in
    (gap_below (gap_across grid across cell) (gap_up grid up cell) (pos far *ℤ unit) far_up near.near, gap_below_second (gap_across grid across cell) (gap_up grid up cell) (pos far *ℤ unit) far_up near.near)
