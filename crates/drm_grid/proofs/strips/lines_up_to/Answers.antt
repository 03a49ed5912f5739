-- A line is not beyond the coordinate where its place, counted from the middle, is at most the quotient.
use Rattle.std.proofs.Common.{◌≡◌, ◌+◌, ◌<◌, pos, arith, FitsSigned, w32, rules}
use Rattle.std.proofs.lemmas.Int.{to_z-of_z, ints}
use Rattle.drm_num.specs.Quotient.{floor}
use Rattle.drm_num.proofs.Rounding.{IsFloor-floor}
use Rattle.drm_grid.proofs.StripLemmas.{line_up_to}
use Rattle.drm_grid.proofs.strips.lines_up_to.Goals as goal

pub returns-clause-exact : goal.returns-clause-exact
returns-clause-exact c = λ k h.
    let side = c.args.grid.now.side in
    let within : k < c.n-n.result + 1 = omega arith in
    let some : 0 < side = omega (arith, c.n-n.ensures.limits.side.least) in
    let fits = c.ranges.coordinate in
    let fits_quotient : FitsSigned w32 c.floor_by_side.result = search rules in
    let quotient : c.floor_by_side.result ≡ floor c.args.coordinate (pos side) = simp to_z-of_z at c.floor_by_side.ensures.value in
    let rounded = IsFloor-floor c.args.coordinate (pos side) (omega (arith, ints)) in
    let counted = simp to_z-of_z at (c.limited.ensures.exact k within) in
    let line = line_up_to c.args.grid.now k c.n-n.result (floor c.args.coordinate (pos side)) c.args.coordinate c.n-n.ensures.exact some rounded.at_most rounded.next_is_above in
    (λ below. line.0 (rw (← quotient) (counted.0 below)), λ le. counted.1 (rw quotient (line.1 le)))
