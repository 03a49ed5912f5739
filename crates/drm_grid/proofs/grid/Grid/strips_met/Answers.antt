-- The interval reaches a strip whose first line is not beyond its end, and whose next line is not before its start.
use Rattle.std.proofs.Common.{pos, ◌-ℤ◌, ◌+◌, ◌≤◌, arith, FitsSigned, w32}
use Rattle.std.proofs.lemmas.Int.{to_z-of_z, ints}
use Rattle.drm_grid.proofs.StripLemmas.{reached_strip, reached_in_order}
use Rattle.drm_grid.proofs.grid.Grid.strips_met.Goals as goal

pub returns-clause-exact : goal.returns-clause-exact
returns-clause-exact c = λ k h.
    let next : k + 1 ≤ c.args.self.now.n = omega arith in
    let this : k ≤ c.args.self.now.n = omega arith in
    let low = c.ranges.low in
    let high = c.ranges.high in
    let before : FitsSigned w32 (c.args.low -ℤ pos 1) = omega (arith, ints) in
    let start = simp to_z-of_z at (c.lines_up_to.ensures.exact (k + 1) next) in
    let end = simp to_z-of_z at (c.lines_up_to-2.ensures.exact k this) in
    let strip = reached_strip c.args.self.now c.args.low c.args.high k c.lines_up_to.result c.lines_up_to-2.result start end h in
    rw (c.saturating_sub-start.ensures, c.min-end.ensures, c.n.ensures.exact) strip

pub returns-clause-within : goal.returns-clause-within
returns-clause-within c =
    let low = c.ranges.low in
    let high = c.ranges.high in
    let before : FitsSigned w32 (c.args.low -ℤ pos 1) = omega (arith, ints) in
    let start = simp to_z-of_z at c.lines_up_to.ensures.exact in
    let end = simp to_z-of_z at c.lines_up_to-2.ensures.exact in
    let ordered = reached_in_order c.args.self.now c.args.low c.args.high c.lines_up_to.result c.lines_up_to-2.result c.requires.ordered c.lines_up_to.ensures.within start end in
    record { ordered = rw (c.saturating_sub-start.ensures, c.min-end.ensures, c.n.ensures.exact) ordered; within = omega arith }
