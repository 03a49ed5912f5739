-- A strip is in both ranges where it reaches down to the one number and up to the other.
use Rattle.std.proofs.Common.{FitsSigned, w32, to_z-of_z}
use Rattle.drm_foot.proofs.FootLemmas.{columns_both}
use Rattle.drm_foot.proofs.ring.columns_of_both.Goals as goal

pub returns-clause-exact : goal.returns-clause-exact
returns-clause-exact c =
    let low_fits : FitsSigned w32 c.args.low = c.ranges.low in
    let high_fits : FitsSigned w32 c.args.high = c.ranges.high in
    let from = simp to_z-of_z at c.strips_met-from.ensures.exact in
    let up_to = simp to_z-of_z at c.strips_met-up_to.ensures.exact in
    λ k below. columns_both c.args.grid.now c.args.low c.args.high c.strips_met-from.result c.strips_met-up_to.result
    c.max-start.result c.min-end.result c.max.result k c.requires.limits below (from k below) (up_to k below) c.max-start.ensures c.min-end.ensures c.max.ensures
