-- The cells of the footprint are those that the shape occupies.
use Rattle.std.proofs.Common.{arith}
use Rattle.drm_foot.proofs.OccupiedLemmas.{footprint_on_grid, footprint_marked}
use Rattle.drm_foot.proofs.occupied.mark_slot.Goals as goal

pub mark-requires : goal.mark-requires
mark-requires c k d below =
    let on_grid = footprint_on_grid c.args.grid.now c.in-Some.shape _ c.cells.result.now c.cells.ensures.exact c.in_ok-footprint.ensures.cells k d below in
    omega (arith, on_grid, c.requires.size)

pub returns-in_ok-footprint-clause-exact : goal.returns-in_ok-footprint-clause-exact
returns-in_ok-footprint-clause-exact c =
    footprint_marked c.args.grid.now c.in-Some.shape _ c.cells.result.now c.args.slot.now c.args.set.now c.mark.new.set
    c.cells.ensures.exact c.in-Some.is c.in_ok-footprint.ensures.cells c.mark.ensures.exact
