-- The grid is made, and the arm fits.
use Rattle.drm_mapfile.proofs.GridLaws.{grid_made}
use Rattle.drm_mapfile.proofs.grid.take_grid.Goals as goal

pub returns : goal.returns
returns c = grid_made c.args.total c.args.arm.now c.args.bytes.now c.in_ok-side.at_rows.now c.in_ok-n.rest.now c.in_ok-side.side c.in_ok-n.n c.from-side.result c.from.result c.in-Ok.grid c.from-side.ensures c.from.ensures c.in_ok-side.ensures c.if-side-lt-MIN_SIDE.false c.if-side-gt-MAX_SIDE.false c.if-side-ne0.false c.in_ok-n.ensures c.in-Ok.ensures.fault c.in-Ok.ensures.layout (c.fits.ensures.0 c.if-not-fits.false)
