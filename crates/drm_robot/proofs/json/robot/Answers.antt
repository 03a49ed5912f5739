-- The arm and the grid are made; what is left is whether the arm fits.
use Rattle.drm_robot.proofs.ReadingLemmas.{is_robot, no_fit}
use Rattle.drm_robot.proofs.json.robot.Goals as goal

pub returns : goal.returns
returns c = is_robot c.args.description.now c.as_slice.result.now c.in_ok-arm.arm c.in_ok-grid.grid c.as_slice.ensures c.in_ok-arm.ensures.fault c.in_ok-arm.ensures.made c.in_ok-grid.ensures.fault c.in_ok-grid.ensures.layout (c.fits.ensures.0 c.if-not-fits.false)

pub returns-then-not-fits : goal.returns-then-not-fits
returns-then-not-fits c = no_fit c.args.description.now c.as_slice.result.now c.in_ok-arm.arm c.in_ok-grid.grid c.as_slice.ensures c.in_ok-arm.ensures.fault c.in_ok-arm.ensures.made c.in_ok-grid.ensures.fault c.in_ok-grid.ensures.layout (λ within. let yes = c.fits.ensures.1 within in let no = c.if-not-fits.true in cc)
