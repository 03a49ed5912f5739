-- Some cells are taken ahead, and then the rest.
use Rattle.drm_sweep.specs.Swept.{IsSwept}
use Rattle.drm_sweep.proofs.AheadLemmas.{some_then_all}
use Rattle.drm_sweep.proofs.swept.take_swept.Goals as goal

pub returns : goal.returns
returns c = some_then_all (IsSwept c.args.grid.now c.args.arm.now c.args.motion.now c.args.pad) c.args.cells.now c.take_ahead.new.cells c.take_in_turn.new.cells c.take_ahead.ensures c.take_in_turn.ensures
