-- Each coordinate of a corner is one of the ring's.
use Rattle.std.proofs.Common.{arith, FitsSigned, w32, to_z-of_z}
use Rattle.drm_shape.proofs.TestLemmas.{corner_up}
use Rattle.drm_shape.proofs.ring.Ring.turn.Goals as goal

pub step-requires-4-clause-to : goal.step-requires-4-clause-to
step-requires-4-clause-to c =
    let fits : FitsSigned w32 c.y-4.result = record { sfits = c.y-4.type_inv } in
    rw (to_z-of_z fits, c.y-4.ensures) (corner_up c.args.self.now c.args.k c.requires.range c.requires.third)
