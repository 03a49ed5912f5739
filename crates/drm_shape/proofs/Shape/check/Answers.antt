use Rattle.drm_shape.proofs.ShapeLemmas.{valid_or_not}
use Rattle.drm_shape.proofs.Shape.check.Goals as goal

pub returns-in-None-clause-valid : goal.returns-in-None-clause-valid
returns-in-None-clause-valid c = valid_or_not c.args.self.now c.turn_fault.ensures.corners
