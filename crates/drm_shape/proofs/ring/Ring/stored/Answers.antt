use Rattle.drm_shape.proofs.StoreLemmas.{stored}
use Rattle.drm_shape.proofs.ring.Ring.stored.Goals as goal

pub invariant_of-result : goal.invariant_of-result
invariant_of-result c = stored c.args.xy.now c.copy_from_slice.new.self c.copy_from_slice.ensures.after c.requires
