use Rattle.std.proofs.Common.{pos}
use Rattle.drm_arm.proofs.StoreLemmas.{stored}
use Rattle.drm_arm.proofs.config.Config.stored.Goals as goal

pub invariant_of-result : goal.invariant_of-result
invariant_of-result c = stored (pos 0) c.args.values.now c.copy_from_slice.new.self c.copy_from_slice.ensures.after c.requires
