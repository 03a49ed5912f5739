-- The motion of an element is one of the robot's arm.
use Rattle.drm_build.proofs.BuiltLemmas.{motion_is}
use Rattle.drm_build.proofs.sets.swept.Goals as goal

pub sweep-requires-clause-motion : goal.sweep-requires-clause-motion
sweep-requires-clause-motion c = rw c.motion-motion.ensures (motion_is c.args.robot.now.arm c.args.road.now c.element.result c.element.ensures.limits c.requires.nodes c.element.ensures.part)
