-- The ends of an edge are configurations.
use Rattle.drm_plan.proofs.TouchLemmas.{edge_is_motion}
use Rattle.drm_plan.proofs.legs.edge_meeting.Goals as goal

pub first_meeting_with-requires-clause-motion : goal.first_meeting_with-requires-clause-motion
first_meeting_with-requires-clause-motion c =
    rw (c.arm.ensures.exact, c.motion-motion.ensures, c.road.ensures.exact) (edge_is_motion c.args.map.now c.arm.ensures.limits c.args.edge c.requires.edge)
