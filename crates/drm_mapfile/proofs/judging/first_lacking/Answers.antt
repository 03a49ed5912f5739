-- The element's motion, and what it meets of the missing cells.
use Rattle.std.proofs.Common.{◌∙◌, ap}
use Rattle.drm_grid.specs.Layout.{cell_count}
use Rattle.drm_mapfile.proofs.JudgingLemmas.{AreParts, parts_move, lacking_call}
use Rattle.drm_mapfile.proofs.judging.first_lacking.Goals as goal

pub first_meeting-requires-clause-motion : goal.first_meeting-requires-clause-motion
first_meeting-requires-clause-motion c =
    let parts : AreParts c.args.map.now c.args.e c.arm.result.now c.grid-2.result.now c.road.result.now c.motion-motion.result = record { arm_is = c.arm.ensures.exact; grid_is = c.grid-2.ensures.exact; road_is = c.road.ensures.exact; motion_is = c.motion-motion.ensures } in
    parts_move c.args.map.now c.args.e c.arm.result.now c.grid-2.result.now c.road.result.now c.motion-motion.result parts c.arm.ensures.limits c.requires.element

pub returns : goal.returns
returns c =
    let parts : AreParts c.args.map.now c.args.e c.arm.result.now c.grid-2.result.now c.road.result.now c.motion-motion.result = record { arm_is = c.arm.ensures.exact; grid_is = c.grid-2.ensures.exact; road_is = c.road.ensures.exact; motion_is = c.motion-motion.ensures } in
    lacking_call c.args.map.now c.args.e c.arm.result.now c.grid-2.result.now c.road.result.now c.motion-motion.result c.args.stored.now c.in_ok-missing.missing c.remove_all.new.self c.cells.result c.first_meeting.result parts c.requires.exact (c.cells.ensures.exact ∙ ap cell_count c.grid.ensures.exact) c.in_ok-missing.ensures c.remove_all.ensures.exact c.first_meeting.ensures
