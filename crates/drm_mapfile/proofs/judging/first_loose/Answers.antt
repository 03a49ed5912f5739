-- The element's motion, and what it leaves of the stored cells.
use Rattle.std.proofs.Common.{ℕ, ◌/◌, ◌∙◌, ap}
use Rattle.drm_grid.specs.Layout.{Layout}
use Rattle.drm_mapfile.proofs.JudgingLemmas.{AreParts, parts_move, loose_call}
use Rattle.drm_mapfile.proofs.judging.first_loose.Goals as goal

pub take_swept-requires-clause-motion : goal.take_swept-requires-clause-motion
take_swept-requires-clause-motion c =
    let parts : AreParts c.args.map.now c.args.e c.arm.result.now c.grid-2.result.now c.road.result.now c.motion-motion.result = record { arm_is = c.arm.ensures.exact; grid_is = c.grid-2.ensures.exact; road_is = c.road.ensures.exact; motion_is = c.motion-motion.ensures } in
    parts_move c.args.map.now c.args.e c.arm.result.now c.grid-2.result.now c.road.result.now c.motion-motion.result parts c.arm.ensures.limits c.requires.element

pub returns : goal.returns
returns c =
    let parts : AreParts c.args.map.now c.args.e c.arm.result.now c.grid-2.result.now c.road.result.now c.motion-motion.result = record { arm_is = c.arm.ensures.exact; grid_is = c.grid-2.ensures.exact; road_is = c.road.ensures.exact; motion_is = c.motion-motion.ensures } in
    let padded = ap (λ (s : ℕ). s / 2) (c.side-pad.ensures.exact ∙ ap (λ (g : Layout). g.side) c.grid.ensures.exact) in
    loose_call c.args.map.now c.args.e c.arm.result.now c.grid-2.result.now c.road.result.now c.motion-motion.result c.args.stored c.take_swept.new.cells _ c.size.result c.next_in.result parts c.requires.exact padded c.size.ensures.exact c.take_swept.ensures c.next_in.ensures
