-- The moment is one of a leaf, and the point of the axis is in a piece of its link.
use Rattle.std.proofs.Common.{arith}
use Rattle.drm_sweep.proofs.LawLemmas.{near_pose, near_swept}
use Rattle.drm_sweep.proofs.laws.near_cells_are_swept.Goals as goal

pub returns : goal.returns
returns c = λ grid links motion pad cell scene near.
    let least = scene.is_grid.side.least in
    near_swept c.halves_cover.ensures c.whole_has_each_moment.ensures grid links motion pad cell near.moment
    (λ depth index shallow in_piece. near_pose c.parts_cover.ensures c.each_link_has_boxes.ensures c.parts_hold_the_axis.ensures c.points_near_make_cell_near.ensures grid links motion pad cell depth index near.moment near.point
    scene.is_motion shallow in_piece (omega arith) (λ k link is_link. (c.links_are_within_limits.ensures links k link scene.is_arm is_link).some) near.reached near.inside)
    (c.whole_has_each_moment.ensures near.moment near.reached.moment) near.in_grid
