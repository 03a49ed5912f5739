-- A leaf gives the cell, and its pieces are narrow.
use Rattle.drm_sweep.proofs.LawLemmas.{swept_given_by, leaf_near}
use Rattle.drm_sweep.proofs.laws.swept_cells_are_near.Goals as goal

pub returns : goal.returns
returns c = λ grid links motion pad cell scene swept.
    let (in_grid, (depth, index, given)) = swept_given_by grid links motion pad cell
    (λ i. c.deep_poses_are_leaves.ensures links motion i grid.side scene.is_arm scene.is_motion scene.is_grid.side.least) swept in
    leaf_near c.piece_has_its_start.ensures c.part_has_its_start.ensures c.parts_hold_the_axis.ensures c.parts_of_leaves_are_narrow.ensures c.cell_near_has_points_near.ensures
    grid links motion pad cell depth index scene.is_grid scene.is_arm scene.is_motion (λ k link is_link. (c.links_are_within_limits.ensures links k link scene.is_arm is_link).some) in_grid given
