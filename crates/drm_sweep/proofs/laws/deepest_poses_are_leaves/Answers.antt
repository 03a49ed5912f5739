-- A side is at least 128 units.
use Rattle.drm_sweep.proofs.laws.deepest_poses_are_leaves.Goals as goal

pub returns : goal.returns
returns c = λ grid links motion index scene. c.deep_poses_are_leaves.ensures links motion index grid.side scene.is_arm scene.is_motion scene.is_grid.side.least
