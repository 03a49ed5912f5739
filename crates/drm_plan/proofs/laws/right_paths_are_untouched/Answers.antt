-- A point that the arm reaches lies in a cell, which is swept, and which the footprint has.
use Rattle.drm_plan.proofs.AnswerLemmas.{right_is_untouched}
use Rattle.drm_plan.proofs.laws.right_paths_are_untouched.Goals as goal

pub returns : goal.returns
returns c = right_is_untouched c.reached_points_are_in_cells.ensures c.near_cells_are_swept.ensures c.holds_are_in_foot.ensures
