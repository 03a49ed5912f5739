-- By the laws of reached points, of swept cells, of footprints, of stored sweeps and of certificates.
use Rattle.drm_plan.proofs.AnswerLemmas.{right_is_truthful}
use Rattle.drm_plan.proofs.laws.right_answers_are_truthful.Goals as goal

pub returns : goal.returns
returns c = right_is_truthful c.reached_points_are_in_cells.ensures c.near_cells_are_swept.ensures c.swept_cells_are_near.ensures c.holds_are_in_foot.ensures c.open_elements_are_clear.ensures.edges c.paths_are_shortest.ensures
