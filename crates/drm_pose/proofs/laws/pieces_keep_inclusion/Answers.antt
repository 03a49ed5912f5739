use Rattle.drm_pose.proofs.InclusionLemmas.{pieces_inside, runs_inside}
use Rattle.drm_pose.proofs.laws.pieces_keep_inclusion.Goals as goal

pub returns-clause-pieces : goal.returns-clause-pieces
returns-clause-pieces c = pieces_inside

pub returns-clause-runs : goal.returns-clause-runs
returns-clause-runs c = runs_inside
