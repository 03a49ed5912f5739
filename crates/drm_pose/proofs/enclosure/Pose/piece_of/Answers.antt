-- A run of one piece is the piece.
use Rattle.std.proofs.Common.{◌∙◌}
use Rattle.drm_pose.proofs.PieceLemmas.{run_of_one}
use Rattle.drm_pose.proofs.enclosure.Pose.piece_of.Goals as goal

pub returns-clause-value : goal.returns-clause-value
returns-clause-value c box is_box = c.pieces.ensures.value box is_box ∙ run_of_one box c.args.p c.args.cut.now
