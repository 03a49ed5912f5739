-- The law is the lemma.
use Rattle.drm_sweep.proofs.LawLemmas.{swept_reversed}
use Rattle.drm_sweep.proofs.laws.reversed_motions_sweep_the_same.Goals as goal

pub returns : goal.returns
returns c = swept_reversed c.reversed_poses.ensures
