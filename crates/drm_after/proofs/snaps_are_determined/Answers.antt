-- The law is the lemma.
use Rattle.drm_after.proofs.SnapLemmas.{snap_is_one}
use Rattle.drm_after.proofs.snaps_are_determined.Goals as goal

pub returns : goal.returns
returns c = snap_is_one
