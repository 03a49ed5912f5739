-- The candidates are determined, and so is which of them is the first that is not refused.
use Rattle.drm_attach.proofs.OneLemmas.{attached_is_one}
use Rattle.drm_attach.proofs.laws.attachments_are_determined.Goals as goal

pub returns : goal.returns
returns c = attached_is_one
