-- Passes at the same places have the same callers.
use Rattle.drm_share.proofs.ClosingLemmas.{same_callers}
use Rattle.drm_share.proofs.laws.passes_stay_one_each.Goals as goal

pub returns : goal.returns
returns c = same_callers
