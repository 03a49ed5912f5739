-- Rising numbers, as many as there are edits, are all numbers in turn.
use Rattle.drm_report.proofs.OneCallerLemmas.{one_is_exact}
use Rattle.drm_report.proofs.one_caller_is_exact.Goals as goal

pub returns : goal.returns
returns c = one_is_exact
