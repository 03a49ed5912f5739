-- Rising numbers, as many as there are edits, are all numbers in turn.
use Rattle.drm_report.proofs.OneCallerLemmas.{one_alone_is_right}
use Rattle.drm_report.proofs.one_caller_alone_is_right.Goals as goal

pub returns : goal.returns
returns c = one_alone_is_right
