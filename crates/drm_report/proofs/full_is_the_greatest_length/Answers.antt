-- A front that is full leaves no room behind it.
use Rattle.drm_report.proofs.NumberedLemmas.{full_is_greatest}
use Rattle.drm_report.proofs.full_is_the_greatest_length.Goals as goal

pub returns : goal.returns
returns c = full_is_greatest
