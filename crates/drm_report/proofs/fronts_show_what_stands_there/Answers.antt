-- The last entry of a front is the entry of its length.
use Rattle.drm_report.proofs.NumberedLemmas.{fronts_end}
use Rattle.drm_report.proofs.fronts_show_what_stands_there.Goals as goal

pub returns-clause-edits : goal.returns-clause-edits
returns-clause-edits c = fronts_end
