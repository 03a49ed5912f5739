-- A log of too many lines is none.
use Rattle.drm_script.proofs.LogLemmas.{too_long}
use Rattle.drm_script.proofs.log.read_good_lines.Goals as goal

pub returns-then-count-gt-LINE_LIMIT-clause-fault : goal.returns-then-count-gt-LINE_LIMIT-clause-fault
returns-then-count-gt-LINE_LIMIT-clause-fault c = too_long c.args.joints _ c.args.bytes.now c.count_lines-count.ensures c.if-count-gt-LINE_LIMIT.true
