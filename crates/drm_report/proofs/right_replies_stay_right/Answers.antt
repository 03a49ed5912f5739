-- What is true of a front stays true.
use Rattle.drm_report.proofs.ReplyLemmas.{reply_stays}
use Rattle.drm_report.proofs.right_replies_stay_right.Goals as goal

pub returns : goal.returns
returns c = reply_stays
