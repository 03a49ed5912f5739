-- The old replies stay right, and the new one names the length now.
use Rattle.drm_report.proofs.WorkerLemmas.{worker_goes_on}
use Rattle.drm_report.proofs.right_replies_go_on.Goals as goal

pub returns : goal.returns
returns c = worker_goes_on
