-- By caller they are right, no number is told twice, and there are as many as entries.
use Rattle.drm_report.proofs.GatherLemmas.{gathered_are_right}
use Rattle.drm_report.proofs.gathered_replies_are_right.Goals as goal

pub returns : goal.returns
returns c = gathered_are_right
