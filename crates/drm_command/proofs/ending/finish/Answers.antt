-- The text that was handed to the sink is that of the refusal.
use Rattle.std.proofs.Common.{◌≡◌, ◌∙◌, ap, Err}
use Rattle.drm_command.specs.Ending.{Outcome}
use Rattle.drm_command.specs.declared.stop.Stop.{Stop}
use Rattle.drm_command.specs.declared.stop.Stop.TheVariants.{Refused}
use Rattle.drm_command.proofs.EndingLemmas.{ends_refused}
use Rattle.drm_command.proofs.ending.finish.Goals as goal

abbrev stops : Stop → Outcome
stops stop = Err stop

pub returns-in-Err-Refused-clause-ended : goal.returns-in-Err-Refused-clause-ended
returns-in-Err-Refused-clause-ended g c =
    let refused = rw c.in-Err-Refused.is at c.in-Err-Refused.field-0-is in
    let is : c.args.outcome ≡ Err (Refused c.in-Err-Refused.refusal) = c.in-Err-Refused.is ∙ ap stops refused in
    rw is (ends_refused c.in-Err-Refused.refusal _ _ _ c.refuse.ensures.ended)
