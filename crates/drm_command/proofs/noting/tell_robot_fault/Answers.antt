-- The reason is the fault's text; without memory for it, it is left out.
use Rattle.std.proofs.Common.{◌∙◌, inl, inr}
use Rattle.drm_command.proofs.noting.tell_robot_fault.Goals as goal

pub returns-in-Ok : goal.returns-in-Ok
returns-in-Ok g c = inl (rw (← (c.as_str.ensures.value ∙ c.in-Ok.ensures.ok)) c.tell_reason.ensures)

pub returns-in-Err : goal.returns-in-Err
returns-in-Err g c = inr c.put.ensures
