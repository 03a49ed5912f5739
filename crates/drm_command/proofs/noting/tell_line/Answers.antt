-- The number is that of the line.
use Rattle.drm_command.proofs.noting.tell_line.Goals as goal

pub returns : goal.returns
returns g c = rw (← c.from.ensures) c.put.ensures
