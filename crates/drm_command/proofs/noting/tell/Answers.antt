-- The sink has its note.
use Rattle.std.proofs.Common.{inl}
use Rattle.drm_command.proofs.noting.tell.Goals as goal

pub returns-in-Sink-clause-told : goal.returns-in-Sink-clause-told
returns-in-Sink-clause-told g c = rw c.in-Sink.is (inl c.put.ensures)
