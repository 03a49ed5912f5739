-- Each stop has its note.
use Rattle.std.proofs.Common.{inl}
use Rattle.drm_command.proofs.noting.tell_stop.Goals as goal

pub returns-in-Load : goal.returns-in-Load
returns-in-Load g c = rw (c.in-Load.is, ← c.name_at-name.ensures) (inl c.put.ensures)

pub returns-in-Save : goal.returns-in-Save
returns-in-Save g c = rw (c.in-Save.is, ← c.name_at-name-in-Save.ensures) (inl c.put-in-Save.ensures)

pub returns-in-Source : goal.returns-in-Source
returns-in-Source g c = rw c.in-Source.is (inl c.put-in-Source.ensures)

pub returns-in-Memory : goal.returns-in-Memory
returns-in-Memory g c = rw c.in-Memory.is (inl c.put-in-Memory.ensures)
