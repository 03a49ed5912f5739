-- The parts so far were taken, and the count of faults has not fallen.
use Rattle.std.proofs.Common.{◌≤◌, take}
use Rattle.std.specs.Prelude.{flat_map}
use Rattle.std.specs.Io.KnownBytes.{Appends}
use Rattle.drm_command.specs.Note.{part_text}
use Rattle.drm_command.proofs.noting.put.Given as goal

abbrev pub invariant-loop-i : goal.invariant-loop-i
invariant-loop-i g l = record {
  taken : Appends (g.N.Notes.taken l.initial.notes) (g.N.Notes.taken l.notes) (flat_map part_text (take l.i l.parts));
  later : g.N.Notes.faults l.initial.notes ≤ g.N.Notes.faults l.notes;
}
