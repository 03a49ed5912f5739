use Rattle.std.proofs.Common.{◌≤◌, length}
use Rattle.drm_outside.proofs.file_shelf.read_file.Given as goal

-- no more was read than may be
abbrev pub invariant-loop : goal.invariant-loop
invariant-loop g l = length l.bytes.items ≤ l.limit
