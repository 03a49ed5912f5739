-- Nothing was told yet.
use Rattle.std.proofs.Common.{◌≡◌}
use Rattle.drm_share.proofs.opened.reader.Given as goal

abbrev pub invariant-loop : goal.invariant-loop
invariant-loop g l = l.writer ≡ l.initial.writer
