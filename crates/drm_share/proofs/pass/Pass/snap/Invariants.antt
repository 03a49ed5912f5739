-- The front has only gone on.
use Rattle.drm_share.specs.Seen.{ReadsOn}
use Rattle.drm_share.proofs.pass.Pass.snap.Given as goal

abbrev pub invariant-loop : goal.invariant-loop
invariant-loop g l = ReadsOn l.initial.self l.self
