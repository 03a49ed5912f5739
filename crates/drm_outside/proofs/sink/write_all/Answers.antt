use Rattle.std.proofs.Common.{arith}
use Rattle.std.proofs.lemmas.List.{take_rest}
use Rattle.drm_outside.proofs.KnownLemmas.{Appends-take_more}
use Rattle.drm_outside.proofs.sink.write_all.Goals as goal

pub loop-done-preserved : goal.loop-done-preserved
loop-done-preserved g c = record {
  within = omega (arith, c.in_ok-done.ensures.bound);
  appended = Appends-take_more _ _ _ _ _ _ c.loop-done.invariant.appended (simp take_rest at c.in_ok-done.ensures.bytes);
  later = omega (arith, c.in_ok-done.ensures.cause.later);
}
