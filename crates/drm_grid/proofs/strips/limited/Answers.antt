-- The sum is held between 0 and the count.
use Rattle.std.proofs.Common.{arith}
use Rattle.std.proofs.lemmas.Int.{ints, clamps}
use Rattle.drm_grid.proofs.strips.limited.Goals as goal

pub returns-clause-exact : goal.returns-clause-exact
returns-clause-exact c = λ k h. (λ lt. omega (arith, ints, clamps), λ le. omega (arith, ints, clamps))
