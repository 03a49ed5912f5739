-- After the last link all have been asked.
use Rattle.std.proofs.Common.{◌<◌, refl, arith}
use Rattle.drm_grid.proofs.grid.Grid.fits.Goals as goal

pub returns : goal.returns
returns c = (
  (λ yes k d below. let last : k < c.loop-k.k = omega arith in let fits = c.loop-k.invariant k d last in rw (← c.side.ensures.exact, ← c.n.ensures.exact) fits),
  (λ fits. refl),
)
