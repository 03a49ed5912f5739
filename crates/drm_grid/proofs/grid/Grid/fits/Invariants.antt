-- The links before the current one stay within the grid.
use Rattle.std.proofs.Common.{ℕ, ◌+◌, ◌<◌, ◌≤◌, get_or}
use Rattle.drm_arm.specs.Arm.{reach_of}
use Rattle.drm_arm.specs.declared.arm.Link.{Link}
use Rattle.drm_grid.proofs.grid.Grid.fits.Given as goal

abbrev pub invariant-loop-k : goal.invariant-loop-k
invariant-loop-k l = (j : ℕ) (d : Link) → j < l.k → reach_of l.arm + (get_or l.arm j d).radius ≤ l.half
