use Rattle.std.proofs.Common.{◌≡◌, ◌-◌, pos, take, ◌++◌, replicate}
use Rattle.drm_road.proofs.met.key.Given as goal

abbrev pub invariant-loop-j : goal.invariant-loop-j
invariant-loop-j l = l.key ≡ take l.j l.config ++ replicate (6 - l.j) (pos 0)
