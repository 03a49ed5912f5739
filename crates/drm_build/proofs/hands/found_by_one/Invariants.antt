-- What was found so far is right.
use Rattle.std.proofs.Common.{All}
use Rattle.drm_build.specs.Found.{IsFound}
use Rattle.drm_build.proofs.hands.found_by_one.Given as goal

abbrev pub invariant-loop : goal.invariant-loop
invariant-loop l = All (IsFound l.fn.robot l.fn.road) l.hand.items
