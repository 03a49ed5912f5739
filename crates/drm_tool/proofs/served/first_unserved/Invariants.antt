-- The lines so far are served.
use Rattle.std.proofs.Common.{take}
use Rattle.std.specs.List.{All}
use Rattle.drm_tool.specs.Served.{IsServed}
use Rattle.drm_tool.proofs.served.first_unserved.Given as goal

abbrev pub invariant-loop-i : goal.invariant-loop-i
invariant-loop-i l = All IsServed (take l.i l.lines)
