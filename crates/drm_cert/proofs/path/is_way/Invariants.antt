-- What is left of the nodes is a way of what is left of the length exactly where all is a way.
use Rattle.std.proofs.Common.{◌↔◌, drop}
use Rattle.drm_cellmap.specs.Routes.{IsWay}
use Rattle.drm_cert.proofs.path.is_way.Given as goal

abbrev pub invariant-loop-next : goal.invariant-loop-next
invariant-loop-next l =
    IsWay l.road l.snap l.from l.rest l.to l.length ↔ IsWay l.road l.snap l.at (drop l.next-index l.rest) l.to l.left
