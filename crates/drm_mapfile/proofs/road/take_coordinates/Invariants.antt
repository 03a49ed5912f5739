-- The coordinates so far, and those of the links that are left, are all of them.
use Rattle.std.proofs.Common.{◌≡◌, drop}
use Rattle.drm_mapfile.specs.Reading.{coordinates_at}
use Rattle.drm_mapfile.proofs.RoadLoops.{with_front}
use Rattle.drm_mapfile.proofs.road.take_coordinates.Given as goal

abbrev pub invariant-loop-j : goal.invariant-loop-j
invariant-loop-j l = with_front l.values.items (coordinates_at l.total (drop l.j l.arm) l.rest) ≡ coordinates_at l.total l.arm l.bytes
