use Rattle.std.proofs.Common.{◌≡◌, ◌++◌, map, take}
use Rattle.drm_road.specs.declared.pairing.Place.{Place}
use Rattle.drm_road.specs.Pairs.{edge_between}
use Rattle.drm_road.proofs.pairing.join.Given as goal

abbrev pub invariant-loop-place : goal.invariant-loop-place
invariant-loop-place l = l.edges.items ≡ l.initial.edges.items ++ map (λ (place : Place). edge_between l.i place.node) (take l.place-index l.best)
