-- The side so far has the labelled nodes so far.
use Rattle.drm_route.specs.Search.{IsSideTo}
use Rattle.drm_route.proofs.shortest.labelled_nodes.Given as goal

abbrev pub invariant-loop-v : goal.invariant-loop-v
invariant-loop-v l = IsSideTo l.labels l.v l.side.items
