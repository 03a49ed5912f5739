-- The nodes so far, turned round, are traced from the node in hand, which has a label; and that label falls.
use Rattle.std.proofs.Common.{reverse, get_or, None}
use Rattle.drm_route.specs.Trace.{IsTraced}
use Rattle.drm_route.specs.Search.{HasLabel}
use Rattle.drm_route.proofs.TraceLemmas.{value_of}
use Rattle.drm_route.proofs.shortest.path_back.Given as goal

abbrev pub invariant-loop-before : goal.invariant-loop-before
invariant-loop-before l = IsTraced l.road l.snap l.labels l.at l.to (reverse l.nodes.items) × HasLabel l.labels l.at

abbrev pub decreases-loop-before : goal.decreases-loop-before
decreases-loop-before l = value_of (get_or l.labels l.at None)
