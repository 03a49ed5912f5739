use Rattle.drm_road.proofs.PairLemmas.{HasEdges}
use Rattle.drm_road.proofs.pairing.pairs.Given as goal

abbrev pub invariant-loop-i : goal.invariant-loop-i
invariant-loop-i l = HasEdges l.nodes l.near l.i l.edges.items
