-- An occupied cell would make the count above 0, and so bar the element.
use Rattle.drm_cellmap.proofs.OpenLemmas.{open_node_lacks, open_edge_lacks}
use Rattle.drm_cellmap.proofs.laws.open_elements_are_clear.Goals as goal

pub returns-clause-nodes : goal.returns-clause-nodes
returns-clause-nodes c = open_node_lacks

pub returns-clause-edges : goal.returns-clause-edges
returns-clause-edges c = open_edge_lacks
