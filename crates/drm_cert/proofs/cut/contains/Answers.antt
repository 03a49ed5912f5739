-- The search finds the node where the side has it.
use Rattle.drm_cert.proofs.CutLemmas.{found_in}
use Rattle.drm_cert.proofs.cut.contains.Goals as goal

pub returns : goal.returns
returns c = rw c.is_ok.ensures.value (found_in c.args.side.now c.args.node c.binary_search.result c.requires c.binary_search.ensures.position)
