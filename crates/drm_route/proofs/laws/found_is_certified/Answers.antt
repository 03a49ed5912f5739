-- Least lengths agree over each edge, and no open edge leaves what routes reach.
use Rattle.drm_route.proofs.LawLemmas.{found_certifies}
use Rattle.drm_route.proofs.laws.found_is_certified.Goals as goal

pub returns : goal.returns
returns c = found_certifies
