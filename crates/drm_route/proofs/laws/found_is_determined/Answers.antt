-- Least lengths, the steps back by least-numbered nodes, and what routes reach, are determined.
use Rattle.drm_route.proofs.OneLemmas.{found_is_one}
use Rattle.drm_route.proofs.laws.found_is_determined.Goals as goal

pub returns : goal.returns
returns c = found_is_one
