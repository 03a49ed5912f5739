-- A label grows along a route by no more than the route is long.
use Rattle.drm_cert.proofs.RouteLemmas.{path_is_shortest}
use Rattle.drm_cert.proofs.laws.paths_are_shortest.Goals as goal

pub returns : goal.returns
returns c = path_is_shortest
