-- A route that begins in the side ends in it.
use Rattle.drm_cert.proofs.RouteLemmas.{cut_has_no_route}
use Rattle.drm_cert.proofs.laws.cuts_have_no_route.Goals as goal

pub returns : goal.returns
returns c = cut_has_no_route
