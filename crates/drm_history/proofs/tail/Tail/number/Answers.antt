use Rattle.std.proofs.Common.{arith}
use Rattle.drm_history.proofs.FrontLemmas.{legal_within}
use Rattle.drm_history.proofs.tail.Tail.number.Goals as goal

pub returns-clause-within : goal.returns-clause-within
returns-clause-within g c =
    let within = legal_within c.self.inside.seen.log c.self.invariant.1.legal in omega (arith, c.self.invariant.1.exact)
