use Rattle.std.proofs.Common.{rules}
use Rattle.std.specs.Cmp.Rules.{signed_items}
use Rattle.drm_shape.proofs.ring.RingPartialEq.eq.Goals as goal

pub returns-clause-one_by_one : goal.returns-clause-one_by_one
returns-clause-one_by_one c = search rules

pub returns-clause-same : goal.returns-clause-same
returns-clause-same c = rw (returns-clause-one_by_one c) (signed_items c.args.self.now c.args.other.now)
