use Rattle.std.proofs.Common.{rules}
use Rattle.std.specs.Cmp.Rules.{signed_items}
use Rattle.drm_arm.proofs.config.ConfigPartialEq.eq.Goals as goal

pub returns-clause-joint_by_joint : goal.returns-clause-joint_by_joint
returns-clause-joint_by_joint c = search rules

pub returns-clause-same : goal.returns-clause-same
returns-clause-same c = rw (returns-clause-joint_by_joint c) (signed_items c.args.self.now c.args.other.now)
