use Rattle.std.proofs.Common.{rules, ◌≡◌, None}
use Rattle.drm_arm.specs.Config.{config_fault}
use Rattle.drm_arm.proofs.ConfigLemmas.{is_config}
use Rattle.drm_arm.proofs.arm.Arm.config.Goals as goal

pub returns-in-None-clause-limits : goal.returns-in-None-clause-limits
returns-in-None-clause-limits c =
    let none : config_fault c.args.self.now c.args.values.now ≡ None = search rules in
    rw c.stored.ensures (is_config c.args.self.now c.args.values.now none)
