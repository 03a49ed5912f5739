-- The coordinates break no rule.
use Rattle.std.proofs.Common.{◌∙◌}
use Rattle.drm_mapfile.proofs.road.config_of.Goals as goal

pub unreachable-requires : goal.unreachable-requires
unreachable-requires c =
    let none = c.in-Err.ensures.valid.1 c.requires in
    let told = c.in-Err.ensures.fault ∙ none in
    cc
