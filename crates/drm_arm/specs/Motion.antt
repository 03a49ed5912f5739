-- Motions of an arm, as lists of coordinates.
use Rattle.std.specs.Prelude.{List}
use Rattle.drm_arm.specs.declared.arm.Link.{Link}
use Rattle.drm_arm.specs.declared.config.Motion.{Motion}
use Rattle.drm_arm.specs.Config.{IsConfig}

-- both ends of the motion are configurations of the arm with these links
pub record IsMotion (links : List Link) (motion : Motion) : Type 0 where
  pub from : IsConfig links motion.from
  pub to : IsConfig links motion.to

-- the same motion the other way round
abbrev pub reversed : Motion → Motion
reversed motion = record { from = motion.to; to = motion.from }
