-- Which lists of coordinates are configurations of an arm, and the first rule that a list breaks.
use Rattle.std.specs.Prelude.{◌≡◌, IsTrue, All, ℤ, int_le, Bool, ◌&&◌, nat_eq, List, [], ◌∷◌, length, Option}
use Rattle.std.specs.List.{zip}
use Rattle.drm_num.specs.FirstBroken.{unless, broken_at, first_of}
use Rattle.drm_arm.specs.declared.arm.Link.{Link}
use Rattle.drm_arm.specs.declared.config.ConfigFault.{ConfigFault}
use Rattle.drm_arm.specs.declared.config.ConfigFault.TheVariants.{Count, Joint}

-- the joint of the link may stand at the coordinate
abbrev pub allows : Link → ℤ → Bool
allows link value = int_le link.lo value && int_le value link.hi

-- the first rule that the coordinates break, with the number found, or none
abbrev pub config_fault : List Link → List ℤ → Option ConfigFault
config_fault links values =
    first_of (unless (nat_eq (length links) (length values)) (Count (length values))
    ∷ broken_at Joint (λ pair. allows pair.0 pair.1) (zip links values)
    ∷ [])

-- the coordinates are a configuration of the arm with these links: one for each joint, within its limits
pub record IsConfig (links : List Link) (values : List ℤ) : Type 0 where
  pub counted : length links ≡ length values
  pub within : All (λ pair. IsTrue (allows pair.0 pair.1)) (zip links values)
