-- What the faults of arms and of configurations print.
use Rattle.std.specs.Prelude.{ℕ, List, ◌++◌, codes, decimal}
use Rattle.std.specs.Fmt.{signed_decimal}
use Rattle.drm_arm.specs.Limits.{max_links, max_length, max_radius, max_reach, min_coordinate, max_coordinate}
use Rattle.drm_arm.specs.declared.arm.ArmFault.{ArmFault}
use Rattle.drm_arm.specs.declared.arm.ArmFault.TheVariants.{Count as ArmCount, Length, Radius, Limits, Reach}
use Rattle.drm_arm.specs.declared.config.ConfigFault.{ConfigFault}
use Rattle.drm_arm.specs.declared.config.ConfigFault.TheVariants.{Count as ConfigCount, Joint}

-- the text about the k-th link
abbrev pub of_link : ℕ → List ℕ → List ℕ
of_link k text = codes "link " ++ (decimal k ++ (codes ": " ++ text))

-- the rule that the links break, with the number found and the limit
abbrev pub arm_fault_text : ArmFault → List ℕ
arm_fault_text (ArmCount n) =
    codes "there are " ++ (decimal n ++ (codes " links, and an arm has 1 to " ++ decimal max_links))
arm_fault_text (Length k) = of_link k (codes "the length is not 1 to " ++ decimal max_length)
arm_fault_text (Radius k) = of_link k (codes "the radius is over " ++ decimal max_radius)
arm_fault_text (Limits k) =
    of_link k (codes "the limits of the joint are out of order, or not within "
    ++ (signed_decimal min_coordinate ++ (codes " to " ++ signed_decimal max_coordinate)))
arm_fault_text (Reach sum) =
    codes "the lengths of the links add up to " ++ (decimal sum ++ (codes ", which is over " ++ decimal max_reach))

-- the rule that the coordinates break, with the number found
abbrev pub config_fault_text : ConfigFault → List ℕ
config_fault_text (ConfigCount n) =
    codes "there are " ++ (decimal n ++ codes " coordinates, and not one for each joint")
config_fault_text (Joint k) = codes "joint " ++ (decimal k ++ codes ": the coordinate is outside the joint's limits")
