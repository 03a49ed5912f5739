-- How faults print.
use Rattle.std.specs.Prelude.{ℕ, List, ◌++◌, codes}
use Rattle.drm_arm.specs.FaultTexts.{arm_fault_text}
use Rattle.drm_grid.specs.FaultText.{grid_fault_text}
use Rattle.drm_robot.specs.declared.fault.FieldName.{FieldName}
use Rattle.drm_robot.specs.declared.fault.FieldName.TheVariants.{Links, Len, Radius, Lo, Hi, Side, Cells, Seed, Draws, Near}
use Rattle.drm_robot.specs.declared.fault.RobotFault.{RobotFault}
use Rattle.drm_robot.specs.declared.fault.RobotFault.TheVariants.{Json, Field, Arm, Grid, Fit, Memory}
use Rattle.drm_robot.specs.Fields.{key_of}

-- what is said behind the key of a field that is at fault
abbrev pub lack_of : FieldName → List ℕ
lack_of Links = codes "is missing or no array of objects"
lack_of Len = codes "of a link is missing or out of its range"
lack_of Radius = codes "of a link is missing or out of its range"
lack_of Lo = codes "of a link is missing or out of its range"
lack_of Hi = codes "of a link is missing or out of its range"
lack_of Side = codes "is missing or out of its range"
lack_of Cells = codes "is missing or out of its range"
lack_of Seed = codes "is missing or out of its range"
lack_of Draws = codes "is missing or out of its range"
lack_of Near = codes "is missing or out of its range"

-- the words for a field that is at fault
abbrev pub field_text : FieldName → List ℕ
field_text name = codes "the field \"" ++ (key_of name ++ (codes "\" " ++ lack_of name))

-- the words for a fault of a robot
abbrev pub fault_text : RobotFault → List ℕ
fault_text Json = codes "the bytes are no JSON object"
fault_text (Field name) = field_text name
fault_text (Arm fault) = arm_fault_text fault
fault_text (Grid fault) = grid_fault_text fault
fault_text Fit = codes "the arm, stretched out, leaves the grid"
fault_text Memory = codes "there was no memory to read the robot"
