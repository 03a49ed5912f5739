-- The texts of faults.
use Rattle.std.specs.Prelude.{ℕ, List, [], ◌∷◌, ◌++◌, codes, decimal}
use Rattle.drm_arm.specs.declared.arm.ArmFault.{ArmFault}
use Rattle.drm_arm.specs.declared.arm.ArmFault.TheVariants.{Count as Links, Length, Radius, Limits, Reach}
use Rattle.drm_grid.specs.declared.grid.GridFault.TheVariants.{Side, Count as Rows}
use Rattle.drm_talk.specs.declared.Element.{Element}
use Rattle.drm_talk.specs.declared.Element.TheVariants.{Node, Edge}
use Rattle.drm_robot.specs.Fields.{key_of}
use Rattle.drm_robot.specs.declared.fault.RobotFault.{RobotFault}
use Rattle.drm_robot.specs.declared.fault.RobotFault.TheVariants.{Json, Field as KeyField, Arm, Grid, Fit, Memory as RobotMemory}
use Rattle.drm_mapfile.specs.declared.fault.FileFault.{FileFault}
use Rattle.drm_mapfile.specs.declared.fault.FileFault.TheVariants.{Magic, Version, Short, Field, Excess, Memory as FileMemory}

-- a text on a line of its own
abbrev pub on_a_line : List ℕ → List ℕ
on_a_line text = text ++ 10 ∷ []

-- links that are no arm
abbrev pub arm_text : ArmFault → List ℕ
arm_text (Links n) = codes "robot arm count " ++ decimal n
arm_text (Length k) = codes "robot arm length " ++ decimal k
arm_text (Radius k) = codes "robot arm radius " ++ decimal k
arm_text (Limits k) = codes "robot arm limits " ++ decimal k
arm_text (Reach n) = codes "robot arm reach " ++ decimal n

-- bytes that are no robot; want of memory is told by its status, and by no text
abbrev pub robot_text : RobotFault → List ℕ
robot_text Json = codes "robot json"
robot_text (KeyField name) = codes "robot field " ++ key_of name
robot_text (Arm fault) = arm_text fault
robot_text (Grid Side) = codes "robot grid side"
robot_text (Grid Rows) = codes "robot grid cells"
robot_text Fit = codes "robot fit"
robot_text RobotMemory = codes "robot memory"

-- bytes that are no map file; the same holds of want of memory
abbrev pub map_text : FileFault → List ℕ
map_text Magic = codes "map magic"
map_text (Version version) = codes "map version " ++ decimal version
map_text (Short place) = codes "map short " ++ decimal place
map_text (Field place) = codes "map field " ++ decimal place
map_text (Excess place) = codes "map excess " ++ decimal place
map_text FileMemory = codes "map memory"

-- an element and one of its cells, behind what is found of it
abbrev pub cell_text : Element → ℕ → List ℕ
cell_text (Node i) cell = codes " node " ++ decimal i ++ 32 ∷ decimal cell
cell_text (Edge i) cell = codes " edge " ++ decimal i ++ 32 ∷ decimal cell
