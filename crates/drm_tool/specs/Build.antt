-- The build of a map: what it saves and tells, and what calls for a refusal.
use Rattle.std.specs.Prelude.{ℕ, ◌≡◌, ◌⊎◌, ◌-◌, nat_lt, if◌then◌else◌, List, [], ◌∷◌, ◌++◌, length, Option, Ok, Err, codes, decimal}
use Rattle.drm_outside.specs.Causes.{Rose}
use Rattle.drm_outside.specs.Shelving.{Names, Loads, HoldsAt, HoldsOthers, HoldsTheSame, IsTooLong}
use Rattle.drm_talk.specs.declared.Element.{Element}
use Rattle.drm_talk.specs.declared.Element.TheVariants.{Node, Edge}
use Rattle.drm_cellmap.specs.Roadmap.{Roadmap, entries_of}
use Rattle.drm_robot.specs.declared.Robot.{Robot}
use Rattle.drm_robot.specs.Reading.{robot_in, described}
use Rattle.drm_robot.specs.declared.fault.RobotFault.{RobotFault}
use Rattle.drm_build.specs.Built.{IsMapOf, IsTooLong as HasLongSweeps}
use Rattle.drm_build.specs.declared.building.BuildFault.TheVariants.{Total}
use Rattle.drm_mapfile.specs.MapFile.{IsMapFile}
use Rattle.drm_command.specs.Limits.{robot_limit}
use Rattle.drm_command.specs.Command.{Build, IsCommand, IsNoBuild}
use Rattle.drm_command.specs.declared.refusal.Refusal.{Refusal}
use Rattle.drm_command.specs.declared.refusal.Refusal.TheVariants.{NoCommand, NoRobot, LongRobot, LongSweeps}

-- the bytes describe the robot
abbrev pub ReadsRobot : List ℕ → Robot → Type 0
ReadsRobot bytes robot = robot_in bytes ≡ Ok (described robot)

-- what the shelf holds under the name is a robot
pub record IsRobotOn (names : Option Names) (name : List ℕ) (robot : Robot) : Type 0 where
  pub bytes : List ℕ
  pub loaded : Loads names name robot_limit bytes
  pub read : ReadsRobot bytes robot

-- what the shelf holds under the name is no robot, and the fault is the first of it
pub record IsNoRobot (names : Option Names) (name : List ℕ) (fault : RobotFault) : Type 0 where
  pub bytes : List ℕ
  pub loaded : Loads names name robot_limit bytes
  pub broken : robot_in bytes ≡ Err fault

-- the line that tells the numbers of nodes, edges and cells of a map
abbrev pub built_line : Roadmap → List ℕ
built_line map =
    codes "built " ++ decimal (length (map.road).nodes) ++ 32 ∷ decimal (length (map.road).edges)
    ++ 32 ∷ decimal (entries_of map.sweeps) ++ 10 ∷ []

-- the bytes are the file of the robot's map, and the text tells its numbers
pub record IsFileOf (robot : Robot) (bytes text : List ℕ) : Type 0 where
  pub map : Roadmap
  pub built : IsMapOf robot map
  pub file : IsMapFile bytes map
  pub spelled : text ≡ built_line map

-- the file of the map of the robot of one name stands under the other, which alone has changed, and the text tells of it
pub record BuildsMap (names after : Option Names) (robot_name map_name text : List ℕ) : Type 0 where
  pub robot : Robot
  pub named : IsRobotOn names robot_name robot
  pub bytes : List ℕ
  pub file : IsFileOf robot bytes text
  pub saved : HoldsAt after map_name bytes
  pub others : HoldsOthers names after map_name

-- what calls for a refusal where the robot of these bytes is wanted
abbrev pub RobotBytesCallFor : List ℕ → Refusal → Type 0
RobotBytesCallFor bytes (NoRobot fault) = robot_in bytes ≡ Err fault
RobotBytesCallFor bytes _ = ⊥

-- what calls for a refusal where the robot of the name is wanted
abbrev pub RobotCallsFor : Option Names → List ℕ → Refusal → Type 0
RobotCallsFor names name (NoRobot fault) = IsNoRobot names name fault
RobotCallsFor names name LongRobot = IsTooLong names name robot_limit
RobotCallsFor names name _ = ⊥

-- what calls for a refusal where the robot's map is wanted
abbrev pub SweepsCallFor : Robot → Refusal → Type 0
SweepsCallFor robot (LongSweeps entries) = HasLongSweeps robot (Total entries)
SweepsCallFor robot _ = ⊥

-- there is a robot of the name, whose map is refused
abbrev pub RefusesSweeps : Option Names → List ℕ → Refusal → Type 0
RefusesSweeps names name refusal = (robot : Robot) × IsRobotOn names name robot × SweepsCallFor robot refusal

-- what calls for a refusal where a map is built for the robot of the name
abbrev pub BuildCallsFor : Option Names → List ℕ → Refusal → Type 0
BuildCallsFor names name refusal = RobotCallsFor names name refusal ⊎ RefusesSweeps names name refusal

-- the same, after which no name has changed
abbrev pub BuildIsRefused : Option Names → Option Names → List ℕ → Refusal → Type 0
BuildIsRefused names after name refusal = HoldsTheSame names after × BuildCallsFor names name refusal

-- the element at a place: the nodes come before the edges
abbrev pub element_at : ℕ → ℕ → Element
element_at nodes place = if nat_lt place nodes then Node place else Edge (place - nodes)

-- the words are a build, and the shelf failed at the load of its robot or at the save of its map
abbrev pub BuildFails : List (List ℕ) → (List ℕ → ℕ) → (List ℕ → ℕ) → (List ℕ → ℕ) → (List ℕ → ℕ) → Type 0
BuildFails words loads loads_after saves saves_after =
    (robot map : List ℕ) × IsCommand words (Build robot map) × (Rose (loads robot) (loads_after robot) ⊎ Rose (saves map) (saves_after map))

-- the words are a build, which was done
abbrev pub BuildsWords : List (List ℕ) → Option Names → Option Names → List ℕ → Type 0
BuildsWords words names after text = (robot map : List ℕ) × IsCommand words (Build robot map) × BuildsMap names after robot map text

-- what calls for a refusal of the words, after which no name has changed: they are no build, or they are one that is refused
abbrev pub BuildWordsCallFor : List (List ℕ) → Option Names → Option Names → Refusal → Type 0
BuildWordsCallFor words names after refusal =
    HoldsTheSame names after
    × (((refusal ≡ NoCommand) × IsNoBuild words)
    ⊎ ((robot map : List ℕ) × IsCommand words (Build robot map) × BuildCallsFor names robot refusal))
