-- The robot that bytes describe in JSON, or the first fault.
use Rattle.std.specs.Prelude.{◌≡◌, ℕ, ◌≤◌, ◌+◌, ◌*◌, ◌/◌, ◌^◌, nat_le, Bool, if◌then◌else◌, List, [], ◌∷◌, Option, Some, None, option_map, is_some, Result, Ok, Err}
use Rattle.std.specs.List.{list_all}
use Rattle.std.specs.Str.{is_utf8}
use Rattle.serde_json.specs.Data.{Data, Items, no_items, item}
use Rattle.serde_json.specs.Read.{read}
use Rattle.serde_json.specs.Find.{as_object, as_array}
use Rattle.drm_num.specs.FirstBroken.{unless, first_of}
use Rattle.drm_arm.specs.declared.arm.Link.{Link}
use Rattle.drm_arm.specs.Arm.{arm_fault, reach_of}
use Rattle.drm_grid.specs.GridFault.{grid_fault}
use Rattle.drm_road.specs.Limits.{max_draws, max_near}
use Rattle.drm_robot.specs.declared.fault.FieldName.TheVariants.{Links, Len, Radius, Lo, Hi, Side, Cells, Seed, Draws, Near}
use Rattle.drm_robot.specs.declared.fault.RobotFault.{RobotFault}
use Rattle.drm_robot.specs.declared.fault.RobotFault.TheVariants.{Json, Field, Arm, Grid, Fit, Memory}
use Rattle.drm_robot.specs.declared.json.Description.{Description}
use Rattle.drm_robot.specs.declared.robot.Robot.{Robot}
use Rattle.drm_robot.specs.Fields.{below_of, signed_of, from_one_of, field}

infixl 10 ◌>>=◌
abbrev pub ◌>>=◌ : {A B F : Type 0} → Result A F → (A → Result B F) → Result B F
(Ok x) >>= f = f x
(Err e) >>= f = Err e

-- the call failed because reading fails, or for want of memory
abbrev pub Fails : {Y : Type 0} → RobotFault → Result Y RobotFault → Type 0
Fails Memory read = Unit {0}
Fails Json read = read ≡ Err Json
Fails (Field name) read = read ≡ Err (Field name)
Fails (Arm fault) read = read ≡ Err (Arm fault)
Fails (Grid fault) read = read ≡ Err (Grid fault)
Fails Fit read = read ≡ Err Fit

-- what the call returned, seen by view, is what is read
abbrev pub Gives : {X Y : Type 0} → (X → Y) → Result X RobotFault → Result Y RobotFault → Type 0
Gives view (Ok x) read = read ≡ Ok (view x)
Gives view (Err e) read = Fails e read

-- the JSON value, where it is an object
abbrev pub if_object : Option Data → Result Data RobotFault
if_object None = Err Json
if_object (Some value) = if is_some (as_object value) then Ok value else Err Json

-- the JSON object that the bytes are
abbrev pub object_in : List ℕ → Result Data RobotFault
object_in bytes = if is_utf8 bytes then if_object (read bytes) else Err Json

-- a link, which is an object
unfoldable pub link_of : Data → Result Link RobotFault
link_of value = if is_some (as_object value) then (do
  len ← field Len (below_of (2 ^ 32)) value
  radius ← field Radius (below_of (2 ^ 32)) value
  lo ← field Lo signed_of value
  hi ← field Hi signed_of value
  Ok (record { len = len; radius = radius; lo = lo; hi = hi })) else Err (Field Links)

-- the links of an array, one after another
unfoldable pub links_of : Items → Result (List Link) RobotFault
links_of no_items = Ok []
links_of (item value values) = do
  link ← link_of value
  links ← links_of values
  Ok (link ∷ links)

-- what an object says of a robot, whether or not it is one
unfoldable pub description_of : Data → Result Description RobotFault
description_of value = do
  array ← field Links as_array value
  links ← links_of array
  side ← field Side (below_of (2 ^ 32)) value
  cells ← field Cells (below_of (2 ^ 32)) value
  seed ← field Seed (below_of (2 ^ 64)) value
  draws ← field Draws (from_one_of max_draws) value
  near ← field Near (from_one_of max_near) value
  Ok (record { links = links; side = side; cells = cells; seed = seed; draws = draws; near = near })

-- the arm, stretched out in any direction, stays within the grid
abbrev pub fits : Description → Bool
fits d = list_all (λ link. nat_le (reach_of d.links + link.radius) (d.side * (d.cells / 2))) d.links

-- the numbers of draws and of nearest nodes are within their limits
pub record IsDrawn (d : Description) : Type 0 where
  pub some_draws : 1 ≤ d.draws
  pub few_draws : d.draws ≤ max_draws
  pub some_near : 1 ≤ d.near
  pub few_near : d.near ≤ max_near

-- the first rule of arms and grids that the description breaks, or none
abbrev pub robot_fault : Description → Option RobotFault
robot_fault d =
    first_of (option_map Arm (arm_fault d.links)
    ∷ option_map Grid (grid_fault d.side d.cells)
    ∷ unless (fits d) Fit
    ∷ [])

-- the description, where no rule is broken
abbrev pub unbroken : Option RobotFault → Description → Result Description RobotFault
unbroken None d = Ok d
unbroken (Some fault) d = Err fault

-- what the bytes describe, where it is a robot, or the first fault
unfoldable pub robot_in : List ℕ → Result Description RobotFault
robot_in bytes = do
  value ← object_in bytes
  d ← description_of value
  unbroken (robot_fault d) d

-- what a robot is, as it is described
abbrev pub described : Robot → Description
described robot = record {
  links = robot.arm;
  side = robot.grid.side;
  cells = robot.grid.n;
  seed = robot.seed;
  draws = robot.draws;
  near = robot.near;
}
