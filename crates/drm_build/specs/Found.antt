-- The sets as several hands find them, and as they are put in the order of the elements.
use Rattle.std.specs.Prelude.{ℕ, ◌≡◌, ◌⊎◌, ◌<◌, Bool, List, length, All, Contains, Option, Some, None, IfSome, slice_index_or}
use Rattle.std.specs.Option.{IsSome}
use Rattle.drm_road.specs.Road.{Road}
use Rattle.drm_robot.specs.declared.Robot.{Robot}
use Rattle.drm_road.specs.Elements.{element_count}
use Rattle.drm_build.specs.declared.hands.Found.{Found}
use Rattle.drm_build.specs.Sets.{IsSetAt}

-- the road has an element at the place, and the set has the cells that it sweeps
pub record IsFound (robot : Robot) (road : Road) (found : Found) : Type 0 where
  pub inside : found.place < element_count road
  pub set : IsSetAt robot road found.place found.set

-- there are so many slots, and each is empty
pub record AreEmpty (count : ℕ) (slots : List (Option (List Bool))) : Type 0 where
  pub one_each : length slots ≡ count
  pub each : All (λ slot. slot ≡ None) slots

-- after these sets were put there is one in the slot at each of their places, and what a slot holds is one that was found
-- for its place, or what it held before
pub record ArePut (hand : List Found) (before after : List (Option (List Bool))) : Type 0 where
  pub one_each : length after ≡ length before
  pub filled : All (λ found. IsSome (slice_index_or after found.place None)) hand
  pub each : (place : ℕ) (set : List Bool) → slice_index_or after place None ≡ Some set → (slice_index_or before place None ≡ Some set) ⊎ Contains hand (record { place = place; set = set })

-- there is a slot for each element, and each that is not empty holds what its element sweeps
pub record AreSlotsOf (robot : Robot) (road : Road) (slots : List (Option (List Bool))) : Type 0 where
  pub one_each : length slots ≡ element_count road
  pub each : (place : ℕ) → IfSome (slice_index_or slots place None) (IsSetAt robot road place)
