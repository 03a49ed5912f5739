-- The map of a robot is sound, and sound maps pass.
use Rattle.std.proofs.Common.{◌≡◌, ℕ, ◌+◌, ◌/◌, ◌%◌, subst, arith}
use Rattle.drm_talk.specs.declared.Element.{Element}
use Rattle.drm_road.specs.Road.{motion_of}
use Rattle.drm_robot.specs.declared.Robot.{Robot}
use Rattle.drm_sweep.specs.Near.{IsNear}
use Rattle.drm_sweep.specs.Laws.{IsScene, IsSound, IsPassed, NearCellsAreSwept, SweptCellsAreNear, SoundSweepsPass}
use Rattle.drm_cellmap.specs.Roadmap.{Roadmap, IsRoadmap, IsElement, EachStored, stored}
use Rattle.drm_build.specs.Built.{IsMapOf}
use Rattle.drm_build.proofs.BuiltLemmas.{motion_is}

-- the motion of an element of a map, with the map's grid and arm
pub scene_of : (map : Roadmap) (e : Element) → IsRoadmap map → IsElement map e → IsScene map.grid map.arm (motion_of map.road e)
scene_of map e is has = record { is_grid = is.grid; is_arm = is.arm; is_motion = motion_is map.arm map.road e is.road is.nodes has }

-- a side is a multiple of 8, so two quarters of it are a half
pub halves : (side : ℕ) → side % 8 ≡ 0 → side / 4 + side / 4 ≡ side / 2
halves side by_eight = omega arith

-- what is swept with a quarter of the side as pad is sound
pub sound : NearCellsAreSwept → SweptCellsAreNear → (robot : Robot) (map : Roadmap) → IsMapOf robot map → IsRoadmap map → EachStored IsSound map
sound near_swept swept_near robot map of is e has =
    let scene = scene_of map e is has in
    let exact = of.swept e has in
    record {
      holds = λ cell near. (exact cell).1 (near_swept map.grid map.arm (motion_of map.road e) (map.grid.side / 4) cell scene near);
      within = λ cell there.
          let near = swept_near map.grid map.arm (motion_of map.road e) (map.grid.side / 4) cell scene ((exact cell).0 there) in
          subst (λ (pad : ℕ). IsNear map.grid map.arm (motion_of map.road e) pad cell) (halves map.grid.side is.grid.side.by_eight) near;
    }

-- a sound map passes
pub pass : SoundSweepsPass → (map : Roadmap) → IsRoadmap map → EachStored IsSound map → EachStored IsPassed map
pass sweeps map is each e has = sweeps map.grid map.arm (motion_of map.road e) (stored map e) (scene_of map e is has) (each e has)
