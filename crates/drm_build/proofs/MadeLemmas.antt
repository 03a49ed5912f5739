-- What the sets of a robot's road make: a map within the limits, or one that is too long.
use Rattle.std.proofs.Common.{ℕ, ◌*◌, ◌<◌, ◌≤◌, Bool, List, [], length, All, refl, arith}
use Rattle.std.specs.List.{AllZip}
use Rattle.std.proofs.Math.Nat.{mul-le-mul}
use Rattle.drm_arm.specs.Arm.{IsArm}
use Rattle.drm_arm.specs.Config.{IsConfig}
use Rattle.drm_grid.specs.Layout.{IsGrid, cell_count}
use Rattle.drm_grid.specs.CellSet.{AreCells}
use Rattle.drm_road.specs.Road.{Road, IsRoad}
use Rattle.drm_robot.specs.declared.Robot.{Robot}
use Rattle.drm_cellmap.specs.Limits.{max_entries}
use Rattle.drm_cellmap.specs.Roadmap.{IsRoadmap}
use Rattle.drm_build.specs.declared.building.BuildFault.TheVariants.{Total}
use Rattle.drm_build.specs.Built.{IsRoadOf, IsTooLong}
use Rattle.drm_build.specs.Sets.{AreSetsOf, HaveEntries}
use Rattle.drm_build.proofs.ListLemmas.{same_place}
use Rattle.drm_build.proofs.BuiltLemmas.{listed_map}
use Rattle.drm_build.proofs.ZipLemmas.{counted}

-- the sets are no larger than a grid
pub small_sets : (robot : Robot) (road : Road) (sets : List (List Bool)) → IsGrid robot.grid → AreSetsOf robot road sets → All (λ set. length set ≤ 65536) sets
small_sets robot road sets grid are k d below =
    let size = (are.each k (omega (arith, are.one_each))).size in
    let most : cell_count robot.grid ≤ 128 * 128 = mul-le-mul grid.n.most grid.n.most in
    rw (same_place sets k d [] below) (omega (arith, size, most))

-- sets with too many cells are those of a map that is too long
pub too_long : (robot : Robot) (road : Road) (sets : List (List Bool)) (n : ℕ) → IsRoadOf robot road → AreSetsOf robot road sets → HaveEntries sets n → max_entries < n → IsTooLong robot (Total n)
too_long robot road sets n of are (lists, all, is) long = record {
  map = record { arm = robot.arm; grid = robot.grid; road = road; sweeps = lists };
  is_map = listed_map robot road sets lists of are all;
  long = rw is at long;
  told = rw is refl;
}

-- the lists of sets with few cells are those of a map
pub within_limits : (robot : Robot) (road : Road) (sets : List (List Bool)) (lists : List (List ℕ)) (n : ℕ) → IsArm robot.arm → IsGrid robot.grid → IsRoad road → All (IsConfig robot.arm) road.nodes → IsRoadOf robot road → AreSetsOf robot road sets → AllZip AreCells sets lists → HaveEntries sets n → n ≤ max_entries → IsRoadmap (record { arm = robot.arm; grid = robot.grid; road = road; sweeps = lists })
within_limits robot road sets lists n arm grid is_road nodes of are all have few =
    let map = listed_map robot road sets lists of are all in
    let total = counted sets lists n all have in
    record {
      arm = arm;
      grid = grid;
      fits = robot.fits;
      road = is_road;
      nodes = nodes;
      one_each = map.one_each;
      sweeps = map.sweeps;
      entries = omega (arith, total, few);
    }
