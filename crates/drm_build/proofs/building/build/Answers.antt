-- The map is that of the sets, or the sets have too many cells.
use Rattle.std.proofs.Common.{rules, ◌≡◌, ◌≤◌, None, inr, arith}
use Rattle.drm_cellmap.specs.Limits.{max_entries}
use Rattle.drm_cellmap.specs.Roadmap.{Roadmap}
use Rattle.drm_cellmap.specs.MapFaults.{map_fault}
use Rattle.drm_build.proofs.BuiltLemmas.{listed_map}
use Rattle.drm_build.proofs.MadeLemmas.{small_sets, too_long, within_limits}
use Rattle.drm_build.proofs.building.build.Goals as goal

pub entries-total-requires-clause-small : goal.entries-total-requires-clause-small
entries-total-requires-clause-small g c =
    rw c.as_slice.ensures.value (small_sets c.args.robot.now c.in_ok-road.road c.in_ok-sets.sets.items c.arm_and_grid_are_within_limits.ensures.grid c.in_ok-sets.ensures)

pub returns-then-total-gt-MAX_ENTRIES-clause-fault : goal.returns-then-total-gt-MAX_ENTRIES-clause-fault
returns-then-total-gt-MAX_ENTRIES-clause-fault g c =
    inr (too_long c.args.robot.now c.in_ok-road.road c.in_ok-sets.sets.items c.entries-total.result c.in_ok-road.ensures.exact c.in_ok-sets.ensures (rw c.as_slice.ensures.value at c.entries-total.ensures) c.if-total-gt-MAX_ENTRIES.true)

pub returns-in-Ok-clause-exact : goal.returns-in-Ok-clause-exact
returns-in-Ok-clause-exact g c =
    rw c.in-Ok.ensures.made (listed_map c.args.robot.now c.in_ok-road.road c.in_ok-sets.sets.items c.in_ok-sweeps.sweeps c.in_ok-road.ensures.exact c.in_ok-sets.ensures (rw c.as_slice-2.ensures.value at c.in_ok-sweeps.ensures))

pub returns-in-Ok-clause-sound : goal.returns-in-Ok-clause-sound
returns-in-Ok-clause-sound g c =
    c.maps_of_robots_are_sound.ensures c.args.robot.now c.in-Ok.map (returns-in-Ok-clause-exact g c) c.in-Ok.ensures.limits

pub returns-in-Ok-clause-passed : goal.returns-in-Ok-clause-passed
returns-in-Ok-clause-passed g c =
    c.sound_maps_pass.ensures c.in-Ok.map c.in-Ok.ensures.limits (returns-in-Ok-clause-sound g c)

pub unreachable-requires : goal.unreachable-requires
unreachable-requires g c =
    let robot = c.args.robot.now in
    let road = c.in_ok-road.road in
    let lists = c.in_ok-sweeps.sweeps in
    let map : Roadmap = record { arm = robot.arm; grid = robot.grid; road = road; sweeps = lists } in
    let few : c.entries-total.result ≤ max_entries = let test = c.if-total-gt-MAX_ENTRIES.false in omega arith in
    let is = within_limits robot road c.in_ok-sets.sets.items lists c.entries-total.result c.arm_and_grid_are_within_limits.ensures.arm c.arm_and_grid_are_within_limits.ensures.grid
    c.in_ok-road.ensures.limits c.in_ok-road.ensures.nodes c.in_ok-road.ensures.exact c.in_ok-sets.ensures (rw c.as_slice-2.ensures.value at c.in_ok-sweeps.ensures) (rw c.as_slice.ensures.value at c.entries-total.ensures) few in
    let none : map_fault map ≡ None = c.new.ensures.valid.1 is in
    search rules
