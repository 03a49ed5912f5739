-- A robot whose elements come near few cells has no map that is too long.
use Rattle.std.proofs.Common.{◌≡◌, ℕ, suc, ◌+◌, ◌/◌, ◌<◌, ◌≤◌, ℤ, List, [], ◌∷◌, length, get_or, All, refl, sym, ◌∙◌, subst, arith}
use Rattle.std.proofs.lemmas.List.Sums.{sum_by-append}
use Rattle.drm_arm.specs.Arm.{IsArm}
use Rattle.drm_arm.specs.Config.{IsConfig}
use Rattle.drm_grid.specs.Layout.{IsGrid}
use Rattle.drm_road.specs.Laws.{DrawnNodesAreConfigurations}
use Rattle.drm_road.specs.Road.{Road, HasEnds, motion_of}
use Rattle.drm_road.specs.Elements.{element_count, element_at}
use Rattle.drm_robot.specs.declared.Robot.{Robot}
use Rattle.drm_sweep.specs.Near.{IsNear}
use Rattle.drm_sweep.specs.Swept.{IsSwept}
use Rattle.drm_sweep.specs.Laws.{IsScene, SweptCellsAreNear}
use Rattle.drm_cellmap.specs.Limits.{max_entries}
use Rattle.drm_cellmap.specs.Roadmap.{Roadmap, entries_of, of_parts}
use Rattle.drm_build.specs.declared.building.BuildFault.{BuildFault}
use Rattle.drm_build.specs.Built.{IsRoadOf, IsMapOf, IsTooLong}
use Rattle.drm_build.specs.Laws.{HoldNearCells, IsNearElement}
use Rattle.drm_build.proofs.ListLemmas.{rising_within}
use Rattle.drm_build.proofs.BuiltLemmas.{listed, motion_by_ends, own_place, part_at, same_parts, same_road}
use Rattle.drm_build.proofs.SoundLemmas.{halves}

more_entries : (x : List ℕ) (xs : List (List ℕ)) → entries_of (x ∷ xs) ≡ length x + entries_of xs
more_entries x xs =
    let sum : entries_of (x ∷ xs) ≡ entries_of (x ∷ []) + entries_of xs = sum_by-append (λ (cells : List ℕ). length cells) (x ∷ []) xs in
    let one : entries_of (x ∷ []) ≡ 0 + length x = refl in
    omega (arith, sum, one)

-- lists that are no longer, one by one, have no more cells together
fewer_entries : (xs ys : List (List ℕ)) → length xs ≡ length ys → ((k : ℕ) → k < length xs → length (get_or xs k []) ≤ length (get_or ys k [])) → entries_of xs ≤ entries_of ys
fewer_entries [] ys size each = omega arith
fewer_entries (x ∷ xs) [] size each = absurd (omega arith)
fewer_entries (x ∷ xs) (y ∷ ys) size each =
    let head : length x ≤ length y = each 0 (omega arith) in
    let rest = fewer_entries xs ys (omega arith) (λ k below. each (suc k) (omega arith)) in
    let one = more_entries x xs in
    let other = more_entries y ys in
    omega (arith, head, rest, one, other)

-- the edges of a robot's road lead from nodes to greater ones
ends_of_road : (robot : Robot) (road : Road) → IsRoadOf robot road → (i a b : ℕ) → HasEnds road i a b → (a < b) × (b < length road.nodes)
ends_of_road robot road of i a b at = let is = (of.edges.exact a b).0 (listed road.edges i (a, b) at) in (is.0, is.1)

-- each element of it is a scene
scene_on_road : DrawnNodesAreConfigurations → (robot : Robot) (road : Road) (k : ℕ) → IsArm robot.arm → IsGrid robot.grid → IsRoadOf robot road → k < element_count road → IsScene robot.grid robot.arm (motion_of road (element_at road k))
scene_on_road drawn robot road k arm grid of inside =
    let nodes : All (IsConfig robot.arm) road.nodes = subst (λ (nodes : List (List ℤ)). All (IsConfig robot.arm) nodes) (sym of.nodes) (drawn robot.arm robot.seed robot.draws arm) in
    record {
      is_grid = grid;
      is_arm = arm;
      is_motion = motion_by_ends robot.arm road (element_at road k) (ends_of_road robot road of) nodes (part_at road k inside);
    }

-- the stored sweeps of a robot's map have no more cells than lists that hold the cells near its elements
few_entries : SweptCellsAreNear → DrawnNodesAreConfigurations → (robot : Robot) (road : Road) (near sweeps : List (List ℕ)) → IsArm robot.arm → IsGrid robot.grid → HoldNearCells robot road near → IsMapOf robot (of_parts robot.arm robot.grid road sweeps) → entries_of sweeps ≤ entries_of near
few_entries swept_near drawn robot road near sweeps arm grid hold is = fewer_entries sweeps near (is.one_each ∙ sym hold.one_each) (λ k below.
    let map : Roadmap = of_parts robot.arm robot.grid road sweeps in
    let inside : k < element_count road = omega (arith, is.one_each, below) in
    let motion = motion_of road (element_at road k) in
    let scene = scene_on_road drawn robot road k arm grid is.road inside in
    let exact = rw (own_place map k) at (is.swept (element_at road k) (part_at road k inside)) in
    let close : (c : ℕ) → IsSwept robot.grid robot.arm motion (robot.grid.side / 4) c → IsNearElement robot road k c = λ c swept.
    subst (λ (pad : ℕ). IsNear robot.grid robot.arm motion pad c) (halves robot.grid.side grid.side.by_eight)
    (swept_near robot.grid robot.arm motion (robot.grid.side / 4) c scene swept) in
    rising_within (get_or sweeps k []) (get_or near k []) (is.sweeps k [] below).increasing
    (λ c there. hold.near k c inside (close c ((exact c).0 there))))

pub not_too_long : SweptCellsAreNear → DrawnNodesAreConfigurations → (robot : Robot) (road : Road) (near : List (List ℕ)) (fault : BuildFault) → IsArm robot.arm → IsGrid robot.grid → IsRoadOf robot road → HoldNearCells robot road near → entries_of near ≤ max_entries → IsTooLong robot fault → ⊥
not_too_long swept_near drawn robot road near fault arm grid of hold few long =
    let map = long.map in
    let is = long.is_map in
    let same : map.road ≡ road = same_road robot map.road road is.road of in
    let moved : map ≡ of_parts robot.arm robot.grid road map.sweeps = same_parts map.arm robot.arm map.grid robot.grid map.road road map.sweeps map.sweeps is.arm is.grid same refl in
    let fewer = few_entries swept_near drawn robot road near map.sweeps arm grid hold (subst (IsMapOf robot) moved is) in
    let more = long.long in
    omega (arith, fewer, few, more)
