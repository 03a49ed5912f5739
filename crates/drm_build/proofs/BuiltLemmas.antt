-- The elements of a road, the map that their swept cells give, and that there is one.
use Rattle.std.proofs.Common.{◌≡◌, ◌⊎◌, inl, inr, ℕ, ◌+◌, ◌-◌, ◌*◌, ◌<◌, ◌≤◌, ℤ, Bool, true, List, [], length, get_or, slice_get, All, Some, refl, sym, ◌∙◌, ap, subst, arith}
use Rattle.std.specs.Prelude.{Contains}
use Rattle.std.specs.List.{AllZip}
use Rattle.std.proofs.Math.Nat.{mul-le-mul}
use Rattle.std.proofs.lemmas.Bool.{lt-ltb, le-ltb, cases_lt}
use Rattle.std.proofs.lemmas.Option.{slice_get-get_or, slice_get_within, get_or_from_slice_get}
use Rattle.std.proofs.lemmas.Slice.Zip.{AllZip-long}
use Rattle.drm_arm.specs.declared.arm.Link.{Link}
use Rattle.drm_arm.specs.Config.{IsConfig}
use Rattle.drm_arm.specs.Motion.{IsMotion}
use Rattle.drm_grid.specs.Layout.{Layout, cell_count}
use Rattle.drm_grid.specs.CellSet.{AreCells}
use Rattle.drm_talk.specs.declared.Element.{Element}
use Rattle.drm_talk.specs.declared.Element.TheVariants.{Node, Edge}
use Rattle.drm_road.specs.Limits.{max_nodes, max_near}
use Rattle.drm_road.specs.Pairs.{AreLikeNodes, ArePairs, Precedes}
use Rattle.drm_road.specs.Road.{Road, HasEnds, IsRoad, IsPart, motion_of}
use Rattle.drm_robot.specs.declared.Robot.{Robot}
use Rattle.drm_road.specs.Elements.{node_count, element_count, element_at}
use Rattle.drm_cellmap.specs.Roadmap.{Roadmap, IsElement, IsSweep, of_parts, place_of}
use Rattle.drm_build.specs.Built.{IsRoadOf, IsMapOf}
use Rattle.drm_build.specs.Sets.{AreSetsOf}
use Rattle.drm_build.proofs.ListLemmas.{same_elements, same_numbers, same_places, same_place, zip_at}

-- the element at a node's place, and at an edge's
node_at : (road : Road) (i : ℕ) → i < node_count road → element_at road i ≡ Node i
node_at road i below = rw (lt-ltb i (node_count road) below) refl

edge_at : (road : Road) (i : ℕ) → node_count road ≤ i → element_at road i ≡ Edge (i - node_count road)
edge_at road i past = rw (le-ltb i (node_count road) past) refl

-- an element stands at its place
pub at_own_place : (map : Roadmap) (e : Element) → IsElement map e → element_at map.road (place_of map e) ≡ e
at_own_place map (Node i) has = node_at map.road i has
at_own_place map (Edge i) has =
    let back : node_count map.road + i - node_count map.road ≡ i = omega arith in
    edge_at map.road (node_count map.road + i) (omega arith) ∙ ap (λ (n : ℕ). Edge n) back

-- a place is that of its element
pub own_place : (map : Roadmap) (place : ℕ) → place_of map (element_at map.road place) ≡ place
own_place map place = elim (cases_lt place (node_count map.road)) [
  | inl below ↦ rw (node_at map.road place below) refl
  | inr past ↦ rw (edge_at map.road place past) (omega arith)
]

-- each place below the number of elements has one
pub part_at : (road : Road) (place : ℕ) → place < element_count road → IsPart road (element_at road place)
part_at road place inside = elim (cases_lt place (node_count road)) [
  | inl below ↦ rw (node_at road place below) below
  | inr past ↦ rw (edge_at road place past) (omega arith)
]

pub place_below : (map : Roadmap) (e : Element) → IsElement map e → place_of map e < element_count map.road
place_below map (Node i) has = omega arith
place_below map (Edge i) has = omega arith

-- the motion of an element is one of the arm, where edges lead from nodes to greater ones
pub motion_by_ends : (links : List Link) (road : Road) (e : Element) → ((i a b : ℕ) → HasEnds road i a b → (a < b) × (b < length road.nodes)) → All (IsConfig links) road.nodes → IsPart road e → IsMotion links (motion_of road e)
motion_by_ends links road (Node i) all_ends nodes has = record { from = nodes i [] has; to = nodes i [] has }
motion_by_ends links road (Edge i) all_ends nodes has =
    let edge = get_or road.edges i (0, 0) in
    let ends = all_ends i edge.0 edge.1 (slice_get-get_or road.edges i (0, 0) has) in
    record { from = nodes edge.0 [] (omega (arith, ends)); to = nodes edge.1 [] ends.1 }

pub motion_is : (links : List Link) (road : Road) (e : Element) → IsRoad road → All (IsConfig links) road.nodes → IsPart road e → IsMotion links (motion_of road e)
motion_is links road e is nodes has = motion_by_ends links road e is.ends nodes has

-- what is at a place of a list is one of its elements
pub listed : {A : Type 0} (xs : List A) (i : ℕ) (x : A) → slice_get xs i ≡ Some x → Contains xs x
listed xs i x at = (i, slice_get_within xs i x at, get_or_from_slice_get xs i x x at)

-- drawn nodes and their pairs are a road
pub pairs_are_road : (nodes : List (List ℤ)) (near : ℕ) (edges : List (ℕ × ℕ)) → 1 ≤ length nodes → length nodes ≤ max_nodes → near ≤ max_near → AreLikeNodes nodes → ArePairs nodes near edges → length edges ≤ length nodes * near → IsRoad (record { nodes = nodes; edges = edges })
pairs_are_road nodes near edges some few close alike pairs paired =
    let most : length nodes * near ≤ max_nodes * max_near = mul-le-mul few close in
    record {
      some = some;
      few = few;
      alike = alike;
      few_edges = omega (arith, most, paired);
      ends = λ i a b at. let is = (pairs.exact a b).0 (listed edges i (a, b) at) in (is.0, is.1);
      increasing = pairs.increasing;
    }

-- the list of a set of the grid's cells may be stored
listed_sweep : (grid : Layout) (set : List Bool) (cells : List ℕ) → length set ≡ cell_count grid → AreCells set cells → IsSweep grid cells
listed_sweep grid set cells size are = record {
  increasing = are.increasing;
  in_grid = λ k d below.
      let has = (are.exact (get_or cells k d)).0 (k, below, same_place cells k (get_or cells k d) d below) in
      let inside = slice_get_within set (get_or cells k d) true has in
      omega (arith, inside, size);
}

-- the lists of the swept sets give the robot's map
pub listed_map : (robot : Robot) (road : Road) (sets : List (List Bool)) (lists : List (List ℕ)) → IsRoadOf robot road → AreSetsOf robot road sets → AllZip AreCells sets lists → IsMapOf robot (record { arm = robot.arm; grid = robot.grid; road = road; sweeps = lists })
listed_map robot road sets lists of are all =
    let map : Roadmap = record { arm = robot.arm; grid = robot.grid; road = road; sweeps = lists } in
    let size : length lists ≡ element_count road = AllZip-long AreCells sets lists all ∙ are.one_each in
    record {
      arm = refl;
      grid = refl;
      road = of;
      one_each = size;
      sweeps = λ k d below. listed_sweep robot.grid (get_or sets k []) (get_or lists k d) (are.each k (omega (arith, size))).size (zip_at AreCells sets lists k [] d all below);
      swept = λ e has cell.
          let inside = place_below map e has in
          let set = are.each (place_of map e) inside in
          let cells = zip_at AreCells sets lists (place_of map e) [] [] all (omega (arith, size, inside)) in
          let exact = rw (at_own_place map e has) at set.exact in
          (λ stored. (exact cell).0 ((cells.exact cell).0 stored), λ swept. (cells.exact cell).1 ((exact cell).1 swept));
    }

-- edges come one before the other, and not both ways
precedes_once : (e f : ℕ × ℕ) → Precedes e f → Precedes f e → ⊥
precedes_once e f first second = once e.0 e.1 f.0 f.1 first second
  where
    once : (a b c d : ℕ) → (a < c) ⊎ ((a ≡ c) × (b < d)) → (c < a) ⊎ ((c ≡ a) × (d < b)) → ⊥
    once a b c d first second = grind arith

same_edges : (nodes : List (List ℤ)) (near : ℕ) (edges others : List (ℕ × ℕ)) → ArePairs nodes near edges → ArePairs nodes near others → edges ≡ others
same_edges nodes near edges others one other = same_elements Precedes precedes_once edges others one.increasing other.increasing
    (λ e. (λ has. (other.exact e.0 e.1).1 ((one.exact e.0 e.1).0 has), λ has. (one.exact e.0 e.1).1 ((other.exact e.0 e.1).0 has)))

-- a robot has one road
pub same_road : (robot : Robot) (road other : Road) → IsRoadOf robot road → IsRoadOf robot other → road ≡ other
same_road robot road other one two =
    let nodes : road.nodes ≡ other.nodes = one.nodes ∙ sym two.nodes in
    let pairs : ArePairs road.nodes robot.near other.edges = subst (λ (n : List (List ℤ)). ArePairs n robot.near other.edges) (sym nodes) two.edges in
    let edges : road.edges ≡ other.edges = same_edges road.nodes robot.near road.edges other.edges one.edges pairs in
    together road.nodes other.nodes road.edges other.edges nodes edges
  where
    together : (a b : List (List ℤ)) (c d : List (ℕ × ℕ)) → a ≡ b → c ≡ d → ◌≡◌ {A = Road} (record { nodes = a; edges = c }) (record { nodes = b; edges = d })
    together a b c d first second = rw (first, second) refl

-- over one road each element has one list
same_sweeps : (robot : Robot) (arm : List Link) (grid : Layout) (road : Road) (sweeps others : List (List ℕ)) → IsMapOf robot (record { arm = arm; grid = grid; road = road; sweeps = sweeps }) → IsMapOf robot (record { arm = arm; grid = grid; road = road; sweeps = others }) → sweeps ≡ others
same_sweeps robot arm grid road sweeps others one two = same_places [] sweeps others (one.one_each ∙ sym two.one_each) (λ k below.
    let map : Roadmap = record { arm = arm; grid = grid; road = road; sweeps = sweeps } in
    let there : Roadmap = record { arm = arm; grid = grid; road = road; sweeps = others } in
    let e = element_at road k in
    let has = part_at road k (omega (arith, one.one_each)) in
    let here = rw (own_place map k) at (one.swept e has) in
    let other = rw (own_place there k) at (two.swept e has) in
    let rises = one.sweeps k [] below in
    let rises_too = two.sweeps k [] (omega (arith, one.one_each, two.one_each)) in
    same_numbers (get_or sweeps k []) (get_or others k []) rises.increasing rises_too.increasing
    (λ cell. (λ in_one. (other cell).1 ((here cell).0 in_one), λ in_other. (here cell).1 ((other cell).0 in_other))))

-- maps with equal parts are one
pub same_parts : (a b : List Link) (c d : Layout) (e f : Road) (g h : List (List ℕ)) → a ≡ b → c ≡ d → e ≡ f → g ≡ h → ◌≡◌ {A = Roadmap} (of_parts a c e g) (of_parts b d f h)
same_parts a b c d e f g h first second third fourth = rw (first, second, third, fourth) refl

-- a robot has one map
pub one_map : (robot : Robot) (map other : Roadmap) → IsMapOf robot map → IsMapOf robot other → map ≡ other
one_map robot map other one two =
    let arms : other.arm ≡ map.arm = two.arm ∙ sym one.arm in
    let grids : other.grid ≡ map.grid = two.grid ∙ sym one.grid in
    let roads : other.road ≡ map.road = same_road robot other.road map.road two.road one.road in
    let moved : other ≡ record { arm = map.arm; grid = map.grid; road = map.road; sweeps = other.sweeps } = same_parts other.arm map.arm other.grid map.grid other.road map.road other.sweeps other.sweeps arms grids roads refl in
    let lists : map.sweeps ≡ other.sweeps = same_sweeps robot map.arm map.grid map.road map.sweeps other.sweeps one (subst (IsMapOf robot) moved two) in
    same_parts map.arm map.arm map.grid map.grid map.road map.road map.sweeps other.sweeps refl refl refl lists ∙ sym moved
