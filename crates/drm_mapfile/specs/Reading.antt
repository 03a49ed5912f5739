-- The parts of a map that bytes spell, or the first fault from the left.
use Rattle.std.specs.Prelude.{ℕ, ◌+◌, ◌-◌, ◌&&◌, ◌||◌, nat_lt, nat_le, ℤ, int_le, if◌then◌else◌, List, [], ◌∷◌, length, Result, Ok, Err}
use Rattle.std.specs.List.{list_any}
use Rattle.std.specs.Int.{w16, w32}
use Rattle.drm_arm.specs.declared.arm.Link.{Link}
use Rattle.drm_arm.specs.Arm.{reach_of}
use Rattle.drm_arm.specs.Config.{allows}
use Rattle.drm_arm.specs.Limits.{max_links, max_length, max_radius, max_reach, min_coordinate, max_coordinate}
use Rattle.drm_grid.specs.Layout.{Layout}
use Rattle.drm_grid.specs.GridFault.{is_side, is_row_count}
use Rattle.drm_road.specs.Draws.{is_same}
use Rattle.drm_road.specs.Limits.{max_nodes, max_edges}
use Rattle.drm_road.specs.Road.{Road}
use Rattle.drm_cellmap.specs.Limits.{max_entries}
use Rattle.drm_cellmap.specs.MapFaults.{fits}
use Rattle.drm_cellmap.specs.Roadmap.{entries_of}
use Rattle.drm_mapfile.specs.declared.fault.FileFault.{FileFault}
use Rattle.drm_mapfile.specs.declared.fault.FileFault.TheVariants.{Field}
use Rattle.drm_mapfile.specs.Fields.{◌>>=◌, byte_field, number_field, signed_field, many}

-- ---- the arm

-- the limits of a joint
unfoldable pub limits_at : ℕ → List ℕ → Result ((ℤ × ℤ) × List ℕ) FileFault
limits_at total bytes = do
  lo ← signed_field total (λ z. int_le min_coordinate z && int_le z max_coordinate) bytes
  hi ← signed_field total (λ z. int_le lo.0 z && int_le z max_coordinate) lo.1
  Ok ((lo.0, hi.0), hi.1)

-- a link behind others whose lengths sum to so much
unfoldable pub link_at : ℕ → ℕ → List ℕ → Result (Link × List ℕ) FileFault
link_at total so_far bytes = do
  len ← number_field w16 total (λ n. nat_le 1 n && nat_le n max_length && nat_le (so_far + n) max_reach) bytes
  radius ← number_field w16 total (λ n. nat_le n max_radius) len.1
  limits ← limits_at total radius.1
  Ok (record { len = len.0; radius = radius.0; lo = (limits.0).0; hi = (limits.0).1 }, limits.1)

-- the number of links, and the links
unfoldable pub arm_at : ℕ → List ℕ → Result (List Link × List ℕ) FileFault
arm_at total bytes = do
  count ← byte_field total (λ n. nat_le 1 n && nat_le n max_links) bytes
  many (λ front. link_at total (reach_of front)) count.0 [] count.1

-- ---- the grid

-- the side, and the number of rows; the grid fits the arm
unfoldable pub grid_at : ℕ → List Link → List ℕ → Result (Layout × List ℕ) FileFault
grid_at total links bytes = do
  side ← number_field w16 total is_side bytes
  n ← byte_field total (λ n. is_row_count n && fits (record { side = side.0; n = n }) links) side.1
  Ok (record { side = side.0; n = n.0 }, n.1)

-- ---- the road

-- a coordinate for each link, within its limits
unfoldable pub coordinates_at : ℕ → List Link → List ℕ → Result (List ℤ × List ℕ) FileFault
coordinates_at total [] bytes = Ok ([], bytes)
coordinates_at total (link ∷ links) bytes = do
  z ← signed_field total (allows link) bytes
  zs ← coordinates_at total links z.1
  Ok (z.0 ∷ zs.0, zs.1)

-- a node behind others; one that equals an earlier node is told at its first coordinate, once all of them were read
unfoldable pub node_at : ℕ → List Link → List (List ℤ) → List ℕ → Result (List ℤ × List ℕ) FileFault
node_at total links front bytes = do
  node ← coordinates_at total links bytes
  if list_any (λ other. is_same other node.0) front then Err (Field (total - length bytes)) else Ok node

-- the number of nodes, and the nodes
unfoldable pub nodes_at : ℕ → List Link → List ℕ → Result (List (List ℤ) × List ℕ) FileFault
nodes_at total links bytes = do
  count ← number_field w16 total (λ n. nat_le 1 n && nat_le n max_nodes) bytes
  many (node_at total links) count.0 [] count.1

-- an edge behind another one
unfoldable pub edge_at : ℕ → ℕ → ℕ × ℕ → List ℕ → Result ((ℕ × ℕ) × List ℕ) FileFault
edge_at total nodes before bytes = do
  a ← number_field w16 total (λ n. nat_lt n nodes && nat_le before.0 n) bytes
  b ← number_field w16 total (λ n. nat_lt a.0 n && nat_lt n nodes && (nat_lt before.0 a.0 || nat_lt before.1 n)) a.1
  Ok ((a.0, b.0), b.1)

-- the last edge, where there is one; every edge comes after (0, 0)
abbrev pub last_edge : List (ℕ × ℕ) → ℕ × ℕ
last_edge [] = (0, 0)
last_edge (edge ∷ []) = edge
last_edge (edge ∷ next ∷ edges) = last_edge (next ∷ edges)

-- the number of edges, and the edges
unfoldable pub edges_at : ℕ → ℕ → List ℕ → Result (List (ℕ × ℕ) × List ℕ) FileFault
edges_at total nodes bytes = do
  count ← number_field w32 total (λ n. nat_le n max_edges) bytes
  many (λ front. edge_at total nodes (last_edge front)) count.0 [] count.1

-- the nodes, and the edges between them
unfoldable pub road_at : ℕ → List Link → List ℕ → Result (Road × List ℕ) FileFault
road_at total links bytes = do
  nodes ← nodes_at total links bytes
  edges ← edges_at total (length nodes.0) nodes.1
  Ok (record { nodes = nodes.0; edges = edges.0 }, edges.1)

-- ---- the sweeps

-- the least cell that may stand behind these
abbrev pub least_behind : List ℕ → ℕ
least_behind [] = 0
least_behind (cell ∷ []) = cell + 1
least_behind (cell ∷ next ∷ cells) = least_behind (next ∷ cells)

-- a cell of a grid with so many, which is the least one or above it
abbrev pub cell_at : ℕ → ℕ → ℕ → List ℕ → Result (ℕ × List ℕ) FileFault
cell_at total count least bytes = number_field w16 total (λ cell. nat_lt cell count && nat_le least cell) bytes

-- the number of cells of a sweep, and the cells; the sweeps before it have so many
unfoldable pub sweep_at : ℕ → ℕ → ℕ → List ℕ → Result (List ℕ × List ℕ) FileFault
sweep_at total count so_far bytes = do
  m ← number_field w16 total (λ n. nat_le n count && nat_le (so_far + n) max_entries) bytes
  many (λ front. cell_at total count (least_behind front)) m.0 [] m.1

-- so many sweeps
unfoldable pub sweeps_at : ℕ → ℕ → ℕ → List ℕ → Result (List (List ℕ) × List ℕ) FileFault
sweeps_at total count elements bytes = many (λ front. sweep_at total count (entries_of front)) elements [] bytes
