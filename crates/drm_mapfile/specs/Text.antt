-- The one spelling of each part of a map as bytes.
use Rattle.std.specs.Prelude.{ℕ, ℤ, List, [], ◌∷◌, ◌++◌, length, flat_map, codes}
use Rattle.std.specs.Int.{w16, w32, cast_unsigned, to_be_bytes}
use Rattle.drm_arm.specs.declared.arm.Link.{Link}
use Rattle.drm_grid.specs.Layout.{Layout}
use Rattle.drm_road.specs.Road.{Road}

-- the mark at the front of a map file
abbrev pub magic : List ℕ
magic = codes "DRMP"

-- the version of the format
abbrev pub version : ℕ
version = 1

-- a number of two bytes, the greater first
abbrev pub number : ℕ → List ℕ
number n = to_be_bytes w16 n

-- a number of two bytes with a sign, in two's complement
abbrev pub signed : ℤ → List ℕ
signed z = to_be_bytes w16 (cast_unsigned w16 z)

-- a link: its length, its radius and the limits of its joint
abbrev pub link_text : Link → List ℕ
link_text link = number link.len ++ (number link.radius ++ (signed link.lo ++ signed link.hi))

-- the number of links in one byte, and the links
abbrev pub arm_text : List Link → List ℕ
arm_text links = length links ∷ flat_map link_text links

-- the side, and the number of rows in one byte
abbrev pub grid_text : Layout → List ℕ
grid_text grid = number grid.side ++ grid.n ∷ []

-- the coordinates of a node
abbrev pub node_text : List ℤ → List ℕ
node_text node = flat_map signed node

-- the two nodes of an edge
abbrev pub edge_text : ℕ × ℕ → List ℕ
edge_text edge = number edge.0 ++ number edge.1

-- the number of nodes and the nodes, and the number of edges in four bytes and the edges
abbrev pub nodes_text : List (List ℤ) → List ℕ
nodes_text nodes = number (length nodes) ++ flat_map node_text nodes

abbrev pub edges_text : List (ℕ × ℕ) → List ℕ
edges_text edges = to_be_bytes w32 (length edges) ++ flat_map edge_text edges

abbrev pub road_text : Road → List ℕ
road_text road = nodes_text road.nodes ++ edges_text road.edges

-- the number of cells of a sweep, and the cells
abbrev pub sweep_text : List ℕ → List ℕ
sweep_text cells = number (length cells) ++ flat_map number cells
