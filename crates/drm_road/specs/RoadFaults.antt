-- The first rule of roadmaps that nodes and edges break.
use Rattle.std.specs.Prelude.{ℕ, ◌-◌, Bool, not, ◌&&◌, ◌||◌, nat_eq, nat_lt, nat_le, ℤ, List, [], ◌∷◌, length, take, slice_index_or, Option}
use Rattle.std.specs.List.{range_with_len, list_any}
use Rattle.drm_num.specs.FirstBroken.{unless, broken_at, first_of}
use Rattle.drm_road.specs.declared.road.RoadFault.{RoadFault}
use Rattle.drm_road.specs.declared.road.RoadFault.TheVariants.{Nodes, Node as BadNode, Edges, Edge as BadEdge}
use Rattle.drm_road.specs.Limits.{max_nodes, max_edges}
use Rattle.drm_road.specs.Draws.{is_same}

-- the number of nodes is 1 to 2,048
abbrev pub has_node_count : ℕ → Bool
has_node_count count = nat_le 1 count && nat_le count max_nodes

-- the node has as many joints as node 0, and equals no node before it
abbrev pub keeps_nodes : List (List ℤ) → ℕ → Bool
keeps_nodes nodes i =
    nat_eq (length (slice_index_or nodes i [])) (length (slice_index_or nodes 0 []))
    && not (list_any (is_same (slice_index_or nodes i [])) (take i nodes))

-- the first edge comes before the second, as a test
abbrev pub precedes : ℕ × ℕ → ℕ × ℕ → Bool
precedes e f = nat_lt e.0 f.0 || (nat_eq e.0 f.0 && nat_lt e.1 f.1)

-- the edge leads from a node to a greater one, and comes after the edge before it
abbrev pub keeps_edges : ℕ → List (ℕ × ℕ) → ℕ → Bool
keeps_edges count edges i =
    let edge = slice_index_or edges i (0, 0) in
    nat_lt edge.0 edge.1 && nat_lt edge.1 count && (nat_eq i 0 || precedes (slice_index_or edges (i - 1) (0, 0)) edge)

-- the first rule that the nodes and edges break, with the number found, or none
abbrev pub road_fault : List (List ℤ) → List (ℕ × ℕ) → Option RoadFault
road_fault nodes edges =
    first_of (unless (has_node_count (length nodes)) (Nodes (length nodes))
    ∷ broken_at BadNode (keeps_nodes nodes) (range_with_len 0 (length nodes))
    ∷ unless (nat_le (length edges) max_edges) (Edges (length edges))
    ∷ broken_at BadEdge (keeps_edges (length nodes) edges) (range_with_len 0 (length edges))
    ∷ [])
