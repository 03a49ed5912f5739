-- How faults print.
use Rattle.std.specs.Prelude.{ℕ, List, ◌++◌, codes, decimal}
use Rattle.drm_road.specs.declared.road.RoadFault.{RoadFault}
use Rattle.drm_road.specs.declared.road.RoadFault.TheVariants.{Nodes, Node, Edges, Edge, Memory}

-- the words for a fault of a roadmap
abbrev pub fault_text : RoadFault → List ℕ
fault_text (Nodes n) = codes "there are " ++ (decimal n ++ codes " nodes, and 1 to 2048 are allowed")
fault_text (Node i) = codes "node " ++ (decimal i ++ codes " equals an earlier node, or has another number of joints")
fault_text (Edges n) = codes "there are " ++ (decimal n ++ codes " edges, and 32768 are allowed at most")
fault_text (Edge i) = codes "edge " ++ (decimal i ++ codes " does not lead to a greater node, or does not follow the edge before it")
fault_text Memory = codes "there was no memory to test the roadmap"
