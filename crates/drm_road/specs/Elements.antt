-- How the nodes and edges of a road are counted, and how they are placed: the nodes come first, and then the edges.
use Rattle.std.specs.Prelude.{ℕ, ◌+◌, ◌-◌, nat_lt, length, if◌then◌else◌}
use Rattle.drm_talk.specs.declared.Element.{Element}
use Rattle.drm_talk.specs.declared.Element.TheVariants.{Node, Edge}
use Rattle.drm_road.specs.Road.{Road}

abbrev pub node_count : Road → ℕ
node_count road = length road.nodes

abbrev pub edge_count : Road → ℕ
edge_count road = length road.edges

-- how many nodes and edges there are together
abbrev pub element_count : Road → ℕ
element_count road = node_count road + edge_count road

-- the element at a place
abbrev pub element_at : Road → ℕ → Element
element_at road place = if nat_lt place (node_count road) then Node place else Edge (place - node_count road)
