-- The words for the nodes and edges of a road, under the name by which the crates above know them.
pub use Rattle.drm_road.specs.Road.{HasEnds}
pub use Rattle.drm_road.specs.Elements.{node_count, edge_count, element_count}
