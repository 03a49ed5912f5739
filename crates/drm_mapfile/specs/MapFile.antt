-- The one spelling of each map as the bytes of a file.
use Rattle.std.specs.Prelude.{◌≡◌, ℕ, List, ◌++◌, flat_map}
use Rattle.drm_cellmap.specs.Roadmap.{Roadmap, IsRoadmap}
use Rattle.drm_mapfile.specs.Text.{magic, version, number, arm_text, grid_text, road_text, sweep_text}

-- all behind the version: the arm, the grid, the road, and the sweeps of the nodes and then of the edges
abbrev pub body_text : Roadmap → List ℕ
body_text map = arm_text map.arm ++ (grid_text map.grid ++ (road_text map.road ++ flat_map sweep_text map.sweeps))

-- the file of a map
abbrev pub map_text : Roadmap → List ℕ
map_text map = magic ++ (number version ++ body_text map)

-- the bytes are the file of this map
pub record IsMapFile (bytes : List ℕ) (map : Roadmap) : Type 0 where
  pub within_limits : IsRoadmap map
  pub text : bytes ≡ map_text map
