-- The map that the bytes of a file spell, or the first fault from the left.
use Rattle.std.specs.Prelude.{ℕ, ◌+◌, ◌-◌, ◌==◌, nat_eq, nat_lt, if◌then◌else◌, List, length, take, drop, Result, Ok, Err}
use Rattle.std.specs.Str.{bytes_eq}
use Rattle.std.specs.Int.{w16}
use Rattle.drm_grid.specs.Layout.{cell_count}
use Rattle.drm_cellmap.specs.Roadmap.{Roadmap}
use Rattle.drm_mapfile.specs.declared.fault.FileFault.{FileFault}
use Rattle.drm_mapfile.specs.declared.fault.FileFault.TheVariants.{Magic, Version, Short, Excess}
use Rattle.drm_mapfile.specs.Fields.{◌>>=◌, number_at}
use Rattle.drm_mapfile.specs.Text.{magic, version}
use Rattle.drm_mapfile.specs.Reading.{arm_at, grid_at, road_at, sweeps_at}

-- the mark of a map file: a byte that differs is told before a byte that is missing
unfoldable pub magic_at : ℕ → List ℕ → Result (List ℕ) FileFault
magic_at total bytes =
    if bytes_eq (take 4 bytes) (take (length bytes) magic)
    then (if nat_lt (length bytes) 4 then Err (Short total) else Ok (drop 4 bytes))
    else Err Magic

-- the version
unfoldable pub version_at : ℕ → List ℕ → Result (List ℕ) FileFault
version_at total bytes = do
  v ← number_at w16 total bytes
  if v.0 == version then Ok v.1 else Err (Version v.0)

-- the arm, the grid, the road and the sweeps
unfoldable pub map_at : ℕ → List ℕ → Result (Roadmap × List ℕ) FileFault
map_at total bytes = do
  arm ← arm_at total bytes
  grid ← grid_at total arm.0 arm.1
  road ← road_at total arm.0 grid.1
  sweeps ← sweeps_at total (cell_count grid.0) (length (road.0).nodes + length (road.0).edges) road.1
  Ok (record { arm = arm.0; grid = grid.0; road = road.0; sweeps = sweeps.0 }, sweeps.1)

-- all of the bytes
unfoldable pub map_in : List ℕ → Result Roadmap FileFault
map_in bytes = do
  behind_magic ← magic_at (length bytes) bytes
  behind_version ← version_at (length bytes) behind_magic
  map ← map_at (length bytes) behind_version
  if nat_eq (length map.1) 0 then Ok map.0 else Err (Excess (length bytes - length map.1))
