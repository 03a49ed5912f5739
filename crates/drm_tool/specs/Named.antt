-- The map that a name stands for.
use Rattle.std.specs.Prelude.{ℕ, ◌≡◌, ◌⊎◌, List, Option, Err}
use Rattle.drm_outside.specs.Shelving.{Names, Loads, IsTooLong}
use Rattle.drm_cellmap.specs.Roadmap.{Roadmap}
use Rattle.drm_cellmap.specs.Sample.{sample}
use Rattle.drm_mapfile.specs.MapFile.{IsMapFile}
use Rattle.drm_mapfile.specs.FileReading.{map_in}
use Rattle.drm_mapfile.specs.declared.fault.FileFault.{FileFault}
use Rattle.drm_command.specs.Limits.{map_limit}
use Rattle.drm_command.specs.Command.{sample_name}
use Rattle.drm_command.specs.declared.refusal.Refusal.{Refusal}
use Rattle.drm_command.specs.declared.refusal.Refusal.TheVariants.{NoMap, LongMap}

-- the name is looked up on the shelf
abbrev pub IsLookedUp : List ℕ → Type 0
IsLookedUp name = ¬ (name ≡ sample_name)

-- what the shelf holds under the name is the file of the map
pub record IsMapOn (names : Option Names) (name : List ℕ) (map : Roadmap) : Type 0 where
  pub looked_up : IsLookedUp name
  pub bytes : List ℕ
  pub loaded : Loads names name map_limit bytes
  pub file : IsMapFile bytes map

-- the name stands for the map: the sample map, which is built in, or the map of a file
abbrev pub IsMapNamed : Option Names → List ℕ → Roadmap → Type 0
IsMapNamed names name map = ((name ≡ sample_name) × (map ≡ sample)) ⊎ IsMapOn names name map

-- the name stands for a map
abbrev pub HasMap : Option Names → List ℕ → Type 0
HasMap names name = (map : Roadmap) × IsMapNamed names name map

-- what the shelf holds under the name is no map file, and the fault is the first of it
pub record IsNoMap (names : Option Names) (name : List ℕ) (fault : FileFault) : Type 0 where
  pub looked_up : IsLookedUp name
  pub bytes : List ℕ
  pub loaded : Loads names name map_limit bytes
  pub broken : map_in bytes ≡ Err fault

-- what the shelf holds under the name is longer than a map file may be
pub record IsLongMap (names : Option Names) (name : List ℕ) : Type 0 where
  pub looked_up : IsLookedUp name
  pub long : IsTooLong names name map_limit

-- what calls for a refusal where the map of the name is wanted
abbrev pub MapCallsFor : Option Names → List ℕ → Refusal → Type 0
MapCallsFor names name (NoMap fault) = IsNoMap names name fault
MapCallsFor names name LongMap = IsLongMap names name
MapCallsFor names name _ = ⊥

-- what calls for a refusal where the map of these bytes is wanted
abbrev pub BytesCallFor : List ℕ → Refusal → Type 0
BytesCallFor bytes (NoMap fault) = map_in bytes ≡ Err fault
BytesCallFor bytes _ = ⊥
