-- An edit that is about to be applied: its entry, and the footprint of the shape that it puts.
use Rattle.std.specs.Prelude.{◌≡◌, ◌<◌, Bool, true, ltb, ◌==◌, ◌&&◌, if◌then◌else◌, [], ◌∷◌, ◌++◌, length, Option, None, Some, IfSome, option_map}
use Rattle.drm_grid.specs.Layout.{Layout}
use Rattle.drm_shape.specs.Validity.{IsValid}
use Rattle.drm_foot.specs.Placed.{Placed}
use Rattle.drm_talk.specs.declared.Entry.{Entry}
use Rattle.drm_talk.specs.Limits.{slots, full}
use Rattle.drm_state.specs.Scene.{Scene}

-- the entry that the journal is to gain, and the footprint where it is a put
pub record Edit : Type 0 where
  pub entry : Entry
  pub foot : Option Placed

-- the entry's shape is the footprint's, and valid
pub record IsEdit (edit : Edit) : Type 0 where
  pub shape : edit.entry.shape ≡ option_map (λ placed. placed.shape) edit.foot
  pub valid : IfSome edit.entry.shape IsValid

-- the state takes the edit: there is room, the slot is one of its slots, and the footprint is one of the map's grid
pub record IsTaken (scene : Scene) (edit : Edit) : Type 0 where
  pub room : length scene.journal < full
  pub slot : edit.entry.slot < slots
  pub grid : IfSome edit.foot (λ placed. placed.grid ≡ scene.map.grid)

-- the footprint, if there is one, is one of this grid, as a test
abbrev pub lies_on : Layout → Option Placed → Bool
lies_on grid None = true
lies_on grid (Some placed) = (placed.grid.side == grid.side) && (placed.grid.n == grid.n)

-- the state takes the edit, as a test
abbrev pub takes : Scene → Edit → Bool
takes scene edit = lies_on scene.map.grid edit.foot && ltb (length scene.journal) full && ltb edit.entry.slot slots

-- what a state stands for after an edit: the entry is added where the state takes the edit, and else nothing changes
abbrev pub after : Scene → Edit → Scene
after scene edit = if takes scene edit then record scene { journal = scene.journal ++ edit.entry ∷ [] } else scene
