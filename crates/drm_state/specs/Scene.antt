-- What a state stands for: a roadmap, and the journal of all edits accepted so far.
use Rattle.std.specs.Prelude.{ℕ, ◌≡◌, ◌<◌, ◌≤◌, List, length, Option, None, Some, slice_index_or}
use Rattle.drm_shape.specs.declared.Shape.{Shape}
use Rattle.drm_shape.specs.Validity.{IsValid}
use Rattle.drm_talk.specs.declared.Entry.{Entry}
use Rattle.drm_talk.specs.Limits.{slots, full}
use Rattle.drm_talk.specs.History.{shape_in}
use Rattle.drm_cellmap.specs.Roadmap.{Roadmap}

-- the map, and the entries in their order
pub record Scene : Type 0 where
  pub map : Roadmap
  pub journal : List Entry

-- the table holds, slot by slot, what the journal leaves in it; what is past the table's end is empty
pub record IsTable (journal : List Entry) (table : List (Option Shape)) : Type 0 where
  pub held : (slot : ℕ) → slice_index_or table slot None ≡ shape_in journal slot
  pub standing : (slot : ℕ) (shape : Shape) → shape_in journal slot ≡ Some shape → (slot < slots) × IsValid shape

-- the table follows the journal, and both have room for every edit to come
pub record IsKept (journal : List Entry) (held : List (Option Shape)) (for_entries for_slots : ℕ) : Type 0 where
  pub table : IsTable journal held
  pub within : length journal ≤ full
  pub entries : full ≤ for_entries
  pub places : slots ≤ for_slots
