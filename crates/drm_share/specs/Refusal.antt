-- Which edits are refused, and why.
use Rattle.std.specs.Prelude.{ltb, ◌||◌, List, [], ◌∷◌, length, Option, is_some}
use Rattle.drm_num.specs.FirstBroken.{unless, first_of}
use Rattle.drm_talk.specs.declared.Entry.{Entry}
use Rattle.drm_talk.specs.History.{shape_in}
use Rattle.drm_talk.specs.Limits.{slots, full}
use Rattle.drm_share.specs.declared.fault.EditFault.{EditFault}
use Rattle.drm_share.specs.declared.fault.EditFault.TheVariants.{Slot, Full, Empty}

-- the first rule that the entry breaks after the history: its slot is one, there is room, and a delete finds a shape
abbrev pub refusal : List Entry → Entry → Option EditFault
refusal history entry =
    first_of (
    unless (ltb entry.slot slots) Slot
    ∷ unless (ltb (length history) full) (Full (length history))
    ∷ unless (is_some entry.shape || is_some (shape_in history entry.slot)) (Empty (length history))
    ∷ [])
