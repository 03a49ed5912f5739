-- What the lines of edits say, and which replies they may have.
use Rattle.std.specs.Prelude.{ℕ, ◌<◌, ◌≤◌, Option, None, Some}
use Rattle.drm_shape.specs.declared.Shape.{Shape}
use Rattle.drm_talk.specs.Limits.{slots}
use Rattle.drm_talk.specs.declared.Act.{Act}
use Rattle.drm_talk.specs.declared.Act.TheVariants.{Put as ToPut, Del as ToDel}
use Rattle.drm_talk.specs.declared.Reply.{Reply}
use Rattle.drm_talk.specs.declared.Reply.TheVariants.{Put, Del, Slot, Full, Empty, Memory}

-- the slot of a put or a delete; of another line it says nothing
abbrev pub slot_of : Act → ℕ
slot_of (ToPut slot shape) = slot
slot_of (ToDel slot) = slot
slot_of _ = 0

-- the shape that the line puts, if it is a put
abbrev pub shape_of : Act → Option Shape
shape_of (ToPut slot shape) = Some shape
shape_of _ = None

-- the replies that a put may have
abbrev pub IsPutReply : ℕ → Reply → Type 0
IsPutReply slot (Put n) = slot < slots
IsPutReply slot Slot = slots ≤ slot
IsPutReply slot (Full n) = slot < slots
IsPutReply slot Memory = slot < slots
IsPutReply slot _ = ⊥

-- the replies that a delete may have
abbrev pub IsDelReply : ℕ → Reply → Type 0
IsDelReply slot (Del n) = slot < slots
IsDelReply slot Slot = slots ≤ slot
IsDelReply slot (Full n) = slot < slots
IsDelReply slot (Empty n) = slot < slots
IsDelReply slot Memory = slot < slots
IsDelReply slot _ = ⊥
