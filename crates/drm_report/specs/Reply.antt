-- When a reply is right for its line: what it says of the history is said of the front whose length it names.
use Rattle.std.specs.Prelude.{ℕ, ◌≤◌, ⊤, List, length, take, None, Some, IfSome}
use Rattle.drm_talk.specs.Front.{EndsWithEdit, IsFull, LacksSlot}
use Rattle.drm_talk.specs.Exchange.{named}
use Rattle.drm_talk.specs.declared.Entry.{Entry}
use Rattle.drm_talk.specs.declared.Element.{Element}
use Rattle.drm_talk.specs.declared.Element.TheVariants.{Node}
use Rattle.drm_talk.specs.declared.Act.{Act}
use Rattle.drm_talk.specs.declared.Act.TheVariants.{Put as ToPut, Del as ToDel, Count as ToCount, Ask as ToAsk, Sync as ToSync, Tick as ToTick}
use Rattle.drm_talk.specs.declared.Reply.{Reply}
use Rattle.drm_talk.specs.declared.Reply.TheVariants.{Put, Del, Full, Empty, Count, Absent, Sync, TickPut, TickDel, TickFull, TickEmpty, Ask}
use Rattle.drm_cellmap.specs.Roadmap.{Roadmap, IsElement}
use Rattle.drm_cellmap.specs.Barred.{IsCount}
use Rattle.drm_after.specs.After.{IsOccupiedAfter}
use Rattle.drm_report.specs.Edits.{slot_of, shape_of, IsPutReply, IsDelReply}
use Rattle.drm_report.specs.Asks.{start_of, goal_of, IsAskReply}
use Rattle.drm_plan.specs.Right.{RightAnswer}

-- the element of a count; of another line it says nothing
abbrev pub element_of : Act → Element
element_of (ToCount element) = element
element_of _ = Node 0

-- the replies that a count may have
abbrev pub IsCountReply : Roadmap → Element → Reply → Type 0
IsCountReply map element (Count n k) = IsElement map element
IsCountReply map element Absent = ¬ IsElement map element
IsCountReply map element _ = ⊥

-- the replies that a sync may have
abbrev pub IsSyncReply : Reply → Type 0
IsSyncReply (Sync n) = ⊤
IsSyncReply _ = ⊥

-- the replies that a line may have, whatever the history; ticks are not served yet, so that no reply is right for them
abbrev pub IsOfKind : Roadmap → Act → Reply → Type 0
IsOfKind map (ToPut slot shape) reply = IsPutReply slot reply
IsOfKind map (ToDel slot) reply = IsDelReply slot reply
IsOfKind map (ToCount element) reply = IsCountReply map element reply
IsOfKind map (ToAsk start goal) reply = IsAskReply map.arm start goal reply
IsOfKind map ToSync reply = IsSyncReply reply
IsOfKind map ToTick reply = ⊥

-- the front, whose length the reply names, ends as the reply tells: with the line's or the mover's edit, full, or without
-- the slot
abbrev pub IsPlaced : List Entry → ℕ → Act → Reply → Type 0
IsPlaced front caller act (Put n) = EndsWithEdit front caller (slot_of act) (shape_of act)
IsPlaced front caller act (Del n) = EndsWithEdit front caller (slot_of act) None
IsPlaced front caller act (Full n) = IsFull front
IsPlaced front caller act (Empty n) = LacksSlot front (slot_of act)
IsPlaced front caller act (TickPut n slot shape) = EndsWithEdit front caller slot (Some shape)
IsPlaced front caller act (TickDel n slot) = EndsWithEdit front caller slot None
IsPlaced front caller act (TickFull n) = IsFull front
IsPlaced front caller act (TickEmpty n slot) = LacksSlot front slot
IsPlaced front caller act _ = ⊤

-- what the reply tells of the obstacles is recounted after the front
abbrev pub IsRecounted : Roadmap → List Entry → Act → Reply → Type 0
IsRecounted map front act (Count n k) = IsCount map (IsOccupiedAfter map front) (element_of act) k
IsRecounted map front act (Ask n answer) = RightAnswer map front (start_of act) (goal_of act) answer
IsRecounted map front act _ = ⊤

-- the front is as the reply to the caller's line tells
abbrev pub IsTrueOf : Roadmap → List Entry → ℕ → Act → Reply → Type 0
IsTrueOf map front caller act reply = IsPlaced front caller act reply × IsRecounted map front act reply

-- the reply is right for the caller's line
pub record RightReply (map : Roadmap) (history : List Entry) (caller : ℕ) (act : Act) (reply : Reply) : Type 0 where
  pub kind : IsOfKind map act reply
  -- it names no more than there is, and is true of the front that it names
  pub told : IfSome (named reply) (λ n. (n ≤ length history) × IsTrueOf map (take n history) caller act reply)
