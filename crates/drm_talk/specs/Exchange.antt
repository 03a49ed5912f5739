-- What a reply says of the history: the length that it names, and whether it tells of an accepted edit.
use Rattle.std.specs.Prelude.{ℕ, Option, None, Some}
use Rattle.drm_talk.specs.declared.Reply.{Reply}
use Rattle.drm_talk.specs.declared.Reply.TheVariants.{Put, Del, Full, Empty, Count, Sync, TickPut, TickDel, TickFull, TickEmpty, Ask}

-- the length of the history that the reply names
abbrev pub named : Reply → Option ℕ
named (Put n) = Some n
named (Del n) = Some n
named (Full n) = Some n
named (Empty n) = Some n
named (Count n cells) = Some n
named (Sync n) = Some n
named (TickPut n slot shape) = Some n
named (TickDel n slot) = Some n
named (TickFull n) = Some n
named (TickEmpty n slot) = Some n
named (Ask n answer) = Some n
named _ = None

-- the number of the accepted edit of which the reply tells
abbrev pub accepted : Reply → Option ℕ
accepted (Put n) = Some n
accepted (Del n) = Some n
accepted (TickPut n slot shape) = Some n
accepted (TickDel n slot) = Some n
accepted _ = None
