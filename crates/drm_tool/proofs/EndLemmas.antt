-- What each status says of the outcome whose text was written, in whole or in part.
use Rattle.std.proofs.Common.{◌≡◌, ℕ, List, refl, sym, ap, ◌∙◌, subst, inl, inr, arith, Option, ◌≢◌, ◌≤◌, Ok, Err, IfOk, IfErr}
use Rattle.std.specs.Prelude.{◌⊎◌}
use Rattle.std.specs.Result.{IsErrOf}
use Rattle.std.specs.Io.KnownBytes.{Appends, Keeps}
use Rattle.drm_outside.specs.Writing.{AppendsPrefix}
use Rattle.drm_command.specs.Status.{IsStatus, done, source_failed, sink_failed, shelf_failed, no_memory}
use Rattle.drm_command.specs.Refusal.{told, IsRefusal, Refuses, Writes, Owes}
use Rattle.drm_command.specs.Ending.{Outcome, StopsWith, status_of, Tells, TellsNothing, FallsShort, Ends}
use Rattle.drm_tool.specs.Noted.{IsTrueEnd}
use Rattle.drm_command.specs.declared.refusal.Refusal.{Refusal}
use Rattle.drm_command.specs.declared.refusal.Refusal.TheVariants.{NoCommand, NoRobot, NoMap, NoLog, Unserved, LongRobot, LongMap, LongLog, LongLines, LongSweeps, Lacks, Loose}
use Rattle.drm_command.specs.declared.stop.Stop.TheVariants.{Refused, Load, Save, Source, Memory}
use Rattle.drm_command.specs.declared.ending.End.{End}
use Rattle.drm_command.specs.declared.ending.End.TheVariants.{Done as Over, Stopped, Sink}

-- ---- the statuses of refusals

-- a status of a refusal
abbrev IsOne : ℕ → Type 0
IsOne status = ((1 ≤ status) × (status ≤ 4)) ⊎ ((9 ≤ status) × (status ≤ 10))

one_least : (status : ℕ) → IsOne status → 1 ≤ status
one_least status (inl h) = h.0
one_least status (inr h) = omega (arith, h.0)

one_most : (status : ℕ) → IsOne status → status ≤ 10
one_most status (inl h) = omega (arith, h.1)
one_most status (inr h) = h.1

-- it is none of a failure
one_apart : (status k : ℕ) → IsOne status → 5 ≤ k → k ≤ 8 → status ≢ k
one_apart status k (inl h) least most is = omega (arith, h.1, is, least)
one_apart status k (inr h) least most is = omega (arith, h.0, is, most)

refusal_is_one : (refusal : Refusal) → IsOne (told refusal).status
refusal_is_one NoCommand = inl (omega arith, omega arith)
refusal_is_one (NoRobot fault) = inl (omega arith, omega arith)
refusal_is_one (NoMap fault) = inl (omega arith, omega arith)
refusal_is_one (NoLog line) = inl (omega arith, omega arith)
refusal_is_one (Unserved line) = inl (omega arith, omega arith)
refusal_is_one LongRobot = inr (omega arith, omega arith)
refusal_is_one LongMap = inr (omega arith, omega arith)
refusal_is_one LongLog = inr (omega arith, omega arith)
refusal_is_one (LongLines lines) = inr (omega arith, omega arith)
refusal_is_one (LongSweeps entries) = inr (omega arith, omega arith)
refusal_is_one (Lacks element cell) = inr (omega arith, omega arith)
refusal_is_one (Loose element cell) = inr (omega arith, omega arith)

is_one : (status : ℕ) → IsRefusal status → IsOne status
is_one status (refusal, is) = subst IsOne (sym is) (refusal_is_one refusal)

-- ---- the statuses of ends

-- a text that was not written whole
short_status : (end : End) → FallsShort end → (status_of end ≡ sink_failed) ⊎ (status_of end ≡ no_memory)
short_status end (inl is) = inl (ap status_of is)
short_status end (inr is) = inr (ap status_of is)

short_most : (end : End) → FallsShort end → status_of end ≤ 10
short_most end short = elim (short_status end short) [ inl is ↦ omega (arith, is) | inr is ↦ omega (arith, is) ]

short_apart : (end : End) (k : ℕ) → FallsShort end → k ≢ sink_failed → k ≢ no_memory → status_of end ≢ k
short_apart end k short not_sink not_memory same =
    elim (short_status end short) [ inl is ↦ not_sink (sym same ∙ is) | inr is ↦ not_memory (sym same ∙ is) ]

-- a text belongs to a command that was done or to a refusal
tells_status : (outcome : Outcome) (end : End) (text : List ℕ) → Tells outcome end text → (status_of end ≡ done) ⊎ IsOne (status_of end)
tells_status (Ok bytes) end text tells = inl (ap status_of tells.0)
tells_status (Err (Refused refusal)) end text tells = inr (subst IsOne (sym (ap status_of tells.0)) (refusal_is_one refusal))
tells_status (Err Load) end text tells = absurd tells
tells_status (Err Save) end text tells = absurd tells
tells_status (Err Source) end text tells = absurd tells
tells_status (Err Memory) end text tells = absurd tells

-- an outcome that has no text is one where something failed
data Bare (outcome : Outcome) (status : ℕ) : Type 0 where
  at_load : status ≡ shelf_failed → IsErrOf outcome Load → Bare outcome status
  at_save : status ≡ shelf_failed → IsErrOf outcome Save → Bare outcome status
  at_source : status ≡ source_failed → IsErrOf outcome Source → Bare outcome status
  at_memory : status ≡ no_memory → IsErrOf outcome Memory → Bare outcome status

bare_status : (outcome : Outcome) (end : End) → TellsNothing outcome end → Bare outcome (status_of end)
bare_status (Ok bytes) end bare = absurd bare
bare_status (Err (Refused refusal)) end bare = absurd bare
bare_status (Err Load) end bare = at_load (ap status_of bare) refl
bare_status (Err Save) end bare = at_save (ap status_of bare) refl
bare_status (Err Source) end bare = at_source (ap status_of bare) refl
bare_status (Err Memory) end bare = at_memory (ap status_of bare) refl

-- it has none of the other statuses
bare_apart : (outcome : Outcome) (status k : ℕ) → Bare outcome status → k ≢ shelf_failed → k ≢ source_failed → k ≢ no_memory → status ≢ k
bare_apart outcome status k (at_load s e) shelf source memory is = shelf (sym is ∙ s)
bare_apart outcome status k (at_save s e) shelf source memory is = shelf (sym is ∙ s)
bare_apart outcome status k (at_source s e) shelf source memory is = source (sym is ∙ s)
bare_apart outcome status k (at_memory s e) shelf source memory is = memory (sym is ∙ s)

bare_most : (outcome : Outcome) (status : ℕ) → Bare outcome status → status ≤ 10
bare_most outcome status (at_load s e) = omega (arith, s)
bare_most outcome status (at_save s e) = omega (arith, s)
bare_most outcome status (at_source s e) = omega (arith, s)
bare_most outcome status (at_memory s e) = omega (arith, s)

one_bare : (outcome : Outcome) (status : ℕ) → IsOne status → ¬ Bare outcome status
one_bare outcome status is (at_load s e) = one_apart status shelf_failed is (omega arith) (omega arith) s
one_bare outcome status is (at_save s e) = one_apart status shelf_failed is (omega arith) (omega arith) s
one_bare outcome status is (at_source s e) = one_apart status source_failed is (omega arith) (omega arith) s
one_bare outcome status is (at_memory s e) = one_apart status no_memory is (omega arith) (omega arith) s

-- ---- the texts of outcomes

-- a text that was written, in whole or in part, is owed
owed : (Done : List ℕ → Type 0) (CallsFor : Refusal → Type 0) (Wrote : List ℕ → Type 0) (outcome : Outcome) (end : End) (text : List ℕ) → IfOk outcome (λ bytes. Done bytes.items) → IfErr outcome (StopsWith CallsFor) → Tells outcome end text → Wrote text → Owes Done CallsFor Wrote
owed Done CallsFor Wrote (Ok bytes) end text is stop tells wrote = inl (text, subst Done (sym tells.1) is, wrote)
owed Done CallsFor Wrote (Err (Refused refusal)) end text is stop tells wrote =
    inr ((told refusal).status, record { refusal = refusal; numbered = refl; cause = stop; written = subst Wrote tells.1 wrote })
owed Done CallsFor Wrote (Err Load) end text is stop tells wrote = absurd tells
owed Done CallsFor Wrote (Err Save) end text is stop tells wrote = absurd tells
owed Done CallsFor Wrote (Err Source) end text is stop tells wrote = absurd tells
owed Done CallsFor Wrote (Err Memory) end text is stop tells wrote = absurd tells

whole_done : (Done : List ℕ → Type 0) (Wrote : List ℕ → Type 0) (outcome : Outcome) (end : End) (text : List ℕ) → IfOk outcome (λ bytes. Done bytes.items) → Tells outcome end text → Wrote text → status_of end ≡ done → Writes Done Wrote
whole_done Done Wrote (Ok bytes) end text is tells wrote zero = (text, subst Done (sym tells.1) is, wrote)
whole_done Done Wrote (Err (Refused refusal)) end text is tells wrote zero =
    let h = subst IsOne (sym (ap status_of tells.0)) (refusal_is_one refusal) in absurd (omega (arith, one_least (status_of end) h, zero))
whole_done Done Wrote (Err Load) end text is tells wrote zero = absurd tells
whole_done Done Wrote (Err Save) end text is tells wrote zero = absurd tells
whole_done Done Wrote (Err Source) end text is tells wrote zero = absurd tells
whole_done Done Wrote (Err Memory) end text is tells wrote zero = absurd tells

whole_refused : (CallsFor : Refusal → Type 0) (Wrote : List ℕ → Type 0) (outcome : Outcome) (end : End) (text : List ℕ) → IfErr outcome (StopsWith CallsFor) → Tells outcome end text → Wrote text → IsOne (status_of end) → Refuses (status_of end) CallsFor Wrote
whole_refused CallsFor Wrote (Ok bytes) end text stop tells wrote is =
    let zero = ap status_of tells.0 in absurd (omega (arith, one_least (status_of end) is, zero))
whole_refused CallsFor Wrote (Err (Refused refusal)) end text stop tells wrote is =
    record { refusal = refusal; numbered = ap status_of tells.0; cause = stop; written = subst Wrote tells.1 wrote }
whole_refused CallsFor Wrote (Err Load) end text stop tells wrote is = absurd tells
whole_refused CallsFor Wrote (Err Save) end text stop tells wrote is = absurd tells
whole_refused CallsFor Wrote (Err Source) end text stop tells wrote is = absurd tells
whole_refused CallsFor Wrote (Err Memory) end text stop tells wrote is = absurd tells

-- no outcome with a text has the status of a failure
no_text : (outcome : Outcome) (end : End) (k : ℕ) (text : List ℕ) → Tells outcome end text → 5 ≤ k → k ≤ 8 → status_of end ≢ k
no_text outcome end k text tells least most is = elim (tells_status outcome end text tells) [
  | inl zero ↦ omega (arith, zero, is, least)
  | inr one ↦ one_apart (status_of end) k one least most is
]

-- ---- each status

pub end_status : (outcome : Outcome) (end : End) (old new : Option (List ℕ)) → Ends outcome end old new → IsStatus (status_of end)
end_status outcome end old new (inl (text, tells, wrote)) = elim (tells_status outcome end text tells) [ inl zero ↦ omega (arith, zero) | inr is ↦ one_most (status_of end) is ]
end_status outcome end old new (inr (inl (whole, text, tells, wrote, short))) = short_most end short
end_status outcome end old new (inr (inr (bare, kept))) = bare_most outcome (status_of end) (bare_status outcome end bare)

pub end_done : (Done : List ℕ → Type 0) (outcome : Outcome) (end : End) (old new : Option (List ℕ)) → IfOk outcome (λ bytes. Done bytes.items) → Ends outcome end old new → status_of end ≡ done → Writes Done (Appends old new)
end_done Done outcome end old new is (inl (text, tells, wrote)) zero = whole_done Done (Appends old new) outcome end text is tells wrote zero
end_done Done outcome end old new is (inr (inl (whole, text, tells, wrote, short))) zero = absurd (short_apart end done short (λ e. omega arith) (λ e. omega arith) zero)
end_done Done outcome end old new is (inr (inr (bare, kept))) zero =
    absurd (bare_apart outcome (status_of end) done (bare_status outcome end bare) (λ e. omega arith) (λ e. omega arith) (λ e. omega arith) zero)

pub end_refused : (CallsFor : Refusal → Type 0) (outcome : Outcome) (end : End) (old new : Option (List ℕ)) → IfErr outcome (StopsWith CallsFor) → Ends outcome end old new → IsRefusal (status_of end) → Refuses (status_of end) CallsFor (Appends old new)
end_refused CallsFor outcome end old new stop (inl (text, tells, wrote)) refusal =
    whole_refused CallsFor (Appends old new) outcome end text stop tells wrote (is_one (status_of end) refusal)
end_refused CallsFor outcome end old new stop (inr (inl (whole, text, tells, wrote, short))) refusal =
    let is = is_one (status_of end) refusal in
    elim (short_status end short) [ inl s ↦ absurd (one_apart (status_of end) sink_failed is (omega arith) (omega arith) s) | inr s ↦ absurd (one_apart (status_of end) no_memory is (omega arith) (omega arith) s) ]
end_refused CallsFor outcome end old new stop (inr (inr (bare, kept))) refusal =
    absurd (one_bare outcome (status_of end) (is_one (status_of end) refusal) (bare_status outcome end bare))

at_shelf : (outcome : Outcome) (status : ℕ) → Bare outcome status → status ≡ shelf_failed → IsErrOf outcome Load ⊎ IsErrOf outcome Save
at_shelf outcome status (at_load s e) is = inl e
at_shelf outcome status (at_save s e) is = inr e
at_shelf outcome status (at_source s e) is = absurd (omega (arith, s, is))
at_shelf outcome status (at_memory s e) is = absurd (omega (arith, s, is))

pub end_shelf : (outcome : Outcome) (end : End) (old new : Option (List ℕ)) → Ends outcome end old new → status_of end ≡ shelf_failed → (IsErrOf outcome Load ⊎ IsErrOf outcome Save) × Keeps old new
end_shelf outcome end old new (inl (text, tells, wrote)) is = absurd (no_text outcome end shelf_failed text tells (omega arith) (omega arith) is)
end_shelf outcome end old new (inr (inl (whole, text, tells, wrote, short))) is = absurd (short_apart end shelf_failed short (λ e. omega arith) (λ e. omega arith) is)
end_shelf outcome end old new (inr (inr (bare, kept))) is = (at_shelf outcome (status_of end) (bare_status outcome end bare) is, kept)

from_source : (outcome : Outcome) (status : ℕ) → Bare outcome status → status ≡ source_failed → IsErrOf outcome Source
from_source outcome status (at_load s e) is = absurd (omega (arith, s, is))
from_source outcome status (at_save s e) is = absurd (omega (arith, s, is))
from_source outcome status (at_source s e) is = e
from_source outcome status (at_memory s e) is = absurd (omega (arith, s, is))

pub end_source : (outcome : Outcome) (end : End) (old new : Option (List ℕ)) → Ends outcome end old new → status_of end ≡ source_failed → IsErrOf outcome Source × Keeps old new
end_source outcome end old new (inl (text, tells, wrote)) is = absurd (no_text outcome end source_failed text tells (omega arith) (omega arith) is)
end_source outcome end old new (inr (inl (whole, text, tells, wrote, short))) is = absurd (short_apart end source_failed short (λ e. omega arith) (λ e. omega arith) is)
end_source outcome end old new (inr (inr (bare, kept))) is = (from_source outcome (status_of end) (bare_status outcome end bare) is, kept)

pub end_sink : (Done : List ℕ → Type 0) (CallsFor : Refusal → Type 0) (outcome : Outcome) (end : End) (old new : Option (List ℕ)) → IfOk outcome (λ bytes. Done bytes.items) → IfErr outcome (StopsWith CallsFor) → Ends outcome end old new → status_of end ≡ sink_failed → Owes Done CallsFor (AppendsPrefix old new)
end_sink Done CallsFor outcome end old new is stop (inl (text, tells, wrote)) failed = absurd (no_text outcome end sink_failed text tells (omega arith) (omega arith) failed)
end_sink Done CallsFor outcome end old new is stop (inr (inl (whole, text, tells, wrote, short))) failed =
    owed Done CallsFor (AppendsPrefix old new) outcome whole text is stop tells wrote
end_sink Done CallsFor outcome end old new is stop (inr (inr (bare, kept))) failed =
    absurd (bare_apart outcome (status_of end) sink_failed (bare_status outcome end bare) (λ e. omega arith) (λ e. omega arith) (λ e. omega arith) failed)

-- the sink failed only where the end says so
pub sink_is : (end : End) → status_of end ≡ sink_failed → end ≡ Sink
sink_is Over is = absurd (omega (arith, is))
sink_is (Stopped (Refused refusal)) is = absurd (one_apart (told refusal).status sink_failed (refusal_is_one refusal) (omega arith) (omega arith) is)
sink_is (Stopped Load) is = absurd (omega (arith, is))
sink_is (Stopped Save) is = absurd (omega (arith, is))
sink_is (Stopped Source) is = absurd (omega (arith, is))
sink_is (Stopped Memory) is = absurd (omega (arith, is))
sink_is Sink is = refl

from_memory : (outcome : Outcome) (status : ℕ) → Bare outcome status → status ≡ no_memory → IsErrOf outcome Memory
from_memory outcome status (at_load s e) is = absurd (omega (arith, s, is))
from_memory outcome status (at_save s e) is = absurd (omega (arith, s, is))
from_memory outcome status (at_source s e) is = absurd (omega (arith, s, is))
from_memory outcome status (at_memory s e) is = e

pub end_memory : (Done : List ℕ → Type 0) (CallsFor : Refusal → Type 0) (outcome : Outcome) (end : End) (old new : Option (List ℕ)) → IfOk outcome (λ bytes. Done bytes.items) → IfErr outcome (StopsWith CallsFor) → Ends outcome end old new → status_of end ≡ no_memory → (IsErrOf outcome Memory × Keeps old new) ⊎ Owes Done CallsFor (AppendsPrefix old new)
end_memory Done CallsFor outcome end old new is stop (inl (text, tells, wrote)) failed = absurd (no_text outcome end no_memory text tells (omega arith) (omega arith) failed)
end_memory Done CallsFor outcome end old new is stop (inr (inl (whole, text, tells, wrote, short))) failed =
    inr (owed Done CallsFor (AppendsPrefix old new) outcome whole text is stop tells wrote)
end_memory Done CallsFor outcome end old new is stop (inr (inr (bare, kept))) failed = inl (from_memory outcome (status_of end) (bare_status outcome end bare) failed, kept)

-- ---- the note

-- the command was done only where the end says so
pub done_is : (end : End) → status_of end ≡ done → end ≡ Over
done_is Over is = refl
done_is (Stopped (Refused refusal)) is = absurd (omega (arith, one_least (told refusal).status (refusal_is_one refusal), is))
done_is (Stopped Load) is = absurd (omega (arith, is))
done_is (Stopped Save) is = absurd (omega (arith, is))
done_is (Stopped Source) is = absurd (omega (arith, is))
done_is (Stopped Memory) is = absurd (omega (arith, is))
done_is Sink is = absurd (omega (arith, is))

told_true : (CallsFor : Refusal → Type 0) (AtLoad AtSave : Type 0) (outcome : Outcome) (end : End) (text : List ℕ) → IfErr outcome (StopsWith CallsFor) → Tells outcome end text → IsTrueEnd CallsFor AtLoad AtSave end
told_true CallsFor AtLoad AtSave (Ok bytes) end text stop tells = subst (IsTrueEnd CallsFor AtLoad AtSave) (sym tells.0) tt
told_true CallsFor AtLoad AtSave (Err (Refused refusal)) end text stop tells = subst (IsTrueEnd CallsFor AtLoad AtSave) (sym tells.0) stop
told_true CallsFor AtLoad AtSave (Err Load) end text stop tells = absurd tells
told_true CallsFor AtLoad AtSave (Err Save) end text stop tells = absurd tells
told_true CallsFor AtLoad AtSave (Err Source) end text stop tells = absurd tells
told_true CallsFor AtLoad AtSave (Err Memory) end text stop tells = absurd tells

bare_true : (CallsFor : Refusal → Type 0) (AtLoad AtSave : Type 0) (outcome : Outcome) (end : End) → (IsErrOf outcome Load → AtLoad) → (IsErrOf outcome Save → AtSave) → TellsNothing outcome end → IsTrueEnd CallsFor AtLoad AtSave end
bare_true CallsFor AtLoad AtSave (Ok bytes) end load save bare = absurd bare
bare_true CallsFor AtLoad AtSave (Err (Refused refusal)) end load save bare = absurd bare
bare_true CallsFor AtLoad AtSave (Err Load) end load save bare = subst (IsTrueEnd CallsFor AtLoad AtSave) (sym bare) (load refl)
bare_true CallsFor AtLoad AtSave (Err Save) end load save bare = subst (IsTrueEnd CallsFor AtLoad AtSave) (sym bare) (save refl)
bare_true CallsFor AtLoad AtSave (Err Source) end load save bare = subst (IsTrueEnd CallsFor AtLoad AtSave) (sym bare) tt
bare_true CallsFor AtLoad AtSave (Err Memory) end load save bare = subst (IsTrueEnd CallsFor AtLoad AtSave) (sym bare) tt

-- the end of an outcome is true
pub end_true : (CallsFor : Refusal → Type 0) (AtLoad AtSave : Type 0) (outcome : Outcome) (end : End) (old new : Option (List ℕ)) → IfErr outcome (StopsWith CallsFor) → (IsErrOf outcome Load → AtLoad) → (IsErrOf outcome Save → AtSave) → Ends outcome end old new → IsTrueEnd CallsFor AtLoad AtSave end
end_true CallsFor AtLoad AtSave outcome end old new stop load save (inl (text, tells, wrote)) = told_true CallsFor AtLoad AtSave outcome end text stop tells
end_true CallsFor AtLoad AtSave outcome end old new stop load save (inr (inl (whole, text, tells, wrote, short))) =
    elim short [ inl is ↦ subst (IsTrueEnd CallsFor AtLoad AtSave) (sym is) tt | inr is ↦ subst (IsTrueEnd CallsFor AtLoad AtSave) (sym is) tt ]
end_true CallsFor AtLoad AtSave outcome end old new stop load save (inr (inr (bare, kept))) = bare_true CallsFor AtLoad AtSave outcome end load save bare
