-- The part at which `notes` failed was taken in part, behind those before it.
use Rattle.std.proofs.Common.{inr, true≢false, sym, rules}
use Rattle.std.specs.Prelude.{IsErr, OnErr, Result, Ok, Err}
use Rattle.drm_command.specs.Note.{part_text}
use Rattle.drm_command.proofs.NoteLemmas.{taken_short, rose_since}
use Rattle.drm_command.proofs.noting.put.Goals as goal

on_err : {X E : Type 0} (r : Result X E) (P : Type 0) → IsErr r → OnErr r P → P
on_err (Ok x) P is known = absurd (true≢false (sym is))
on_err (Err e) P is known = known

pub returns-then-is_err : goal.returns-then-is_err
returns-then-is_err g c =
    let failed : IsErr c.put_part.result = search rules in
    inr (
      taken_short part_text c.args.parts.now c.loop-i.i _ _ _ _ (search rules) c.loop-i.invariant.taken (on_err c.put_part.result _ failed c.put_part.ensures.err),
      rose_since _ _ _ c.loop-i.invariant.later (c.put_part.ensures.cause.rose failed),
    )
