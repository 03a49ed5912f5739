use Rattle.std.proofs.Common.{ℕ, ◌++◌, take, arith, refl, length-append, length-take}
use Rattle.std.proofs.KnownBytes.{Consumes-trans}
use Rattle.std.proofs.lemmas.Result.{err_from_is_err_and}
use Rattle.drm_outside.proofs.source.read_all.Goals as goal

pub returns-then-most-len-clause-err : goal.returns-then-most-len-clause-err
returns-then-most-len-clause-err g c =
    let bound = c.in_ok-count.ensures.bound in
    let consumed = Consumes-trans _ _ _ _ _ c.loop-bytes.invariant.consumed c.in_ok-count.ensures.bytes.0 in
    (refl, (c.loop-bytes.bytes.items ++ take c.in_ok-count.count c.read.new.into, consumed, omega (arith, c.read.auto.into, length-take {A = ℕ}, length-append {A = ℕ})))

pub loop-bytes-preserved : goal.loop-bytes-preserved
loop-bytes-preserved g c =
    let bound = c.in_ok-count.ensures.bound in
    record {
      consumed = rw c.in_ok-extend_from_slice.ensures.items (Consumes-trans _ _ _ _ _ c.loop-bytes.invariant.consumed c.in_ok-count.ensures.bytes.0);
      within = omega (arith, c.in_ok-extend_from_slice.ensures.len);
      room = c.loop-bytes.invariant.room;
      later = omega (arith, c.in_ok-count.ensures.cause.later);
    }

pub returns-in_err-extend_from_slice-clause-err : goal.returns-in_err-extend_from_slice-clause-err
returns-in_err-extend_from_slice-clause-err g c =
    let bound = c.in_ok-count.ensures.bound in
    let p = err_from_is_err_and c.from_residual-in_err-extend_from_slice.result c.from_residual-in_err-extend_from_slice.ensures.1 in
    let consumed = Consumes-trans _ _ _ _ _ c.loop-bytes.invariant.consumed c.in_ok-count.ensures.bytes.0 in
    rw (p.1, p.2) (c.loop-bytes.bytes.items ++ take c.in_ok-count.count c.read.new.into, consumed, omega (arith, length-append {A = ℕ}))
