-- The digits up to some place are a front of all of them, and have no greater value.
use Rattle.std.proofs.Common.{arith}
use Rattle.std.proofs.lemmas.Int.Digits.{digits_more, digits_value_more}
use Rattle.std.specs.Str.Parse.{digits_value}
use Rattle.std.proofs.Common.{ap, ◌∙◌}
use Rattle.drm_script.proofs.TakeLemmas.{digits_end, great_ahead}
use Rattle.drm_script.proofs.number.value.Goals as goal

pub returns-in_err-checked_mul : goal.returns-in_err-checked_mul
returns-in_err-checked_mul c =
    let l = c.loop-digit in let d = c.in-Some.ensures in let h = c.in_err-checked_mul.ensures in
    rw c.from_residual.ensures (great_ahead c.args.bytes.now l.count l.number _ l.invariant.digits d.0 (omega (arith, d.1, d.2)) l.invariant.value (omega (arith, h)))

pub returns-in_err-number : goal.returns-in_err-number
returns-in_err-number c =
    let l = c.loop-digit in let d = c.in-Some.ensures in let h = c.in_err-number.ensures in let m = c.in_ok-checked_mul.ensures in
    rw c.from_residual-in_err-number.ensures (great_ahead c.args.bytes.now l.count l.number _ l.invariant.digits d.0 (omega (arith, d.1, d.2)) l.invariant.value (omega (arith, h, d.1, m.1)))

pub loop-digit-preserved : goal.loop-digit-preserved
loop-digit-preserved c =
    let l = c.loop-digit in let d = c.in-Some.ensures in let h = c.in_ok-number.ensures in let m = c.in_ok-checked_mul.ensures in
    record {
      digits = digits_more 10 c.args.bytes.now l.count d.0 l.invariant.digits (omega (arith, d.1, d.2));
      value = omega (arith, h.1, d.1, m.1, l.invariant.value, digits_value_more 10 c.args.bytes.now l.count d.0);
      small = omega (arith, h);
      inside = omega (arith, d.0);
    }

pub returns : goal.returns
returns c =
    let l = c.loop-digit in
    let e = digits_end c.args.bytes.now l.count l.invariant.digits c.in_default.ensures in
    let front = c.split_at.ensures.front in let back = c.split_at.ensures.back in
    (l.invariant.small, l.invariant.value ∙ ap (digits_value 10) e.0, front ∙ e.0, back ∙ e.1)
