-- Digits with a minus sign spell a number below 0, and digits without one spell none.
use Rattle.std.proofs.Common.{arith, ap, sym, ◌∙◌, [], ◌∷◌, None, decimal}
use Rattle.drm_script.specs.Numbers.{digits_ahead, signed_ahead}
use Rattle.drm_script.proofs.ResultLemmas.{none_ok}
use Rattle.drm_script.proofs.NumberLemmas.{plain_number, no_minus_zero, no_minus_word, minus_number, negated, no_minus, with_front}
use Rattle.drm_script.proofs.TakeLemmas.{plain_front, minus_front, no_minus_ahead}
use Rattle.drm_script.proofs.number.signed.Goals as goal

pub returns-in_err-number : goal.returns-in_err-number
returns-in_err-number c =
    let spelled = c.in_ok-size.ensures in let bytes = c.args.bytes.now in
    let front = plain_front bytes (no_minus bytes c.in_default.ensures.cases) in
    let great = none_ok c.try_from.result _ _ c.try_from.ensures c.in_err-number.ensures.value in
    rw c.from_residual-in_err-number.ensures
    (plain_number (signed_ahead bytes) c.in_ok-size.size None spelled.0 (λ digits is. no_minus_ahead bytes digits (sym front.0 ∙ is)) (front.0 ∙ spelled.1) great)

pub returns-in_err-size-2 : goal.returns-in_err-size-2
returns-in_err-size-2 c =
    let h = c.in-Some.ensures.cases in let bytes = c.args.bytes.now in let digits = c.in-Some.digits.now in
    let front = minus_front bytes digits (with_front (45 ∷ []) bytes digits h.0 h.1) in
    rw c.from_residual-in_err-size-2.ensures (no_minus_word (signed_ahead bytes) (digits_ahead digits) front.0 c.in_err-size-2.ensures)

pub returns-then-size-eq0 : goal.returns-then-size-eq0
returns-then-size-eq0 c =
    let h = c.in-Some.ensures.cases in let bytes = c.args.bytes.now in let digits = c.in-Some.digits.now in
    let front = minus_front bytes digits (with_front (45 ∷ []) bytes digits h.0 h.1) in let spelled = c.in_ok-size-2.ensures in
    no_minus_zero (signed_ahead bytes) (digits_ahead digits) front.0 (spelled.1 ∙ ap decimal c.if-size-eq0.true)

pub returns-in_err-number-2 : goal.returns-in_err-number-2
returns-in_err-number-2 c =
    let h = c.in-Some.ensures.cases in let bytes = c.args.bytes.now in let digits = c.in-Some.digits.now in
    let front = minus_front bytes digits (with_front (45 ∷ []) bytes digits h.0 h.1) in let spelled = c.in_ok-size-2.ensures in
    let great = none_ok c.try_from-2.result _ _ c.try_from-2.ensures c.in_err-number-2.ensures.value in
    rw c.from_residual-in_err-number-2.ensures
    (minus_number (signed_ahead bytes) (digits_ahead digits) c.in_ok-size-2.size _ None (omega (arith, c.if-size-eq0.false)) spelled.0
    (negated c.in_ok-size-2.size c.from.result (omega (arith, c.if-size-eq0.false)) spelled.0 c.from.ensures) front.0 spelled.1 great)
