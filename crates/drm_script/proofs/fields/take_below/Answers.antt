-- A number that is read may be too great.
use Rattle.std.proofs.Common.{arith, lit≤}
use Rattle.std.proofs.lemmas.Result.{err_from_is_err_and}
use Rattle.drm_script.specs.Limits.{wide_limit}
use Rattle.drm_script.proofs.FieldLemmas.{below_fails, below_great, below_some}
use Rattle.drm_script.proofs.fields.take_below.Goals as goal

pub returns-in_err-number-clause-number : goal.returns-in_err-number-clause-number
returns-in_err-number-clause-number c =
    let p = err_from_is_err_and c.from_residual.result c.from_residual.ensures.1 in
    rw (p.1, p.2) (below_fails c.in_err-number.field-0.0 wide_limit c.args.limit c.args.words.now.words (lit≤ tt) (omega arith) c.in_err-number.ensures.number)

pub returns-then-number-limit-clause-number : goal.returns-then-number-limit-clause-number
returns-then-number-limit-clause-number c = below_great wide_limit c.args.limit c.in_ok-number.number c.args.words.now.words _ (lit≤ tt) (omega arith) c.in_ok-number.ensures.number c.if-number-limit.true

pub returns-clause-number : goal.returns-clause-number
returns-clause-number c = below_some wide_limit c.args.limit c.in_ok-number.number c.args.words.now.words _ (lit≤ tt) (omega arith) c.in_ok-number.ensures.number c.if-number-limit.false
