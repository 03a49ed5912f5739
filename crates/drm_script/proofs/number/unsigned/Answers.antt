-- A number that is too great is the spelling of no smaller one.
use Rattle.std.proofs.Common.{arith, sym, ◌∙◌}
use Rattle.std.proofs.lemmas.Fmt.{decimal_injective}
use Rattle.drm_script.proofs.number.unsigned.Goals as goal

pub returns-then-number-from : goal.returns-then-number-from
returns-then-number-from c = λ n small is.
    let found = c.in_ok-number.ensures in
    omega (arith, small, c.from.ensures, c.if-number-from.true, decimal_injective n c.in_ok-number.number (omega (arith, small)) found.0 (sym is ∙ found.1))
