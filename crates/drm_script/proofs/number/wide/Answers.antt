-- A word that is empty, or has a zero too many, is no spelling. Any other one is by its value.
use Rattle.std.proofs.Common.{arith, sym, ◌∙◌, ap, subst, true≢false}
use Rattle.std.specs.Str.Parse.{AllDigits, digits_value}
use borrow.Author.Tests.{true-eqb, false-eqb}
use Rattle.drm_script.specs.Numbers.{digits_ahead}
use Rattle.drm_script.proofs.NumberLemmas.{spelled_some, spelled_plain, spelled_value, spelling}
use Rattle.drm_script.proofs.TakeLemmas.{all_digits}
use Rattle.drm_script.proofs.number.wide.Goals as goal
use Rattle.drm_script.proofs.number.wide.Goals.{then-is_empty-via-then-is_empty, then-is_empty-via-else-is_empty+then-has_leading_zero}

pub returns-in_default : goal.returns-in_default
returns-in_default c = λ n small is. omega (arith, c.in_default.ensures, spelled_value (digits_ahead c.args.bytes.now) n (omega arith) is)

pub returns-then-is_empty : goal.returns-then-is_empty
returns-then-is_empty c = λ n small is. let f = c.in-Some.ensures in elim c.then-is_empty.branch [
  | then-is_empty-via-then-is_empty w ↦ omega (arith, true-eqb _ 0 w.if-is_empty.ensures, spelled_some c.in-Some.word.now n (omega arith) (f.2 ∙ is))
  | then-is_empty-via-else-is_empty+then-has_leading_zero w ↦
      let zero_first = w.has_leading_zero.ensures.0 w.if-has_leading_zero.true in
      spelled_plain c.in-Some.word.now n (omega arith) (f.2 ∙ is) zero_first.0 zero_first.1
]

pub returns : goal.returns
returns c =
    let f = c.in-Some.ensures in let some = false-eqb _ 0 c.if-is_empty.ensures in
    let digits = subst (AllDigits 10) (sym f.2) (all_digits c.args.bytes.now) in
    let spelled = spelling c.in-Some.word.now c.in-Some.number (omega (arith, f.0)) (omega (arith, some))
    (λ long zero_first. true≢false (sym (c.has_leading_zero.ensures.1 (long, zero_first)) ∙ c.if-has_leading_zero.false))
    digits (f.1 ∙ ap (digits_value 10) (sym f.2)) in
    (f.0, sym f.2 ∙ spelled, f.3)
