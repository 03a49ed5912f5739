-- A word is a number exactly where it is the spelling of one.
use Rattle.std.proofs.Common.{Ok, ap, sym, ◌∙◌, rules, to_z-of_z}
use Rattle.std.specs.Int.{w32}
use Rattle.std.specs.Int.RustNames.{FitsSigned}
use Rattle.drm_script.specs.Left.{Left}
use Rattle.drm_script.specs.Reader.{signed_at}
use Rattle.drm_script.proofs.FieldLemmas.{signed_end}
use Rattle.drm_script.proofs.TakeLemmas.{signed_not, signed_goes_on, signed_found}
use Rattle.drm_script.proofs.fields.take_signed.Goals as goal

pub returns-in_default-clause-number : goal.returns-in_default-clause-number
returns-in_default-clause-number c = signed_end c.args.words.now.words c.in_default.ensures

pub returns-in_default-signed-clause-number : goal.returns-in_default-signed-clause-number
returns-in_default-signed-clause-number c =
    ap (λ (l : Left). signed_at l.words) c.in-Some.ensures ∙ signed_not c.in-Some.bytes.now c.in_default-signed.ensures

pub returns-in_default-behind_word-clause-number : goal.returns-in_default-behind_word-clause-number
returns-in_default-behind_word-clause-number c =
    let h = c.in-Some-signed.ensures in
    ap (λ (l : Left). signed_at l.words) c.in-Some.ensures ∙ signed_goes_on c.in-Some.bytes.now c.in-Some-signed.rest.now h.1 c.in_default-behind_word.ensures

pub returns-clause-number : goal.returns-clause-number
returns-clause-number c =
    let fits : FitsSigned w32 c.in-Some-signed.number = search rules in
    let h = c.in-Some-signed.ensures in let b = c.in-Some-behind_word.ensures in
    let t = signed_found c.in-Some-signed.number c.in-Some.bytes.now c.in-Some-signed.rest.now fits h.0 h.1 b.0 in
    rw (to_z-of_z fits) (ap (λ (l : Left). signed_at l.words) c.in-Some.ensures ∙ t.0 ∙ ap (λ (l : Left). Ok (c.in-Some-signed.number, l.words)) (sym b.1))

pub returns-clause-behind : goal.returns-clause-behind
returns-clause-behind c =
    let fits : FitsSigned w32 c.in-Some-signed.number = search rules in
    let h = c.in-Some-signed.ensures in let b = c.in-Some-behind_word.ensures in
    let t = signed_found c.in-Some-signed.number c.in-Some.bytes.now c.in-Some-signed.rest.now fits h.0 h.1 b.0 in
    ap (λ (l : Left). l.behind) b.1 ∙ t.1 ∙ ap (λ (l : Left). l.behind) (sym c.in-Some.ensures)
