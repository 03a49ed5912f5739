-- A word is a number exactly where it is the spelling of one.
use Rattle.std.proofs.Common.{Ok, ap, sym, ◌∙◌, lit≤}
use Rattle.drm_script.specs.Limits.{wide_limit}
use Rattle.drm_script.specs.Left.{Left}
use Rattle.drm_script.specs.Reader.{unsigned_at}
use Rattle.drm_script.proofs.FieldLemmas.{unsigned_end}
use Rattle.drm_script.proofs.TakeLemmas.{unsigned_not, unsigned_goes_on, unsigned_found}
use Rattle.drm_script.proofs.fields.take_wide.Goals as goal

pub returns-in_default-clause-number : goal.returns-in_default-clause-number
returns-in_default-clause-number c = unsigned_end wide_limit c.args.words.now.words c.in_default.ensures

pub returns-in_default-wide-clause-number : goal.returns-in_default-wide-clause-number
returns-in_default-wide-clause-number c =
    ap (λ (l : Left). unsigned_at wide_limit l.words) c.in-Some.ensures ∙ unsigned_not wide_limit c.in-Some.bytes.now (lit≤ tt) c.in_default-wide.ensures

pub returns-in_default-behind_word-clause-number : goal.returns-in_default-behind_word-clause-number
returns-in_default-behind_word-clause-number c =
    let h = c.in-Some-wide.ensures in
    ap (λ (l : Left). unsigned_at wide_limit l.words) c.in-Some.ensures ∙ unsigned_goes_on wide_limit c.in-Some.bytes.now c.in-Some-wide.rest.now (lit≤ tt) h.2 c.in_default-behind_word.ensures

pub returns-clause-number : goal.returns-clause-number
returns-clause-number c =
    let h = c.in-Some-wide.ensures in let b = c.in-Some-behind_word.ensures in
    let t = unsigned_found wide_limit c.in-Some-wide.number c.in-Some.bytes.now c.in-Some-wide.rest.now (lit≤ tt) h.0 h.1 h.2 b.0 in
    ap (λ (l : Left). unsigned_at wide_limit l.words) c.in-Some.ensures ∙ t.0 ∙ ap (λ (l : Left). Ok (c.in-Some-wide.number, l.words)) (sym b.1)

pub returns-clause-behind : goal.returns-clause-behind
returns-clause-behind c =
    let h = c.in-Some-wide.ensures in let b = c.in-Some-behind_word.ensures in
    let t = unsigned_found wide_limit c.in-Some-wide.number c.in-Some.bytes.now c.in-Some-wide.rest.now (lit≤ tt) h.0 h.1 h.2 b.0 in
    ap (λ (l : Left). l.behind) b.1 ∙ t.1 ∙ ap (λ (l : Left). l.behind) (sym c.in-Some.ensures)
