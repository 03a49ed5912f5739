-- The word is taken where it stands in front and ends there.
use Rattle.std.proofs.Common.{ap, drop, sym, ◌∙◌}
use Rattle.drm_script.specs.Left.{Left}
use Rattle.drm_script.specs.Reader.{starts}
use Rattle.drm_script.proofs.NumberLemmas.{with_front}
use Rattle.drm_script.proofs.WordLemmas.{not_in_front, goes_on, is_taken}
use Rattle.drm_script.proofs.fields.take_if.Goals as goal

pub returns-in_default-strip_prefix-clause-found : goal.returns-in_default-strip_prefix-clause-found
returns-in_default-strip_prefix-clause-found c =
    not_in_front c.args.word.now c.in-Some.bytes.now c.in_default-strip_prefix.ensures.cases ∙ ap (λ (l : Left). starts c.args.word.now l.words) (sym c.in-Some.ensures)

pub returns-in_default-behind_word-clause-found : goal.returns-in_default-behind_word-clause-found
returns-in_default-behind_word-clause-found c =
    let h = c.in-Some-strip_prefix.ensures.cases in
    goes_on c.args.word.now c.in-Some.bytes.now c.in-Some-strip_prefix.rest.now (with_front c.args.word.now c.in-Some.bytes.now c.in-Some-strip_prefix.rest.now h.0 h.1) c.in_default-behind_word.ensures
    ∙ ap (λ (l : Left). starts c.args.word.now l.words) (sym c.in-Some.ensures)

pub returns-clause-found : goal.returns-clause-found
returns-clause-found c =
    let h = c.in-Some-strip_prefix.ensures.cases in let b = c.in-Some-behind_word.ensures in
    let t = is_taken c.args.word.now c.in-Some.bytes.now c.in-Some-strip_prefix.rest.now c.requires (with_front c.args.word.now c.in-Some.bytes.now c.in-Some-strip_prefix.rest.now h.0 h.1) b.0 in
    t.0 ∙ ap (λ (l : Left). starts c.args.word.now l.words) (sym c.in-Some.ensures)

pub returns-clause-words : goal.returns-clause-words
returns-clause-words c =
    let h = c.in-Some-strip_prefix.ensures.cases in let b = c.in-Some-behind_word.ensures in
    let t = is_taken c.args.word.now c.in-Some.bytes.now c.in-Some-strip_prefix.rest.now c.requires (with_front c.args.word.now c.in-Some.bytes.now c.in-Some-strip_prefix.rest.now h.0 h.1) b.0 in
    ap (λ (l : Left). l.words) b.1 ∙ t.1 ∙ ap (λ (l : Left). drop 1 l.words) (sym c.in-Some.ensures)

pub returns-clause-behind : goal.returns-clause-behind
returns-clause-behind c =
    let h = c.in-Some-strip_prefix.ensures.cases in let b = c.in-Some-behind_word.ensures in
    let t = is_taken c.args.word.now c.in-Some.bytes.now c.in-Some-strip_prefix.rest.now c.requires (with_front c.args.word.now c.in-Some.bytes.now c.in-Some-strip_prefix.rest.now h.0 h.1) b.0 in
    ap (λ (l : Left). l.behind) b.1 ∙ t.2 ∙ ap (λ (l : Left). l.behind) (sym c.in-Some.ensures)
