-- The words of the first line are read, and the line has a line feed.
use Rattle.std.proofs.Common.{ap, sym, subst, ◌∙◌, true≢false}
use Rattle.std.proofs.lemmas.Result.{err_from_is_err_and}
use Rattle.drm_script.specs.Left.{Left}
use Rattle.drm_script.specs.Log.{line_words, IsLogLine}
use Rattle.drm_script.specs.Reader.{Fails}
use Rattle.drm_script.specs.Reading.{line_in}
use Rattle.drm_script.proofs.RowLemmas.{none_cut, other_read, is_read}
use Rattle.drm_script.proofs.ActLemmas.{line_laws, line_takes, valid_in_range}
use Rattle.drm_script.proofs.LogLemmas.{no_line_read}
use Rattle.drm_script.proofs.log.read_line.Goals as goal

pub returns-in_err-request-clause-none : goal.returns-in_err-request-clause-none
returns-in_err-request-clause-none c =
    let p = err_from_is_err_and c.from_residual.result c.from_residual.ensures.1 in
    let e = c.in_err-request.field-0.0 in
    rw (p.1, p.2) (no_line_read c.args.joints e c.args.bytes.now (subst (λ (l : Left). Fails e (line_in c.args.joints l.words)) c.of-words.ensures c.in_err-request.ensures.line))

pub returns-in_default-clause-none : goal.returns-in_default-clause-none
returns-in_default-clause-none c = λ is.
    none_cut line_words (IsLogLine c.args.joints) c.args.bytes.now (ap (λ (l : Left). l.behind) (sym c.of-words.ensures) ∙ sym c.in_ok-request.ensures.behind ∙ sym c.in_default.ensures)

pub returns-then-not-has_valid_shape-clause-none : goal.returns-then-not-has_valid_shape-clause-none
returns-then-not-has_valid_shape-clause-none c =
    let shape = c.has_valid_shape.ensures in
    λ is. other_read line_words (IsLogLine c.args.joints) (line_in c.args.joints) (line_laws c.args.joints) c.args.bytes.now c.in_ok-request.request
    (ap (λ (l : Left). line_in c.args.joints l.words) (sym c.of-words.ensures) ∙ c.in_ok-request.ensures.line)
    (λ fits. true≢false (sym (shape.1 (valid_in_range c.args.joints _ fits.act)) ∙ c.if-not-has_valid_shape.true))

pub returns-clause-line : goal.returns-clause-line
returns-clause-line c =
    let shape = c.has_valid_shape.ensures in
    let t = line_takes c.args.joints _ c.in_ok-request.request (ap (λ (l : Left). line_in c.args.joints l.words) (sym c.of-words.ensures) ∙ c.in_ok-request.ensures.line) in
    is_read line_words (IsLogLine c.args.joints) c.args.bytes.now c.in-Some.rest.now c.in_ok-request.request
    (ap (λ (l : Left). l.behind) (sym c.of-words.ensures) ∙ sym c.in_ok-request.ensures.behind ∙ sym c.in-Some.ensures)
    t.0 (t.1 (shape.0 c.if-not-has_valid_shape.false))
