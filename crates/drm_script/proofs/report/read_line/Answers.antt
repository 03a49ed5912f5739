-- The words of the first line are read, and the line has a line feed.
use Rattle.std.proofs.Common.{ap, sym, subst, ◌∙◌, true≢false}
use Rattle.std.proofs.lemmas.Result.{err_from_is_err_and}
use Rattle.drm_script.specs.Left.{Left}
use Rattle.drm_script.specs.Reader.{Fails}
use Rattle.drm_script.specs.ReportReading.{report_line_words, IsReportLine, report_line_in}
use Rattle.drm_script.proofs.RowLemmas.{none_cut, other_read, is_read}
use Rattle.drm_script.proofs.ReplyLemmas.{report_line_laws, report_line_takes, valid_line_in_range}
use Rattle.drm_script.proofs.ReportLemmas.{no_line_read}
use Rattle.drm_script.proofs.report.read_line.Goals as goal

pub returns-in_err-found-clause-none : goal.returns-in_err-found-clause-none
returns-in_err-found-clause-none c =
    let p = err_from_is_err_and c.from_residual.result c.from_residual.ensures.1 in
    let e = c.in_err-found.field-0.0 in
    rw (p.1, p.2) (no_line_read e c.args.bytes.now (subst (λ (l : Left). Fails e (report_line_in l.words)) c.of-words.ensures c.in_err-found.ensures.line))

pub returns-in_default-clause-none : goal.returns-in_default-clause-none
returns-in_default-clause-none c = λ is.
    none_cut report_line_words IsReportLine c.args.bytes.now (ap (λ (l : Left). l.behind) (sym c.of-words.ensures) ∙ sym c.in_ok-found.ensures.behind ∙ sym c.in_default.ensures)

pub returns-then-not-shows_valid_shape-clause-none : goal.returns-then-not-shows_valid_shape-clause-none
returns-then-not-shows_valid_shape-clause-none c =
    let shape = c.shows_valid_shape.ensures in
    λ is. other_read report_line_words IsReportLine report_line_in report_line_laws c.args.bytes.now c.in_ok-found.found
    (ap (λ (l : Left). report_line_in l.words) (sym c.of-words.ensures) ∙ c.in_ok-found.ensures.line)
    (λ fits. true≢false (sym (shape.1 (valid_line_in_range _ fits)) ∙ c.if-not-shows_valid_shape.true))

pub returns-clause-line : goal.returns-clause-line
returns-clause-line c =
    let shape = c.shows_valid_shape.ensures in
    let t = report_line_takes _ c.in_ok-found.found (ap (λ (l : Left). report_line_in l.words) (sym c.of-words.ensures) ∙ c.in_ok-found.ensures.line) in
    is_read report_line_words IsReportLine c.args.bytes.now c.in-Some.rest.now c.in_ok-found.found
    (ap (λ (l : Left). l.behind) (sym c.of-words.ensures) ∙ sym c.in_ok-found.ensures.behind ∙ sym c.in-Some.ensures)
    t.0 (t.1 (shape.0 c.if-not-shows_valid_shape.false))
