-- One more reply is read; or what is left begins with no line; or it is the end line, and nothing or more.
use Rattle.std.proofs.Common.{ℕ, ◌+◌, length, arith, ap, sym, ◌∙◌, subst}
use Rattle.std.proofs.lemmas.List.Elements.{All-push}
use borrow.Author.Tests.{true-eqb, false-eqb}
use Rattle.drm_script.specs.declared.replies.ReportLine.{ReportLine}
use Rattle.drm_script.specs.Front.{BeginsWith}
use Rattle.drm_script.specs.Report.{reply_text, IsReplyInRange, IsFirstBadReportLine}
use Rattle.drm_script.specs.ReportReading.{report_line_text, IsReportLine}
use Rattle.drm_script.proofs.RowLemmas.{one_more}
use Rattle.drm_script.proofs.ReportLemmas.{report_one_way, first_bad_line, bad_behind_end, replies_fit, is_report, longer, nothing_left}
use Rattle.drm_script.proofs.report.read_report.Goals as goal

pub overflow_cast-result : goal.overflow_cast-result
overflow_cast-result c =
    let l = c.loop-found in let fit = replies_fit c.args.bytes.now l.replies.items l.rest.now l.invariant.text in
    let ok = l.replies.ok in let len = c.len.ensures in
    record { fits = omega (arith, fit, ok.0, len, c.requires) }

pub overflow_add-result : goal.overflow_add-result
overflow_add-result c =
    let l = c.loop-found in let fit = replies_fit c.args.bytes.now l.replies.items l.rest.now l.invariant.text in
    let ok = l.replies.ok in let len = c.len.ensures in
    record { fits = omega (arith, fit, ok.0, len, c.requires) }

pub returns-in-Err-Bad-clause-again : goal.returns-in-Err-Bad-clause-again
returns-in-Err-Bad-clause-again c = λ report is.
    let l = c.loop-found in
    let stop = first_bad_line c.args.bytes.now l.replies.items l.rest.now l.invariant.text l.invariant.in_grammar (c.in-Err-Bad.ensures.none c.in-Err-Bad.field-0-is) in
    absurd (stop.no_report report is)

pub returns-in-Err-Bad-clause-fault : goal.returns-in-Err-Bad-clause-fault
returns-in-Err-Bad-clause-fault c =
    let l = c.loop-found in let ok = l.replies.ok in let count = c.len.ensures ∙ ok.0 in
    subst (λ (n : ℕ). IsFirstBadReportLine (n + 1) c.args.bytes.now) (sym count)
    (first_bad_line c.args.bytes.now l.replies.items l.rest.now l.invariant.text l.invariant.in_grammar (c.in-Err-Bad.ensures.none c.in-Err-Bad.field-0-is))

pub overflow_cast-result-then-not-is_empty : goal.overflow_cast-result-then-not-is_empty
overflow_cast-result-then-not-is_empty c =
    let l = c.loop-found in let fit = replies_fit c.args.bytes.now l.replies.items l.rest.now l.invariant.text in
    let ok = l.replies.ok in let len = c.len-then-not-is_empty.ensures in
    record { fits = omega (arith, fit, ok.0, len, c.requires) }

pub overflow_add-result-then-not-is_empty : goal.overflow_add-result-then-not-is_empty
overflow_add-result-then-not-is_empty c =
    let l = c.loop-found in let fit = replies_fit c.args.bytes.now l.replies.items l.rest.now l.invariant.text in
    let ok = l.replies.ok in let len = c.len-then-not-is_empty.ensures in let some = false-eqb _ 0 c.if-not-is_empty.ensures in
    record { fits = omega (arith, fit, ok.0, len, c.requires, some, longer l.rest.now c.in-Ok.found.1.now _ c.in-Ok.ensures.line.text) }

pub returns-then-not-is_empty-clause-again : goal.returns-then-not-is_empty-clause-again
returns-then-not-is_empty-clause-again c = λ report is.
    let l = c.loop-found in let end = c.in-End in
    let at_end = subst (λ (line : ReportLine). BeginsWith report_line_text IsReportLine l.rest.now line c.in-Ok.found.1.now) end.is c.in-Ok.ensures.line in
    let stop = bad_behind_end c.args.bytes.now l.replies.items l.rest.now c.in-Ok.found.1.now end.number end.nodes end.edges l.invariant.text l.invariant.in_grammar at_end.text at_end.fits
    (λ none. false-eqb _ 0 c.if-not-is_empty.ensures (ap length none)) in
    absurd (stop.no_report report is)

pub returns-then-not-is_empty-clause-fault : goal.returns-then-not-is_empty-clause-fault
returns-then-not-is_empty-clause-fault c =
    let l = c.loop-found in let end = c.in-End in let ok = l.replies.ok in let count = c.len-then-not-is_empty.ensures ∙ ok.0 in
    let at_end = subst (λ (line : ReportLine). BeginsWith report_line_text IsReportLine l.rest.now line c.in-Ok.found.1.now) end.is c.in-Ok.ensures.line in
    subst (λ (n : ℕ). IsFirstBadReportLine (n + 2) c.args.bytes.now) (sym count)
    (bad_behind_end c.args.bytes.now l.replies.items l.rest.now c.in-Ok.found.1.now end.number end.nodes end.edges l.invariant.text l.invariant.in_grammar at_end.text at_end.fits
    (λ none. false-eqb _ 0 c.if-not-is_empty.ensures (ap length none)))

pub returns-in-End-clause-report : goal.returns-in-End-clause-report
returns-in-End-clause-report c =
    let l = c.loop-found in let end = c.in-End in
    let at_end = subst (λ (line : ReportLine). BeginsWith report_line_text IsReportLine l.rest.now line c.in-Ok.found.1.now) end.is c.in-Ok.ensures.line in
    rw c.from_vec.ensures (is_report c.args.bytes.now l.replies.items l.rest.now c.in-Ok.found.1.now end.number end.nodes end.edges l.invariant.text l.invariant.in_grammar at_end.text at_end.fits
    (nothing_left c.in-Ok.found.1.now (true-eqb _ 0 c.if-not-is_empty.ensures)))

pub returns-in-End-clause-again : goal.returns-in-End-clause-again
returns-in-End-clause-again c = λ report is.
    let l = c.loop-found in let end = c.in-End in
    let at_end = subst (λ (line : ReportLine). BeginsWith report_line_text IsReportLine l.rest.now line c.in-Ok.found.1.now) end.is c.in-Ok.ensures.line in
    let whole = is_report c.args.bytes.now l.replies.items l.rest.now c.in-Ok.found.1.now end.number end.nodes end.edges l.invariant.text l.invariant.in_grammar at_end.text at_end.fits
    (nothing_left c.in-Ok.found.1.now (true-eqb _ 0 c.if-not-is_empty.ensures)) in
    rw c.from_vec.ensures (report_one_way c.args.bytes.now _ report whole is)

pub loop-found-preserved : goal.loop-found-preserved
loop-found-preserved c =
    let l = c.loop-found in let pushed = c.in_ok-push-in-Reply.ensures.items in
    let at_reply = subst (λ (line : ReportLine). BeginsWith report_line_text IsReportLine l.rest.now line c.in-Ok.found.1.now) c.in-Reply.is c.in-Ok.ensures.line in
    rw pushed (record {
      text = one_more reply_text c.args.bytes.now l.replies.items l.rest.now c.in-Reply.reply c.in-Ok.found.1.now l.invariant.text at_reply.text;
      in_grammar = All-push IsReplyInRange l.replies.items c.in-Reply.reply l.invariant.in_grammar at_reply.fits;
    })
