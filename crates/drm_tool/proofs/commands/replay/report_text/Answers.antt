-- The lines can be served, and the text spells the report.
use Rattle.std.proofs.Common.{◌≡◌, ℕ, List, length, IfOk, Ok, Err, Result, Vec}
use Rattle.std.specs.declared.alloc.Global.{Global}
use Rattle.drm_talk.specs.declared.Line.{Line}
use Rattle.drm_talk.specs.declared.Report.{Report}
use Rattle.drm_cellmap.specs.Roadmap.{Roadmap}
use Rattle.drm_command.specs.declared.command.Form.{Form}
use Rattle.drm_tool.specs.Replayed.{IsReplayed}
use Rattle.drm_tool.specs.Headline.{IsReportText, text_in}
use Rattle.drm_tool.proofs.ReplayedLemmas.{servable, have_callers, replayed_over}
use Rattle.drm_tool.proofs.commands.replay.report_text.Goals as goal

pub replay-requires-clause-callers : goal.replay-requires-clause-callers
replay-requires-clause-callers g c κs lives = have_callers (length c.args.map.arm) c.args.lines c.requires.in_grammar

pub replay-requires-clause-lines : goal.replay-requires-clause-lines
replay-requires-clause-lines g c κs lives = servable c.args.map c.args.lines c.requires.served c.requires.in_grammar

spelled : {E : Type 0} (r : Result (Vec ℕ Global) E) (map : Roadmap) (form : Form) (lines : List Line) (report : Report) → IsReplayed map lines report → IfOk r (λ text. text.items ≡ text_in form report) → IfOk r (λ text. IsReportText map form lines text.items)
spelled (Ok text) map form lines report replayed is = record { report = report; replayed = replayed; spelled = is }
spelled (Err e) map form lines report replayed is = tt

pub returns : goal.returns
returns g c =
    let replayed = c.in_ok-replayed.replayed in
    spelled _ c.args.map c.args.form c.args.lines replayed.report
    (replayed_over c.passed_maps_are_never_unsound.ensures c.one_caller_is_exact.ensures c.args.map c.args.lines replayed.report replayed.close.journal
    c.in_ok-replayed.ensures.report c.in_ok-replayed.ensures.plans c.in_ok-replayed.ensures.truthful)
    c.print.ensures
