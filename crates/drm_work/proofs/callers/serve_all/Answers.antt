-- The passes have served all lines, and the replies are gathered.
use Rattle.std.proofs.Common.{List, ◌∙◌, subst}
use Rattle.drm_talk.specs.declared.Line.{Line}
use Rattle.drm_report.specs.Gathering.{AreGathered}
use Rattle.drm_work.specs.Told.{rows_of}
use Rattle.drm_work.proofs.JobLemmas.{have_served, one_each_of}
use Rattle.drm_work.proofs.WholeLemmas.{are_told, callers_told}
use Rattle.drm_work.proofs.callers.serve_all.Goals as goal

pub gathered-requires : goal.gathered-requires
gathered-requires g c =
    let parts = c.in_ok-passes.field-0 in
    let served = have_served (λ job. job.pass) (λ job. job.told) g.L.PlannerName.map c.args.lines.now g.L.Ledger.parts c.into_vec.result.items c.in_ok-jobs.jobs.items (rows_of parts.told.items)
    (c.into_vec.ensures ∙ c.requires.fresh) c.in_ok-jobs.ensures.long c.in_ok-jobs.ensures.each c.in_ok-passes.ensures.told in
    rw c.as_slice.ensures (are_told g.L.PlannerName.map c.args.lines.now (rows_of parts.told.items) _ served.0 (callers_told g.L.Ledger.parts c.args.lines.now (rows_of parts.told.items) served.1 c.requires.known))

pub returns-clause-served : goal.returns-clause-served
returns-clause-served g c =
    let parts = c.in_ok-passes.field-0 in
    let served = have_served (λ job. job.pass) (λ job. job.told) g.L.PlannerName.map c.args.lines.now g.L.Ledger.parts c.into_vec.result.items c.in_ok-jobs.jobs.items (rows_of parts.told.items)
    (c.into_vec.ensures ∙ c.requires.fresh) c.in_ok-jobs.ensures.long c.in_ok-jobs.ensures.each c.in_ok-passes.ensures.told in
    record {
      told = rows_of parts.told.items;
      served = rw (c.from_vec.ensures, c.in_ok-passes.ensures.passes) served.0;
      gathered = subst (λ (lines : List Line). AreGathered lines (rows_of parts.told.items) c.in_ok-replies.replies) c.as_slice.ensures c.in_ok-replies.ensures;
    }

pub returns-clause-one_each : goal.returns-clause-one_each
returns-clause-one_each g c =
    let parts = c.in_ok-passes.field-0 in
    let served = have_served (λ job. job.pass) (λ job. job.told) g.L.PlannerName.map c.args.lines.now g.L.Ledger.parts c.into_vec.result.items c.in_ok-jobs.jobs.items (rows_of parts.told.items)
    (c.into_vec.ensures ∙ c.requires.fresh) c.in_ok-jobs.ensures.long c.in_ok-jobs.ensures.each c.in_ok-passes.ensures.told in
    rw (c.from_vec.ensures, c.in_ok-passes.ensures.passes) (one_each_of g.L.Ledger.parts _ (rows_of parts.told.items) served.0.one_each served.1)
