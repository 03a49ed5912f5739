-- What all workers did, over the history of the close.
use Rattle.std.proofs.Common.{subst}
use Rattle.drm_cellmap.specs.Roadmap.{IsRoadmap}
use Rattle.drm_work.proofs.WholeLemmas.{replay_of}
use Rattle.drm_work.proofs.callers.finish.Goals as goal

pub returns-in-Ok : goal.returns-in-Ok
returns-in-Ok g c lines served =
    replay_of c.gathered_replies_are_right.ensures c.gathered_answers_are_planned.ensures c.planned_answers_are_truthful.ensures
    g.L.PlannerName.map lines c.args.served.passes c.args.served.replies c.in-Ok.close c.with_end.result.close c.with_end.result.report
    (subst IsRoadmap c.map.ensures c.grid.ensures.limits) served c.in-Ok.ensures.closed c.in-Ok.ensures.last
    c.with_end.ensures.replies c.with_end.ensures.close c.with_end.ensures.number c.with_end.ensures.totals
