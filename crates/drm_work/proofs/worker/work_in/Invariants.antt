-- The caller's lines so far are served.
use Rattle.std.proofs.Common.{◌≤◌, length, take}
use Rattle.drm_report.specs.Gathering.{lines_of}
use Rattle.drm_work.specs.Work.{WorksThrough}
use Rattle.drm_work.proofs.worker.work_in.Given as goal

abbrev pub invariant-loop-place : goal.invariant-loop-place
invariant-loop-place g l =
    WorksThrough g.L.PlannerName.map (take l.place l.lines) l.replies.items l.fn.pass l.pass
    × (length (lines_of l.fn.pass.caller l.lines) ≤ l.replies.cap)
