-- The caller's lines so far are counted.
use Rattle.std.proofs.Common.{◌≡◌, ◌≤◌, length, take}
use Rattle.drm_report.specs.Gathering.{lines_of}
use Rattle.drm_work.proofs.worker.number_of.Given as goal

abbrev pub invariant-loop-line : goal.invariant-loop-line
invariant-loop-line l = (l.number ≡ length (lines_of l.caller (take l.line-index l.lines))) × (l.number ≤ l.line-index)
