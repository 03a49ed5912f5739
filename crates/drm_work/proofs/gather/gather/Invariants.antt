-- The lines from this place on have replies.
use Rattle.std.proofs.Common.{◌≤◌, length}
use Rattle.drm_work.specs.Told.{rows_of}
use Rattle.drm_work.proofs.GatherLemmas.{AreDone}
use Rattle.drm_work.proofs.gather.gather.Given as goal

abbrev pub invariant-loop-place : goal.invariant-loop-place
invariant-loop-place l =
    AreDone l.lines (rows_of l.fn.told.items) (rows_of l.left.items) l.replies.items l.place
    × (l.place ≤ length l.lines) × (length l.lines ≤ l.replies.cap)

abbrev pub decreases-loop-place : goal.decreases-loop-place
decreases-loop-place l = l.place
