-- The jobs that are not left were taken apart, the last one first.
use Rattle.std.proofs.Common.{◌≡◌, ◌+◌, ◌≤◌, ◌++◌, length, map, reverse}
use Rattle.std.specs.Prelude.{Ok}
use Rattle.drm_work.specs.Told.{rows_of}
use Rattle.drm_work.proofs.callers.parted.Given as goal

abbrev pub invariant-loop-job : goal.invariant-loop-job
invariant-loop-job g l =
    (map (λ job. job.pass) l.fn.jobs.items ≡ map (λ job. job.pass) l.left.items ++ reverse l.passes.items)
    × (map (λ job. job.told) l.fn.jobs.items ≡ map (λ job. job.told) l.left.items ++ map (λ row. Ok row) (rows_of (reverse l.told.items)))
    × (length l.left.items + length l.passes.items ≤ l.passes.cap)
    × (length l.left.items + length l.told.items ≤ l.told.cap)

abbrev pub decreases-loop-job : goal.decreases-loop-job
decreases-loop-job g l = length l.left.items
