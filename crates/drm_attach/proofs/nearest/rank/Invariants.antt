-- The nodes from the place on are further.
use Rattle.std.proofs.Common.{ℕ, ◌<◌, ◌≤◌, length, get_or}
use Rattle.drm_attach.specs.Candidates.{gap}
use Rattle.drm_attach.proofs.nearest.rank.Given as goal

abbrev pub invariant-loop-place : goal.invariant-loop-place
invariant-loop-place l = (l.place ≤ length l.nodes) × ((k d : ℕ) → l.place ≤ k → k < length l.nodes → l.far < gap l.road l.at (get_or l.nodes k d))

abbrev pub decreases-loop-place : goal.decreases-loop-place
decreases-loop-place l = l.place
