-- For a box or a disc the point that is given is the point that is shared; a ring has no side that separates it from the cell.
use Rattle.drm_foot.proofs.FootLemmas.{held_points}
use Rattle.drm_foot.proofs.footprint.holds_are_in_foot.Goals as goal

pub returns : goal.returns
returns c = held_points
