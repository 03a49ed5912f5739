-- The arm stretches no farther than the grid, and a reached point is no farther than that.
use Rattle.std.proofs.Common.{◌+◌, ◌*◌, ◌/◌, ◌≤◌, subst, arith}
use Rattle.std.proofs.lemmas.Option.{slice_get_within, get_or_from_slice_get}
use Rattle.std.proofs.lemmas.List.Elements.{All-get_or}
use Rattle.drm_arm.specs.declared.arm.Link.{Link}
use Rattle.drm_arm.specs.Arm.{reach_of}
use Rattle.drm_sweep.proofs.laws.reached_points_are_in_cells.Goals as goal

pub returns : goal.returns
returns c = λ grid links motion m q is_grid fits reached.
    let k = reached.k in
    let link = reached.link in
    let most = grid.side * (grid.n / 2) in
    let at = All-get_or (λ link. reach_of links + link.radius ≤ most) links k link (slice_get_within links k link reached.is_link) fits in
    let within = subst (λ (link : Link). reach_of links + link.radius ≤ most) (get_or_from_slice_get links k link link reached.is_link) at in
    c.points_within_are_in_cells.ensures grid (reach_of links + link.radius + 0) q.x q.y q.d is_grid (omega arith) reached.proper (c.reached_is_within.ensures links motion m 0 q reached)
