-- Each hand finds what is right.
use Rattle.std.specs.List.{range_with_len}
use Rattle.drm_build.proofs.ZipLemmas.{at_ok}
use Rattle.drm_build.proofs.OrderLemmas.{all_hands}
use Rattle.drm_build.proofs.hands.found_by_hands.Goals as goal

pub returns : goal.returns
returns g c =
    let ends = c.into_par_iter.ensures in
    let made = c.in_ok-collect.ensures in
    let chain = rw (c.map.ensures.base, c.map.ensures.f, c.with_min_len.ensures.base, ends.0, ends.1) at made.1 in
    let turns = chain.1 in
    at_ok c.in_ok-collect.field-0 _ _ _ made.2 (λ hands (values, are, items).
    rw items (all_hands c.args.robot.now c.args.road.now (range_with_len 0 64) values (rw (turns, are) at chain.2)))
