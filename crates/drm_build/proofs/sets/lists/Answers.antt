-- One more set is listed.
use Rattle.std.proofs.Common.{◌≡◌, [], get_or, sym}
use Rattle.std.proofs.lemmas.List.{get_or_read}
use Rattle.drm_build.proofs.ZipLemmas.{more_lists}
use Rattle.drm_build.proofs.sets.lists.Goals as goal

pub loop-set-preserved : goal.loop-set-preserved
loop-set-preserved c =
    let sets = c.args.sets.now in
    let is : get_or sets c.loop-set.set-index [] ≡ c.set-item.result = sym (get_or_read sets c.loop-set.set-index c.set-item.result c.loop-set-test.true c.set-item.is []) in
    rw c.in_ok-push.ensures.items (more_lists sets c.loop-set.lists.items c.loop-set.set-index c.set-item.result c.in_ok-to_list.field-0 c.loop-set.invariant c.loop-set-test.true is c.in_ok-to_list.ensures)
