-- One more set is counted.
use Rattle.std.proofs.Common.{◌≡◌, ◌≤◌, [], length, get_or, sym, arith}
use Rattle.std.proofs.lemmas.List.{get_or_read}
use Rattle.drm_build.proofs.ZipLemmas.{more_entries, short_list}
use Rattle.drm_build.proofs.sets.entries.Goals as goal

is_item : (c : goal.After-cells-total) → get_or c.args.sets.now c.loop-set.set-index [] ≡ c.set-item.result
is_item c = sym (get_or_read c.args.sets.now c.loop-set.set-index c.set-item.result c.loop-set-test.true c.set-item.is [])

few_cells : (c : goal.After-cells-total) → c.cells-total.result ≤ 65536
few_cells c =
    let small : length c.set-item.result ≤ 65536 = rw (is_item c) at (c.requires.small c.loop-set.set-index [] c.loop-set-test.true) in
    let (cells, are, size) = c.cells-total.ensures in
    rw size (short_list c.set-item.result cells small are)

pub overflow_add-total : goal.overflow_add-total
overflow_add-total c =
    let few = few_cells c in
    let so_far = c.loop-set.invariant.0 in
    let below = c.loop-set-test.true in
    let all = c.requires.few in
    omega arith

pub loop-set-preserved : goal.loop-set-preserved
loop-set-preserved c =
    let (cells, are, size) = c.cells-total.ensures in
    let few = few_cells c in
    let so_far = c.loop-set.invariant.0 in
    let more = more_entries c.args.sets.now c.loop-set.total c.loop-set.set-index c.set-item.result cells c.loop-set.invariant.1 c.loop-set-test.true (is_item c) are in
    (omega arith, rw size more)
