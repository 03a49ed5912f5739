-- The line before those that have replies gets its own.
use Rattle.std.proofs.Common.{arith}
use Rattle.drm_work.specs.Told.{rows_of}
use Rattle.drm_work.proofs.GatherLemmas.{one_is_left, one_more_done, all_done}
use Rattle.drm_work.proofs.gather.gather.Goals as goal

pub last_of-reply-requires-clause-some : goal.last_of-reply-requires-clause-some
last_of-reply-requires-clause-some c =
    let state = c.loop-place.invariant in
    one_is_left c.args.lines.now (rows_of c.args.told.items) (rows_of c.loop-place.left.items) c.loop-place.replies.items c.loop-place.place _
    c.requires state.0 c.loop-place-test.true state.1

pub loop-place-preserved : goal.loop-place-preserved
loop-place-preserved c =
    let state = c.loop-place.invariant in
    let last = c.last_of-reply.ensures.last in
    let done = one_more_done c.args.lines.now (rows_of c.args.told.items) (rows_of c.loop-place.left.items) (rows_of c.last_of-reply.new.left.items) c.loop-place.replies.items c.last_of-reply.result last.0 c.loop-place.place _
    state.0 c.loop-place-test.true state.1 last.1 c.last_of-reply.ensures.long last.2 c.last_of-reply.ensures.others in
    (rw c.push_reserved.ensures.items done, omega (arith, state.1), omega (arith, state.2, c.push_reserved.ensures.capacity))

pub returns : goal.returns
returns c =
    let state = c.loop-place.invariant in
    let done = all_done c.args.lines.now (rows_of c.args.told.items) (rows_of c.loop-place.left.items) c.loop-place.replies.items c.loop-place.place c.requires state.0 (omega (arith, c.loop-place-test.false)) in
    rw (c.from_vec.ensures, c.reverse.ensures.items) done
