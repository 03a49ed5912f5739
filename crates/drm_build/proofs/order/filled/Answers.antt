-- One more set stands in order.
use Rattle.std.proofs.Common.{arith}
use Rattle.std.proofs.lemmas.List.{length_push}
use Rattle.drm_build.proofs.OrderLemmas.{one_more, right_without}
use Rattle.drm_build.proofs.order.filled.Goals as goal

pub loop-place-preserved : goal.loop-place-preserved
loop-place-preserved c =
    let robot = c.args.robot.now in
    let road = c.args.road.now in
    let before = c.loop-place.invariant in
    let sets = c.loop-place.sets.items in
    let held = c.in_ok-held_or_swept.field-0 in
    let more = length_push sets held in (
      rw c.take-slot.ensures.after (right_without robot road c.loop-place.left.items c.loop-place.place before.0),
      rw c.in_ok-push.ensures.items (omega (arith, more, before.1)),
      rw c.in_ok-push.ensures.items (one_more robot road sets c.loop-place.place held before.1 before.2 c.in_ok-held_or_swept.ensures),
    )
