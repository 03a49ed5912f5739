use Rattle.std.proofs.Common.{pos, arith}
use Rattle.std.proofs.lemmas.Int.{ints}
use Rattle.drm_pose.proofs.WidthLemmas.{IsPlateWithin-wider, IsPlateWithin-scaled}
use Rattle.drm_pose.proofs.boxes.LinkBox.next.Goals as goal

pub moved-tip-requires-clause-from : goal.moved-tip-requires-clause-from
moved-tip-requires-clause-from c = IsPlateWithin-wider (omega (arith, ints)) c.requires.base

pub moved-tip-requires-clause-by : goal.moved-tip-requires-clause-by
moved-tip-requires-clause-by c = rw c.scaled-shift.ensures (IsPlateWithin-wider (omega (arith, ints)) (IsPlateWithin-scaled (pos c.args.len) (omega (arith, ints)) c.turned-direction.ensures.within))

pub returns-clause-shift : goal.returns-clause-shift
returns-clause-shift c = rw c.scaled-shift.ensures (IsPlateWithin-scaled (pos c.args.len) (omega (arith, ints)) c.turned-direction.ensures.within)
