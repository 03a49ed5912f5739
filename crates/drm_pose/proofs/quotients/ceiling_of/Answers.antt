-- The opposite of the floor of the opposite is the ceiling.
use Rattle.std.proofs.Common.{◌^◌, pos, arith}
use Rattle.std.proofs.lemmas.Int.{ints}
use Rattle.drm_num.specs.Small.{IsSmall}
use Rattle.drm_num.proofs.SmallLemmas.{IsSmall-ceiling}
use Rattle.drm_pose.proofs.PieceLemmas.{ceiling_from}
use Rattle.drm_pose.proofs.quotients.ceiling_of.Goals as goal

pub returns-clause-value : goal.returns-clause-value
returns-clause-value c =
    let small : IsSmall (pos (2 ^ 51)) c.args.z = record { low = omega (arith, ints); high = omega (arith, ints) } in
    ceiling_from c.floor_of.result c.args.z (pos c.args.cut.now) small c.floor_of.ensures.small c.floor_of.ensures.value

pub returns-clause-small : goal.returns-clause-small
returns-clause-small c =
    rw (returns-clause-value c) (IsSmall-ceiling (pos (2 ^ 42)) c.args.z (pos c.args.cut.now) (omega (arith, ints, c.floor_of.ensures.some)) c.requires.small)
