use Rattle.std.proofs.Common.{◌≤◌, length}
use Rattle.drm_arm.specs.Arm.{no_link}
use Rattle.drm_arm.proofs.ArmLemmas.{is_arm}
use Rattle.drm_arm.proofs.StoreLemmas.{stored, taken}
use Rattle.drm_arm.proofs.arm.Arm.stored.Goals as goal

pub invariant_of-result : goal.invariant_of-result
invariant_of-result c =
    let same = c.copy_from_slice.ensures.after in
    let few : length c.args.links.now ≤ 6 = (is_arm c.args.links.now c.requires).few in
    (stored no_link c.args.links.now c.copy_from_slice.new.self same few, rw (taken no_link c.args.links.now c.copy_from_slice.new.self same) (is_arm c.args.links.now c.requires))
