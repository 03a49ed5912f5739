-- The links that were read are an arm.
use Rattle.std.proofs.Common.{arith, ◌∙◌}
use Rattle.drm_mapfile.proofs.FieldLaws.{byte_rest}
use Rattle.drm_mapfile.proofs.ArmLaws.{links_take}
use Rattle.drm_mapfile.proofs.arm.take_arm.Goals as goal

pub unreachable-requires : goal.unreachable-requires
unreachable-requires c =
    let bytes = byte_rest c.args.total c.args.bytes.now c.in_ok-count.count c.in_ok-count.rest.now (λ i. omega (arith, c.type_inv.bytes i)) c.in_ok-count.ensures in
    let is_arm = (links_take c.args.total c.in_ok-count.count c.in_ok-count.rest.now c.in_ok-links.links.items c.in_ok-links.rest.now bytes (omega arith) (omega arith) c.in_ok-links.ensures).1 in
    let none = c.in-Err.ensures.valid.1 (rw c.deref.ensures.value is_arm) in
    let told = c.in-Err.ensures.fault ∙ none in
    cc
