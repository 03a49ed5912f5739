-- Each turn adds the tangent of one joint.
use Rattle.std.proofs.Common.{rules, ◌≡◌, ◌<◌, ℕ, ℤ, List, length, take, ap, sym, ◌∙◌, arith, FitsSigned, w32, w64, to_z-of_z}
use Rattle.std.proofs.lemmas.List.{take_all}
use Rattle.drm_pose.specs.Boxes.{tangent_at, tangents_at}
use Rattle.drm_pose.proofs.EndLemmas.{one_more_end, length-tangents}
use Rattle.drm_pose.proofs.LimitLemmas.{coordinate_small}
use Rattle.drm_pose.proofs.ends.Ends.at.Goals as goal

pub tangent_at-tangent-requires-clause-from_in : goal.tangent_at-tangent-requires-clause-from_in
tangent_at-tangent-requires-clause-from_in c =
    let fits : FitsSigned w32 c.at.result = search rules in
    simp to_z-of_z (coordinate_small c.args.arm.now c.args.motion.now.from c.loop-k.k c.at.result c.links-count.ensures.limits c.requires.motion.from c.at.ensures)

pub tangent_at-tangent-requires-clause-to_in : goal.tangent_at-tangent-requires-clause-to_in
tangent_at-tangent-requires-clause-to_in c =
    let fits : FitsSigned w32 c.at-in-loop-k.result = search rules in
    simp to_z-of_z (coordinate_small c.args.arm.now c.args.motion.now.to c.loop-k.k c.at-in-loop-k.result c.links-count.ensures.limits c.requires.motion.to c.at-in-loop-k.ensures)

pub loop-k-preserved : goal.loop-k-preserved
loop-k-preserved c =
    let from_fits : FitsSigned w32 c.at.result = search rules in
    let to_fits : FitsSigned w32 c.at-in-loop-k.result = search rules in
    let tangent_fits : FitsSigned w64 c.tangent_at-tangent.result = record { sfits = c.tangent_at-tangent.type_inv } in
    let tangent : c.tangent_at-tangent.result ≡ tangent_at c.at.result c.at-in-loop-k.result c.args.depth c.args.place = simp to_z-of_z at c.tangent_at-tangent.ensures.value in
    let room : c.loop-k.k < length c.loop-k.joints = search rules in
    one_more_end c.args.motion.now.from c.args.motion.now.to c.args.depth c.args.place c.loop-k.k c.loop-k.joints c.at.result c.at-in-loop-k.result c.at-in-loop-k-2.result c.loop-k.invariant c.at.ensures c.at-in-loop-k.ensures room (c.at-in-loop-k-2.ensures ∙ to_z-of_z tangent_fits ∙ tangent)

pub returns-clause-value : goal.returns-clause-value
returns-clause-value c =
    let last : c.loop-k.k ≡ c.links-count.result = omega arith in
    let all : length (tangents_at c.args.motion.now c.args.depth c.args.place) ≡ length c.args.arm.now =
    length-tangents c.args.motion.now.from c.args.motion.now.to c.args.depth c.args.place (length c.args.arm.now) (sym c.requires.motion.from.counted) (sym c.requires.motion.to.counted) in
    ap (λ (n : ℕ). take n c.loop-k.joints) (sym last) ∙ c.loop-k.invariant ∙ take_all c.loop-k.k (tangents_at c.args.motion.now c.args.depth c.args.place) (omega (arith, c.links-count.ensures.count))

pub returns-clause-each : goal.returns-clause-each
returns-clause-each c =
    ap (λ (xs : List ℤ). length xs) (returns-clause-value c)
    ∙ length-tangents c.args.motion.now.from c.args.motion.now.to c.args.depth c.args.place (length c.args.arm.now) (sym c.requires.motion.from.counted) (sym c.requires.motion.to.counted)
