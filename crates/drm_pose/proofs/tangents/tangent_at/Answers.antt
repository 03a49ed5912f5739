use Rattle.std.proofs.Common.{rules, ◌≡◌, arith, FitsSigned, w64, to_z-of_z}
use Rattle.std.proofs.lemmas.Int.{ints}
use Rattle.drm_pose.proofs.TangentLemmas.{tangent_small, tangent_from}
use Rattle.drm_pose.proofs.tangents.tangent_at.Goals as goal

pub returns-clause-value : goal.returns-clause-value
returns-clause-value c =
    let start : c.from-start.result ≡ c.args.from = omega (arith, ints) in
    let end : c.from.result ≡ c.args.to = omega (arith, ints) in
    let fits : FitsSigned w64 c.end_of.result = search rules in
    simp to_z-of_z (tangent_from c.end_of.result _ _ _ _ _ c.args.from c.args.to c.args.depth c.args.i c.requires.from_in c.requires.to_in c.requires.depth c.requires.place start end c.power.ensures.value c.from-2.ensures c.power-2.ensures.value c.end_of.ensures)

pub returns-clause-small : goal.returns-clause-small
returns-clause-small c = rw (returns-clause-value c) (tangent_small c.args.from c.args.to c.args.depth c.args.i c.requires.from_in c.requires.to_in c.requires.depth c.requires.place)
