-- The ends are in order, since those of the base and of the displacement are.
use Rattle.std.proofs.Common.{rules, sym, FitsSigned, w64, to_z-of_z}
use Rattle.drm_num.proofs.Integers.{along}
use Rattle.drm_pose.proofs.PieceLemmas.{IsOrdered-parts_of}
use Rattle.drm_pose.proofs.parts.Run.interval.Goals as goal

pub of-requires : goal.of-requires
of-requires c =
    let low_fits : FitsSigned w64 c.low_end.result = search rules in
    let high_fits : FitsSigned w64 c.high_end.result = search rules in
    simp to_z-of_z (along (sym c.low_end.ensures.value) (sym c.high_end.ensures) (IsOrdered-parts_of c.args.self.now.from c.args.self.now.shift c.args.self.now.p c.args.self.now.q c.args.self.now.cut.now c.low_end.ensures.some c.low_end.ensures.ordered_from c.low_end.ensures.ordered_shift))
