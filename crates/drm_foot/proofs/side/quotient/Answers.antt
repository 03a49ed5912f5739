-- The Euclidean quotient by a number above 0 is the one rounded down.
use Rattle.std.proofs.Common.{FitsSigned, w64, to_z-of_z}
use Rattle.drm_num.proofs.Rounding.{IsFloor-floor}
use Rattle.drm_foot.proofs.side.quotient.Goals as goal

pub returns-clause-floor : goal.returns-clause-floor
returns-clause-floor c =
    let n_fits : FitsSigned w64 c.args.n = c.ranges.n in
    let d_fits : FitsSigned w64 c.args.d = c.ranges.d in
    let fits : FitsSigned w64 c.div_euclid.result = record { sfits = c.div_euclid.type_inv } in
    let is = simp to_z-of_z at c.div_euclid.ensures in
    rw (to_z-of_z fits, is) (IsFloor-floor c.args.n c.args.d c.requires.d)
