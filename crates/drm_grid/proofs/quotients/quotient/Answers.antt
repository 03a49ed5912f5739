-- The product with the reciprocal of a number gives the quotient by the number.
use Rattle.std.proofs.Common.{◌^◌, ◌*◌, ◌<◌, ◌≤◌, arith}
use Rattle.std.proofs.Math.Nat.{mul-le-mul_left}
use Rattle.drm_num.proofs.Reciprocals.{quotient_by_reciprocal}
use Rattle.drm_grid.proofs.quotients.quotient.Goals as goal

pub returns : goal.returns
returns c n few reciprocal =
    let most : c.args.z * n ≤ c.args.z * 1024 = mul-le-mul_left c.args.z few in
    let small : c.args.z * n < 2 ^ 40 = omega (arith, c.requires.z) in
    quotient_by_reciprocal (2 ^ 40) c.args.z n c.args.reciprocal small reciprocal
