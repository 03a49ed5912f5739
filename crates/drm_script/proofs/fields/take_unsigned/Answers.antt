-- A number below the limit fits.
use Rattle.std.proofs.Common.{arith}
use Rattle.drm_script.specs.Limits.{number_limit}
use Rattle.drm_script.proofs.FieldLemmas.{unsigned_takes}
use Rattle.drm_script.proofs.fields.take_unsigned.Goals as goal

pub overflow_cast-result : goal.overflow_cast-result
overflow_cast-result c =
    let h = unsigned_takes number_limit c.args.words.now.words c.in_ok-number.number _ c.in_ok-number.ensures.number in
    record { fits = omega (arith, h.1) }
