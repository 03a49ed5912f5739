-- Bytes are one log at most.
use Rattle.std.proofs.Common.{ℕ, Option, subst}
use Rattle.drm_script.specs.Log.{AreGoodLines}
use Rattle.drm_script.proofs.LogLemmas.{log_one_way}
use Rattle.drm_script.proofs.log.read_log.Goals as goal

pub returns-in-None-clause-again : goal.returns-in-None-clause-again
returns-in-None-clause-again c = λ lines is.
    let found = c.in-Ok.found in
    let log = subst (λ (bad : Option ℕ). AreGoodLines c.args.joints c.args.bytes.now found.lines bad) c.in-None.is c.in-Ok.ensures.lines in
    log_one_way c.args.joints c.args.bytes.now found.lines lines log is
