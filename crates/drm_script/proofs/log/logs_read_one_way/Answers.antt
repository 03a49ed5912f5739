use Rattle.drm_script.proofs.LogLemmas.{log_one_way}
use Rattle.drm_script.proofs.log.logs_read_one_way.Goals as goal

pub returns : goal.returns
returns c = log_one_way
