-- The entries before the new one keep what stood before them.
use Rattle.drm_talk.proofs.HistoryLemmas.{legal-push}
use Rattle.drm_talk.proofs.legal_histories_go_on.Goals as goal

pub returns : goal.returns
returns c = legal-push
