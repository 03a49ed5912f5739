-- A line has a word, though it may be empty.
use Rattle.drm_script.proofs.WordLemmas.{none_left}
use Rattle.drm_script.proofs.words.Words.is_empty.Goals as goal

pub returns : goal.returns
returns c = none_left c.bytes.result (λ bytes. bytes.now) c.is_none.result c.args.self.now c.bytes.ensures c.is_none.ensures
