-- What stands behind the first line feed is behind the line.
use Rattle.std.proofs.Common.{sym}
use Rattle.drm_script.proofs.WordLemmas.{no_feed, first_feed}
use Rattle.drm_script.proofs.words.behind_first_line.Goals as goal

pub returns-in_default : goal.returns-in_default
returns-in_default c = sym (no_feed c.args.bytes.now c.in_default.ensures)

pub returns : goal.returns
returns c = let h = c.in-Some.ensures in first_feed c.args.bytes.now _ _ h.0 h.1
