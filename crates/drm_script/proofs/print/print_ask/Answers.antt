-- The words of a line, one list behind the other.
use Rattle.std.proofs.Common.{codes, decimal, flat_map}
use Rattle.drm_script.specs.Log.{signed_words}
use Rattle.drm_script.proofs.PrintLemmas.{lists_printed}
use Rattle.drm_script.proofs.print.print_ask.Goals as goal

pub returns : goal.returns
returns c =
    lists_printed _ _ _ _ _ (decimal c.args.caller) (codes "ask") (flat_map signed_words c.args.start.now) (flat_map signed_words c.args.goal.now)
    c.in_ok-write.ensures.bytes c.in_ok-print_many.ensures c.in_ok-print_many-2.ensures c.in_ok-push_str.ensures.bytes
