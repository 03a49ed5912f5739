-- The words of a shape stand behind the slot.
use Rattle.std.proofs.Common.{codes, decimal}
use Rattle.drm_script.specs.Log.{shape_words}
use Rattle.drm_script.proofs.PrintLemmas.{two_printed}
use Rattle.drm_script.proofs.print.print_tick_put.Goals as goal

pub returns : goal.returns
returns c =
    two_printed _ (codes "tick put ") _ _ _ (decimal c.args.number) (decimal c.args.slot) (shape_words c.args.shape.now)
    c.in_ok-write.ensures.bytes c.in_ok-print_shape.ensures c.in_ok-push_str.ensures.bytes
