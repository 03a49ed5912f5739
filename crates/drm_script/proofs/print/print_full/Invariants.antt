-- the lines of the replies so far
use Rattle.std.proofs.Common.{◌≡◌, take, flat_map, string_bytes}
use Rattle.drm_script.specs.Report.{reply_text}
use Rattle.drm_script.proofs.print.print_full.Given as goal

abbrev pub invariant-loop-reply : goal.invariant-loop-reply
invariant-loop-reply l = string_bytes l.text ≡ flat_map reply_text (take l.reply-index l.reply-items)
