-- the lines of the replies so far
use Rattle.std.proofs.Common.{◌≡◌, take, flat_map, string_bytes}
use Rattle.drm_script.specs.Report.{brief_reply_text}
use Rattle.drm_script.proofs.print.print_brief.Given as goal

abbrev pub invariant-loop-reply : goal.invariant-loop-reply
invariant-loop-reply l = string_bytes l.text ≡ flat_map brief_reply_text (take l.reply-index l.reply-items)
