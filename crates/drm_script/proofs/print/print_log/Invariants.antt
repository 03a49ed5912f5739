-- the lines so far
use Rattle.std.proofs.Common.{◌≡◌, take, flat_map, string_bytes}
use Rattle.drm_script.specs.Log.{line_text}
use Rattle.drm_script.proofs.print.print_log.Given as goal

abbrev pub invariant-loop-line : goal.invariant-loop-line
invariant-loop-line l = string_bytes l.text ≡ flat_map line_text (take l.line-index l.lines)
