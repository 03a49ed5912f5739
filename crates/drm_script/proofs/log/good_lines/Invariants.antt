-- the lines so far, and what is left
use Rattle.std.proofs.Common.{◌≡◌, ◌++◌, ◌≤◌, length, flat_map}
use Rattle.std.specs.List.{All}
use Rattle.drm_script.specs.Log.{line_text, IsLogLine, asks_in}
use Rattle.drm_script.specs.Limits.{ask_limit}
use Rattle.drm_script.proofs.log.good_lines.Given as goal

abbrev pub invariant-loop-rest : goal.invariant-loop-rest
invariant-loop-rest l = record {
  text : l.bytes ≡ flat_map line_text l.lines.items ++ l.rest;
  in_grammar : All (IsLogLine l.joints) l.lines.items;
  counted : l.asks ≡ asks_in l.lines.items;
  asks : l.asks ≤ ask_limit;
}

abbrev pub decreases-loop-rest : goal.decreases-loop-rest
decreases-loop-rest l = length l.rest
