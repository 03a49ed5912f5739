-- the replies so far, and what is left
use Rattle.std.proofs.Common.{◌≡◌, ◌++◌, length, flat_map}
use Rattle.std.specs.List.{All}
use Rattle.drm_script.specs.Report.{reply_text, IsReplyInRange}
use Rattle.drm_script.proofs.report.read_report.Given as goal

abbrev pub invariant-loop-found : goal.invariant-loop-found
invariant-loop-found l = record {
  text : l.bytes ≡ flat_map reply_text l.replies.items ++ l.rest;
  in_grammar : All IsReplyInRange l.replies.items;
}

abbrev pub decreases-loop-found : goal.decreases-loop-found
decreases-loop-found l = length l.rest
