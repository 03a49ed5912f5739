-- The first line that is refused is the first of the lines found that is not served, or the bad one behind them.
use Rattle.std.proofs.Common.{List, subst}
use Rattle.drm_talk.specs.declared.Line.{Line}
use Rattle.drm_tool.specs.Served.{IsFirstUnserved}
use Rattle.drm_tool.proofs.RefusedLemmas.{few_lines, read_few, unserved_refused}
use Rattle.drm_tool.proofs.commands.replay.lines_of.Goals as goal

pub first_unserved-requires : goal.first_unserved-requires
first_unserved-requires c = rw c.as_slice.ensures (few_lines c.args.joints c.args.bytes.now _ _ c.in-Ok.ensures.lines)

pub returns-in-Some-clause-stop : goal.returns-in-Some-clause-stop
returns-in-Some-clause-stop c =
    let few = read_few c.read_good_lines.result _ _ c.args.bytes.now c.in-Ok.is c.read_good_lines.ensures.first in
    let first = subst (λ (lines : List Line). IsFirstUnserved lines c.in-Some.line) c.as_slice.ensures c.in-Some.ensures in
    unserved_refused c.logs_read_one_way.ensures c.args.joints c.args.bytes.now _ _ c.in-Some.line few c.in-Ok.ensures.lines first
