-- One more line is read; or what is left begins with no line that may stand there.
use Rattle.std.proofs.Common.{arith}
use Rattle.std.proofs.lemmas.List.Elements.{All-push}
use borrow.Author.Tests.{true-eqb, false-eqb}
use Rattle.drm_script.specs.Log.{line_text, IsLogLine}
use Rattle.drm_script.proofs.RowLemmas.{one_more}
use Rattle.drm_script.proofs.LogLemmas.{place_fits, bad_after, good_before, none_there, one_ask_too_many, one_more_ask, some_left, whole_log}
use Rattle.drm_script.proofs.log.good_lines.Goals as goal

pub before_bad-requires : goal.before_bad-requires
before_bad-requires c =
    let l = c.loop-rest in
    let fit = place_fits c.args.joints c.args.bytes.now l.lines.items l.rest.now l.invariant.text l.invariant.in_grammar c.requires (false-eqb _ 0 c.loop-rest-test.ensures) in
    omega (arith, fit)

pub before_bad-requires-then-asks-gt-ASK_LIMIT : goal.before_bad-requires-then-asks-gt-ASK_LIMIT
before_bad-requires-then-asks-gt-ASK_LIMIT c =
    let l = c.loop-rest in
    let fit = place_fits c.args.joints c.args.bytes.now l.lines.items l.rest.now l.invariant.text l.invariant.in_grammar c.requires (false-eqb _ 0 c.loop-rest-test.ensures) in
    omega (arith, fit)

pub returns-in-Err-Bad-clause-lines : goal.returns-in-Err-Bad-clause-lines
returns-in-Err-Bad-clause-lines c =
    let l = c.loop-rest in let i = l.invariant in
    good_before c.args.joints c.args.bytes.now l.lines.items _ _ c.before_bad.ensures.lines c.before_bad.ensures.bad
    (bad_after c.args.joints c.args.bytes.now l.lines.items l.rest.now i.text i.in_grammar (omega (arith, i.asks, i.counted)) c.requires (some_left l.rest.now (false-eqb _ 0 c.loop-rest-test.ensures))
    (none_there c.args.joints l.lines.items l.rest.now (c.in-Err-Bad.ensures.none c.in-Err-Bad.field-0-is)))

pub returns-then-asks-gt-ASK_LIMIT-clause-lines : goal.returns-then-asks-gt-ASK_LIMIT-clause-lines
returns-then-asks-gt-ASK_LIMIT-clause-lines c =
    let l = c.loop-rest in let i = l.invariant in let found = c.in-Ok.ensures.line in
    good_before c.args.joints c.args.bytes.now l.lines.items _ _ c.before_bad-then-asks-gt-ASK_LIMIT.ensures.lines c.before_bad-then-asks-gt-ASK_LIMIT.ensures.bad
    (bad_after c.args.joints c.args.bytes.now l.lines.items l.rest.now i.text i.in_grammar (omega (arith, i.asks, i.counted)) c.requires (some_left l.rest.now (false-eqb _ 0 c.loop-rest-test.ensures))
    (one_ask_too_many c.args.joints l.lines.items l.rest.now c.in-Ok.found.0 c.in-Ok.found.1.now found.fits found.text (omega (arith, i.counted, c.asks_of-asks.ensures, c.if-asks-gt-ASK_LIMIT.true))))

pub loop-rest-preserved : goal.loop-rest-preserved
loop-rest-preserved c =
    let l = c.loop-rest in let i = l.invariant in let found = c.in-Ok.ensures.line in let pushed = c.in_ok-push.ensures.items in
    let line = c.in-Ok.found.0 in let more = one_more_ask l.lines.items line in
    rw pushed (record {
      text = one_more line_text c.args.bytes.now l.lines.items l.rest.now line c.in-Ok.found.1.now i.text found.text;
      in_grammar = All-push (IsLogLine c.args.joints) l.lines.items line i.in_grammar found.fits;
      counted = omega (arith, i.counted, c.asks_of-asks.ensures, more);
      asks = omega (arith, c.if-asks-gt-ASK_LIMIT.false);
    })

pub returns-clause-lines : goal.returns-clause-lines
returns-clause-lines c =
    let l = c.loop-rest in let i = l.invariant in
    rw c.from_vec.ensures (whole_log c.args.joints c.args.bytes.now l.lines.items l.rest.now i.text i.in_grammar (omega (arith, i.asks, i.counted)) c.requires (true-eqb _ 0 c.loop-rest-test.ensures))
