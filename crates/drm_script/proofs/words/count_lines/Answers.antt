-- One more byte is a line feed or none.
use Rattle.std.proofs.Common.{eqb, get_or, take, ◌+◌, ap, sym, ◌∙◌, eq-eqb}
use Rattle.std.proofs.lemmas.List.{take_more}
use Rattle.std.proofs.lemmas.List.Sums.{count_by_more_yes, count_by_more_no}
use Rattle.drm_script.specs.Words.{is_open}
use Rattle.drm_script.proofs.CountLemmas.{open_push}
use Rattle.drm_script.proofs.TestLemmas.{false_from_ne}
use Rattle.drm_script.proofs.words.count_lines.Goals as goal
use Rattle.drm_script.proofs.words.count_lines.Goals.{then-not-open, else-not-open}

pub loop-byte-preserved : goal.loop-byte-preserved
loop-byte-preserved c =
    let l = c.loop-byte in let bytes = c.args.bytes.now in
    record {
      count = elim c.if-not-open.branch [
        | then-not-open w ↦ w.count-is ∙ ap (λ n. n + 1) l.invariant.count ∙ sym (count_by_more_yes (λ b. eqb b 10) bytes l.byte-index 0 c.loop-byte-test.true (eq-eqb _ 10 w.if-not-open.true))
        | else-not-open w ↦ w.count-is ∙ l.invariant.count ∙ sym (count_by_more_no (λ b. eqb b 10) bytes l.byte-index 0 c.loop-byte-test.true (false_from_ne _ 10 w.if-not-open.false))
      ];
      left_open = sym (ap is_open (take_more bytes l.byte-index 0 c.loop-byte-test.true) ∙ open_push (take l.byte-index bytes) (get_or bytes l.byte-index 0));
    }
