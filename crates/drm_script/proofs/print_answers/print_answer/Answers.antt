-- The words of an answer stand behind the number.
use Rattle.std.proofs.Common.{codes, decimal}
use Rattle.drm_script.specs.Report.{answer_words}
use Rattle.drm_script.proofs.PrintLemmas.{line_printed}
use Rattle.drm_script.proofs.print_answers.print_answer.Goals as goal

pub returns : goal.returns
returns c =
    line_printed _ (codes "ask ") _ _ _ (decimal c.args.number) (answer_words c.args.answer.now)
    c.in_ok-write.ensures.bytes c.in_ok-print_words.ensures c.in_ok-push_str.ensures.bytes
