-- The kind of the element and its number are its words.
use Rattle.std.specs.Prelude.{decimal}
use Rattle.drm_command.specs.Note.{element_words}
use Rattle.drm_command.proofs.NoteLemmas.{joined}
use Rattle.drm_command.proofs.noting.tell_lack.Goals as goal

pub returns : goal.returns
returns g c =
    rw (← joined c.words_of-number.result.0.now (decimal c.words_of-number.result.1) (element_words c.args.element.now) _ c.words_of-number.ensures, ← c.from.ensures)
    c.put.ensures
