-- The caller's last reply is taken off, and the others' stay.
use Rattle.std.proofs.Common.{List, Some, ◌∙◌, ap}
use Rattle.drm_talk.specs.declared.Reply.{Reply as Told}
use Rattle.drm_work.proofs.ShareLemmas.{row_set, row_other, row_at}
use Rattle.drm_work.proofs.gather.last_of.Goals as goal

pub returns-clause-last : goal.returns-clause-last
returns-clause-last c =
    let row = row_at (λ row. row.items) c.args.left.now.items c.args.caller c.index_mut.result.now c.requires.there c.index_mut.ensures.value in
    (c.pop.new.self.items, row ∙ ap (λ (mine : List Told). Some mine) c.in-Some.ensures.items, row_set (λ row. row.items) c.args.left.now.items c.args.caller c.pop.new.self c.requires.there)

pub returns-clause-others : goal.returns-clause-others
returns-clause-others c other apart = row_other (λ row. row.items) c.args.left.now.items c.args.caller other c.pop.new.self apart
