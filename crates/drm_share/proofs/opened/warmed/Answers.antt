-- Neither update is taken.
use Rattle.std.proofs.Common.{[], sym, subst}
use Rattle.drm_share.specs.declared.shown.Shown.{Shown}
use Rattle.drm_share.specs.Published.{Shows}
use Rattle.drm_share.proofs.DeskLemmas.{idle}
use Rattle.drm_share.proofs.opened.warmed.Goals as goal

pub try_show-requires-2-clause-follows : goal.try_show-requires-2-clause-follows
try_show-requires-2-clause-follows g c =
    let book = c.args.origin.now in
    let map = c.args.writer.desk.shown.value.state.map in
    let once = subst (λ (x : Shown). Shows book map [] x) (sym c.in_ok-writer.ensures.value)
    (idle book map c.args.writer.desk.shown.value c.idle.result c.requires.shows c.idle.ensures.slot c.idle.ensures.book c.idle.ensures.log).1 in
    (idle book map c.in_ok-writer.writer.desk.shown.value c.idle-2.result once c.idle-2.ensures.slot c.idle-2.ensures.book c.idle-2.ensures.log).0

pub returns-clause-shows : goal.returns-clause-shows
returns-clause-shows g c =
    let book = c.args.origin.now in
    let map = c.args.writer.desk.shown.value.state.map in
    let once = subst (λ (x : Shown). Shows book map [] x) (sym c.in_ok-writer.ensures.value)
    (idle book map c.args.writer.desk.shown.value c.idle.result c.requires.shows c.idle.ensures.slot c.idle.ensures.book c.idle.ensures.log).1 in
    subst (λ (x : Shown). Shows book map [] x) (sym c.in_ok-writer-2.ensures.value)
    (idle book map c.in_ok-writer.writer.desk.shown.value c.idle-2.result once c.idle-2.ensures.slot c.idle-2.ensures.book c.idle-2.ensures.log).1
