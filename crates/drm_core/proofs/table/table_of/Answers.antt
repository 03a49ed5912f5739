-- One more entry was written into the table.
use Rattle.std.proofs.Common.{◌≡◌, ◌∙◌, get_or, None}
use Rattle.drm_num.proofs.Lists.{any_default}
use Rattle.drm_talk.specs.declared.Entry.{Entry}
use Rattle.drm_core.proofs.TableLemmas.{next_entry}
use Rattle.drm_core.proofs.table.table_of.Goals as goal

pub loop-entry-preserved : goal.loop-entry-preserved
loop-entry-preserved c =
    let zero : Entry = record { caller = 0; seq = 0; slot = 0; shape = None } in
    let here : c.entry-item.result ≡ get_or c.args.entries.now c.loop-entry.entry-index zero = c.entry-item.is ∙ any_default c.args.entries.now c.loop-entry.entry-index c.entry-item.result zero c.loop-entry-test.true in
    rw here (next_entry c.args.entries.now c.loop-entry.entry-index c.loop-entry.table.items zero c.loop-entry-test.true c.loop-entry.invariant
    (c.requires.slots c.loop-entry.entry-index zero c.loop-entry-test.true)
    (c.requires.shapes c.loop-entry.entry-index zero c.loop-entry-test.true))
