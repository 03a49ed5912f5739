-- The table becomes, by the rest of the entries, what the slots hold.
use Rattle.drm_core.proofs.TableLemmas.{IsOnTheWay}
use Rattle.drm_core.proofs.table.table_of.Given as goal

abbrev pub invariant-loop-entry : goal.invariant-loop-entry
invariant-loop-entry l = IsOnTheWay l.entries l.entry-index l.table.items
