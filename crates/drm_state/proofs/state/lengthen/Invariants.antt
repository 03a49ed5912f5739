-- The table grows by empty slots, and its room stays.
use Rattle.std.proofs.Common.{◌≡◌, ◌+◌, ◌-◌, ℕ, None, length, get_or, vec_capacity}
use Rattle.drm_state.proofs.state.lengthen.Given as goal

abbrev pub invariant-loop-table : goal.invariant-loop-table
invariant-loop-table l =
    ((slot : ℕ) → get_or l.table.items slot None ≡ get_or l.initial.table.items slot None)
    × (vec_capacity l.table ≡ vec_capacity l.initial.table)

abbrev pub decreases-loop-table : goal.decreases-loop-table
decreases-loop-table l = l.place + 1 - length l.table.items
