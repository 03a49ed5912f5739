-- The rules before the one that is broken are kept.
use Rattle.std.proofs.Common.{rules, ◌≡◌, ◌≤◌, length, sym, ◌∙◌, arith}
use Rattle.drm_grid.specs.Fits.{Fits}
use Rattle.drm_cellmap.specs.Limits.{max_entries}
use Rattle.drm_road.specs.Elements.{element_count}
use Rattle.drm_cellmap.specs.Roadmap.{Roadmap, entries_of}
use Rattle.drm_cellmap.proofs.MapLemmas.{past_fit, at_node, past_nodes, at_count, past_count, at_order, past_order, at_total, past_total, short_rows}
use Rattle.drm_cellmap.proofs.SweepLemmas.{cell_count_limit}
use Rattle.drm_cellmap.proofs.rules.first_fault.Goals as goal

pub returns-in-Some-clause-first : goal.returns-in-Some-clause-first
returns-in-Some-clause-first c =
    let m : Roadmap = record { arm = c.args.arm.now; grid = c.args.grid.now; road = c.args.road.now; sweeps = c.args.sweeps.now } in
    let stays : Fits m.grid m.arm = c.fits.ensures.0 (search rules) in
    sym (past_fit m stays ∙ at_node m c.in-Some.i (sym c.in-Some.ensures.first))

pub returns-then-sweeps-from-clause-first : goal.returns-then-sweeps-from-clause-first
returns-then-sweeps-from-clause-first c =
    let m : Roadmap = record { arm = c.args.arm.now; grid = c.args.grid.now; road = c.args.road.now; sweeps = c.args.sweeps.now } in
    let stays : Fits m.grid m.arm = c.fits.ensures.0 (search rules) in
    sym (past_fit m stays ∙ (past_nodes m (sym c.in_default.ensures.first) ∙ at_count m (λ same. search rules)))

pub returns-in-Some-first_bad_sweep-clause-first : goal.returns-in-Some-first_bad_sweep-clause-first
returns-in-Some-first_bad_sweep-clause-first c =
    let m : Roadmap = record { arm = c.args.arm.now; grid = c.args.grid.now; road = c.args.road.now; sweeps = c.args.sweeps.now } in
    let stays : Fits m.grid m.arm = c.fits.ensures.0 (search rules) in
    let same : length m.sweeps ≡ element_count m.road = search rules in
    let place = rw c.cells.ensures.exact at c.in-Some-first_bad_sweep.ensures.place in
    sym (past_fit m stays ∙ (past_nodes m (sym c.in_default.ensures.first) ∙ (past_count m same ∙ at_order m c.in-Some-first_bad_sweep.i (sym place))))

pub entries-total-requires-clause-short : goal.entries-total-requires-clause-short
entries-total-requires-clause-short c =
    let limit = cell_count_limit c.args.grid.now c.cells.ensures.limits in
    short_rows c.cells.result c.args.sweeps.now (omega (arith, c.cells.ensures.exact)) (sym c.in_default-first_bad_sweep.ensures.place)

pub returns-then-total-gt-MAX_ENTRIES-clause-first : goal.returns-then-total-gt-MAX_ENTRIES-clause-first
returns-then-total-gt-MAX_ENTRIES-clause-first c =
    let m : Roadmap = record { arm = c.args.arm.now; grid = c.args.grid.now; road = c.args.road.now; sweeps = c.args.sweeps.now } in
    let stays : Fits m.grid m.arm = c.fits.ensures.0 (search rules) in
    let same : length m.sweeps ≡ element_count m.road = search rules in
    let place = rw c.cells.ensures.exact at c.in_default-first_bad_sweep.ensures.place in
    let total : c.entries-total.result ≡ entries_of m.sweeps = c.entries-total.ensures in
    rw total (sym (past_fit m stays ∙ (past_nodes m (sym c.in_default.ensures.first) ∙ (past_count m same ∙ (past_order m (sym place) ∙ at_total m (omega (arith, total, c.if-total-gt-MAX_ENTRIES.true)))))))

pub returns-clause-first : goal.returns-clause-first
returns-clause-first c =
    let m : Roadmap = record { arm = c.args.arm.now; grid = c.args.grid.now; road = c.args.road.now; sweeps = c.args.sweeps.now } in
    let stays : Fits m.grid m.arm = c.fits.ensures.0 (search rules) in
    let same : length m.sweeps ≡ element_count m.road = search rules in
    let place = rw c.cells.ensures.exact at c.in_default-first_bad_sweep.ensures.place in
    let total : c.entries-total.result ≡ entries_of m.sweeps = c.entries-total.ensures in
    let few : entries_of m.sweeps ≤ max_entries = let test = c.if-total-gt-MAX_ENTRIES.false in omega (arith, total) in
    sym (past_fit m stays ∙ (past_nodes m (sym c.in_default.ensures.first) ∙ (past_count m same ∙ (past_order m (sym place) ∙ past_total m few))))
