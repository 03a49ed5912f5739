-- The parts break no rule exactly where they are a map.
use Rattle.std.proofs.Common.{sym, ◌∙◌}
use Rattle.drm_cellmap.specs.Roadmap.{Roadmap}
use Rattle.drm_cellmap.proofs.MapLemmas.{map_or_not, no_map}
use Rattle.drm_cellmap.proofs.map.Map.new.Goals as goal

pub invariant_of-result : goal.invariant_of-result
invariant_of-result c =
    let m : Roadmap = record { arm = c.args.arm; grid = c.args.grid; road = c.args.road; sweeps = c.args.sweeps } in
    let told = rw c.as_slice.ensures at c.first_fault.ensures.first in
    let parts = rw c.as_slice.ensures at (c.first_fault.ensures.parts c.in-None.is) in
    (map_or_not m parts).0 (sym told ∙ c.in-None.is)

pub returns-in-Some-clause-valid : goal.returns-in-Some-clause-valid
returns-in-Some-clause-valid c =
    let m : Roadmap = record { arm = c.args.arm; grid = c.args.grid; road = c.args.road; sweeps = c.args.sweeps } in
    let told = rw c.as_slice.ensures at c.first_fault.ensures.first in
    no_map m c.in-Some.fault (sym told ∙ c.in-Some.is)

pub returns-in-None-clause-limits : goal.returns-in-None-clause-limits
returns-in-None-clause-limits = invariant_of-result

pub returns-in-None-clause-valid : goal.returns-in-None-clause-valid
returns-in-None-clause-valid c =
    let m : Roadmap = record { arm = c.args.arm; grid = c.args.grid; road = c.args.road; sweeps = c.args.sweeps } in
    let parts = rw c.as_slice.ensures at (c.first_fault.ensures.parts c.in-None.is) in
    map_or_not m parts
