use Rattle.std.proofs.Common.{◌≡◌, None, Some, inr, sym, ◌∙◌}
use Rattle.drm_road.specs.RoadFaults.{road_fault}
use Rattle.drm_road.proofs.RoadLemmas.{is_road}
use Rattle.drm_road.proofs.road.Road.new.Goals as goal

pub invariant_of-result : goal.invariant_of-result
invariant_of-result c =
    let none : road_fault c.args.nodes c.args.edges ≡ None = sym (rw (c.as_slice.ensures, c.as_slice-2.ensures) at c.in-Ok-None.ensures) ∙ c.in-Ok-None.field-0-is in
    is_road c.args.nodes c.args.edges none

pub returns-in-Ok-Some-clause-fault : goal.returns-in-Ok-Some-clause-fault
returns-in-Ok-Some-clause-fault c =
    let broken : road_fault c.args.nodes c.args.edges ≡ Some c.in-Ok-Some.fault = sym (rw (c.as_slice.ensures, c.as_slice-2.ensures) at c.in-Ok-Some.ensures) ∙ c.in-Ok-Some.field-0-is in
    inr broken
