-- One more coordinate, or the fault of one.
use Rattle.std.proofs.Common.{rules, arith, FitsSigned, w32}
use Rattle.std.proofs.lemmas.Int.{to_z-of_z}
use Rattle.std.proofs.lemmas.Result.{err_from_is_err_and}
use Rattle.drm_mapfile.proofs.RoadLoops.{starts, coordinate_goes_on, coordinate_ends, coordinates_done, is_config}
use Rattle.drm_mapfile.proofs.road.take_coordinates.Goals as goal

pub loop-j-init : goal.loop-j-init
loop-j-init c = starts c.args.total c.args.arm.now c.new-values.result.items c.args.bytes.now c.new-values.ensures.items

pub returns-in_err-value-clause-exact : goal.returns-in_err-value-clause-exact
returns-in_err-value-clause-exact c =
    let p = err_from_is_err_and c.from_residual.result c.from_residual.ensures.1 in
    rw (p.1, p.2) (coordinate_ends c.args.total c.args.arm.now c.loop-j.j c.link.result c.loop-j.values.items c.loop-j.rest.now c.in_err-value.field-0.0 _ c.link.ensures.place c.in_err-value.ensures c.loop-j.invariant)

pub loop-j-preserved : goal.loop-j-preserved
loop-j-preserved c =
    let fits : FitsSigned w32 c.in_ok-value.value = search rules in
    let more = rw (to_z-of_z w32 c.in_ok-value.value fits) at c.in_ok-push.ensures.items in
    coordinate_goes_on c.args.total c.args.arm.now c.loop-j.j c.link.result c.loop-j.values.items c.push.new.self.items c.loop-j.rest.now c.in_ok-value.after.now c.in_ok-value.value _ c.link.ensures.place c.in_ok-value.ensures more c.loop-j.invariant

pub returns-clause-exact : goal.returns-clause-exact
returns-clause-exact c = coordinates_done c.args.total c.args.arm.now c.loop-j.j c.loop-j.values.items c.loop-j.rest.now _ (omega arith) c.loop-j.invariant

pub returns-clause-config : goal.returns-clause-config
returns-clause-config c =
    is_config c.args.total c.args.arm.now c.args.bytes.now c.loop-j.values.items c.loop-j.rest.now (coordinates_done c.args.total c.args.arm.now c.loop-j.j c.loop-j.values.items c.loop-j.rest.now _ (omega arith) c.loop-j.invariant)
