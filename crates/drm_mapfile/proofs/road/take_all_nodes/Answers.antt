-- One more node, or the fault of one.
use Rattle.std.proofs.Common.{ℤ, List, ◌++◌, ◌∷◌, [], ◌∙◌, ap, length, length-append, arith}
use Rattle.std.proofs.lemmas.Result.{err_from_is_err_and}
use Rattle.drm_mapfile.specs.Reading.{node_at}
use Rattle.drm_mapfile.proofs.Loops.{goes_on, ends, is_done}
use Rattle.drm_mapfile.proofs.road.take_all_nodes.Goals as goal

pub returns-in_err-values-clause-exact : goal.returns-in_err-values-clause-exact
returns-in_err-values-clause-exact c =
    let p = err_from_is_err_and c.from_residual.result c.from_residual.ensures.1 in
    let here = rw c.deref.ensures.value at c.in_err-values.ensures.exact in
    rw (p.1, p.2) (ends (node_at c.args.total c.args.arm.now) c.in_err-values.field-0.0 c.args.count c.loop.counter c.loop.nodes.items c.loop.rest.now _ c.loop-test.true here c.loop.invariant.so_far)

pub loop-preserved : goal.loop-preserved
loop-preserved c =
    let here = rw c.deref.ensures.value at c.in_ok-values.ensures.exact in
    let more = c.in_ok-push.ensures.items ∙ ap (λ (n : List ℤ). c.loop.nodes.items ++ n ∷ []) (c.config_of-node.ensures ∙ c.as_slice.ensures.value) in
    let longer = ap length more in
    record {
      so_far = goes_on (node_at c.args.total c.args.arm.now) c.args.count c.loop.counter c.loop.nodes.items c.push.new.self.items c.loop.rest.now c.in_ok-values.after.now c.in_ok-values.values.items _ c.loop-test.true here more c.loop.invariant.so_far;
      counted = omega (arith, longer, length-append {A = List ℤ}, c.loop.invariant.counted);
    }

pub returns-clause-exact : goal.returns-clause-exact
returns-clause-exact c = is_done (node_at c.args.total c.args.arm.now) c.args.count c.loop.counter c.loop.nodes.items c.loop.rest.now _ c.loop-test.false c.loop.invariant.so_far
