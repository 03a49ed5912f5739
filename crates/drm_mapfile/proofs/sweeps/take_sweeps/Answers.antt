-- One more sweep, or the fault of one.
use Rattle.std.proofs.Common.{ℕ, List, ◌∙◌, ap, length, arith}
use Rattle.std.proofs.lemmas.Result.{err_from_is_err_and}
use Rattle.std.proofs.lemmas.List.Sums.{sum_by_push}
use Rattle.drm_cellmap.specs.Roadmap.{entries_of}
use Rattle.drm_mapfile.specs.Reading.{sweep_at, sweeps_at}
use Rattle.drm_mapfile.proofs.Loops.{goes_on, ends, is_done}
use Rattle.drm_mapfile.proofs.sweeps.take_sweeps.Goals as goal

pub returns-in_err-sweep : goal.returns-in_err-sweep
unfolding sweeps_at
returns-in_err-sweep c =
    let p = err_from_is_err_and c.from_residual.result c.from_residual.ensures.1 in
    let here = rw c.loop.invariant.sum at c.in_err-sweep.ensures.exact in
    rw (p.1, p.2) (ends (λ front. sweep_at c.args.total c.args.cells (entries_of front)) c.in_err-sweep.field-0.0 c.args.elements c.loop.counter c.loop.sweeps.items c.loop.rest.now _ c.loop-test.true here c.loop.invariant.so_far)

pub loop-preserved : goal.loop-preserved
loop-preserved c =
    let here = rw c.loop.invariant.sum at c.in_ok-sweep.ensures.exact in
    let pushed = ap entries_of c.in_ok-push.ensures.items ∙ sum_by_push (λ (cells : List ℕ). length cells) c.loop.sweeps.items c.in_ok-sweep.sweep in
    let shown = ap length c.as_slice.ensures in
    record {
      so_far = goes_on (λ front. sweep_at c.args.total c.args.cells (entries_of front)) c.args.elements c.loop.counter c.loop.sweeps.items c.push.new.self.items c.loop.rest.now c.in_ok-sweep.after.now c.in_ok-sweep.sweep _ c.loop-test.true here c.in_ok-push.ensures.items c.loop.invariant.so_far;
      sum = omega (arith, pushed, shown, c.loop.invariant.sum);
      few = omega (arith, shown, c.in_ok-sweep.ensures.few);
    }

pub returns : goal.returns
unfolding sweeps_at
returns c = is_done (λ front. sweep_at c.args.total c.args.cells (entries_of front)) c.args.elements c.loop.counter c.loop.sweeps.items c.loop.rest.now _ c.loop-test.false c.loop.invariant.so_far
