-- One more link, or the fault of one.
use Rattle.std.proofs.Common.{◌+◌, ◌∙◌, sym, ap}
use Rattle.std.proofs.lemmas.Result.{err_from_is_err_and}
use Rattle.std.proofs.lemmas.List.Sums.{sum_by_push}
use Rattle.drm_arm.specs.declared.arm.Link.{Link}
use Rattle.drm_arm.specs.Arm.{reach_of}
use Rattle.drm_mapfile.specs.Reading.{link_at}
use Rattle.drm_mapfile.proofs.Loops.{goes_on, ends, is_done}
use Rattle.drm_mapfile.proofs.arm.take_links.Goals as goal

pub returns-in_err-link : goal.returns-in_err-link
returns-in_err-link c =
    let p = err_from_is_err_and c.from_residual.result c.from_residual.ensures.1 in
    let here = rw c.loop.invariant.sum at c.in_err-link.ensures.exact in
    rw (p.1, p.2) (ends (λ front. link_at c.args.total (reach_of front)) c.in_err-link.field-0.0 c.args.count c.loop.counter c.loop.links.items c.loop.rest.now _ c.loop-test.true here c.loop.invariant.so_far)

pub loop-preserved : goal.loop-preserved
loop-preserved c =
    let here = rw c.loop.invariant.sum at c.in_ok-link.ensures.exact in
    record {
      so_far = goes_on (λ front. link_at c.args.total (reach_of front)) c.args.count c.loop.counter c.loop.links.items c.push.new.self.items c.loop.rest.now c.in_ok-link.after.now c.in_ok-link.link _ c.loop-test.true here c.in_ok-push.ensures.items c.loop.invariant.so_far;
      sum = ap (λ n. n + c.in_ok-link.link.len) c.loop.invariant.sum ∙ sym (ap reach_of c.in_ok-push.ensures.items ∙ sum_by_push (λ (link : Link). link.len) c.loop.links.items c.in_ok-link.link);
      few = c.in_ok-link.ensures.few;
    }

pub returns : goal.returns
returns c = is_done (λ front. link_at c.args.total (reach_of front)) c.args.count c.loop.counter c.loop.links.items c.loop.rest.now _ c.loop-test.false c.loop.invariant.so_far
