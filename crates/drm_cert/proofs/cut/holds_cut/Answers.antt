-- The parts of the certificate.
use Rattle.drm_cert.proofs.CutLemmas.{cut_by_parts}
use Rattle.drm_cert.proofs.cut.holds_cut.Goals as goal

pub returns-then-parts_ends : goal.returns-then-parts_ends
returns-then-parts_ends c =
    cut_by_parts c.args.road.now c.args.snap.now c.args.from c.args.to c.args.side.now c.is_closed.result (c.parts_ends.ensures.0 c.if-parts_ends.true) c.is_closed.ensures
