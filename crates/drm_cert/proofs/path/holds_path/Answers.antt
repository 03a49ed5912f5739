-- The parts of the certificate.
use Rattle.std.proofs.Common.{◌≡◌, true}
use Rattle.drm_cert.proofs.WayLemmas.{path_by_parts}
use Rattle.drm_cert.proofs.path.holds_path.Goals as goal
use Rattle.drm_cert.proofs.path.holds_path.Goals.{then-are_labels, else-are_labels}

pub returns-then-is_route : goal.returns-then-is_route
returns-then-is_route c =
    elim c.if-are_labels.branch [
      | then-are_labels w ↦
          let told = w.value-is in
          let yes = c.if-is_route.true in
          let route : w.is_route.result ≡ true = cc in
          path_by_parts c.args.road.now c.args.snap.now c.args.from c.args.to c.args.length c.args.nodes.now c.args.labels.now c.labels_agree.result
          (c.are_labels.ensures.0 w.if-are_labels.true) (w.is_route.ensures.0 route) c.labels_agree.ensures
      | else-are_labels w ↦ let told = w.value-is in let yes = c.if-is_route.true in absurd cc
    ]
