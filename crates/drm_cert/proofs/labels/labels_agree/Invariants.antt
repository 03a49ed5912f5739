-- The edges so far, where they are not barred, have labels at both ends that are near, or at neither.
use Rattle.drm_cert.proofs.EdgeLemmas.{EachOpen}
use Rattle.drm_cert.proofs.LabelLemmas.{EndsAreNear}
use Rattle.drm_cert.proofs.labels.labels_agree.Given as goal

abbrev pub invariant-loop-i : goal.invariant-loop-i
invariant-loop-i l = EachOpen l.road l.snap l.i (EndsAreNear l.road l.labels)
