use Rattle.rand_pcg.specs.Pcg.{pcg64}
use Rattle.drm_road.proofs.DrawLemmas.{IsDrawing}
use Rattle.drm_road.proofs.sampling.draw.Given as goal

abbrev pub invariant-loop-j : goal.invariant-loop-j
invariant-loop-j l = IsDrawing pcg64 l.arm l.fn.generator l.values l.j l.generator
