use Rattle.drm_road.specs.Draws.{generator_of}
use Rattle.drm_road.proofs.SampleLemmas.{IsSampling}
use Rattle.drm_road.proofs.sampling.sample.Given as goal

abbrev pub invariant-loop-k : goal.invariant-loop-k
invariant-loop-k l = IsSampling l.arm (generator_of l.seed) l._k l.nodes.items l.met l.generator
