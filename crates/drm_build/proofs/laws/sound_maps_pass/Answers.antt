-- The law of sound sweeps, for each element.
use Rattle.drm_build.proofs.SoundLemmas.{pass}
use Rattle.drm_build.proofs.laws.sound_maps_pass.Goals as goal

pub returns : goal.returns
returns c = pass c.sound_sweeps_pass.ensures
