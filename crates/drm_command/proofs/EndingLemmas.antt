-- How a refusal ends whose text was handed to the sink.
use Rattle.std.proofs.Common.{List, ℕ, refl, inl, inr, Option, Err}
use Rattle.drm_command.specs.Refusal.{line_of}
use Rattle.drm_command.specs.Ending.{Ends, IsWritten}
use Rattle.drm_command.specs.declared.refusal.Refusal.{Refusal}
use Rattle.drm_command.specs.declared.stop.Stop.TheVariants.{Refused}
use Rattle.drm_command.specs.declared.ending.End.{End}
use Rattle.drm_command.specs.declared.ending.End.TheVariants.{Stopped}

pub ends_refused : (refusal : Refusal) (end : End) (old new : Option (List ℕ)) → IsWritten (Stopped (Refused refusal)) (line_of refusal) end old new → Ends (Err (Refused refusal)) end old new
ends_refused refusal end old new (inl whole) = inl (line_of refusal, (whole.0, refl), whole.1)
ends_refused refusal end old new (inr short) = inr (inl (Stopped (Refused refusal), line_of refusal, (refl, refl), short.1, short.0))
