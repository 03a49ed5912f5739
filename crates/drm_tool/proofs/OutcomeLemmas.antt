-- From what a part of a command comes to, to what the whole of it comes to.
use Rattle.std.proofs.Common.{ℕ, List, [], refl, sym, ◌∙◌, Option, Some, None, Ok, Err, IfOk, IfErr, arith}
use Rattle.std.specs.Io.KnownBytes.{Keeps}
use Rattle.drm_outside.specs.Reading.{TookAtMost}
use Rattle.drm_outside.specs.Shelving.{Names, HoldsTheSame, HoldsOthers}
use Rattle.drm_command.specs.Ending.{Outcome, StopsWith}
use Rattle.drm_command.specs.declared.refusal.Refusal.{Refusal}
use Rattle.drm_command.specs.declared.stop.Stop.{Stop}
use Rattle.drm_command.specs.declared.stop.Stop.TheVariants.{Refused, Load, Save, Source, Memory}

-- the text of an outcome is that of something more
pub done_maps : (One Other : List ℕ → Type 0) (outcome : Outcome) → ((text : List ℕ) → One text → Other text) → IfOk outcome (λ bytes. One bytes.items) → IfOk outcome (λ bytes. Other bytes.items)
done_maps One Other (Ok bytes) maps is = maps bytes.items is
done_maps One Other (Err stop) maps is = tt

-- a refusal has a further cause
pub stops_map : (One Other : Refusal → Type 0) (stop : Stop) → ((refusal : Refusal) → One refusal → Other refusal) → StopsWith One stop → StopsWith Other stop
stops_map One Other (Refused refusal) maps is = maps refusal is
stops_map One Other Load maps is = tt
stops_map One Other Save maps is = tt
stops_map One Other Source maps is = tt
stops_map One Other Memory maps is = tt

pub stop_maps : (One Other : Refusal → Type 0) (outcome : Outcome) → ((refusal : Refusal) → One refusal → Other refusal) → IfErr outcome (StopsWith One) → IfErr outcome (StopsWith Other)
stop_maps One Other (Ok bytes) maps is = tt
stop_maps One Other (Err stop) maps is = stops_map One Other stop maps is

-- a log that is not touched
pub keeps_same : (known : Option (List ℕ)) → Keeps known known
keeps_same None = tt
keeps_same (Some bytes) = refl

pub took_none : (old new : Option (List ℕ)) (limit : ℕ) → Keeps old new → TookAtMost old new limit
took_none None new limit kept = ([], tt, omega arith)
took_none (Some old) None limit kept = absurd kept
took_none (Some old) (Some new) limit kept = ([], sym kept, omega arith)

-- what a load leaves, a save changes at its name alone
pub others_after : (old mid new : Option Names) (name : List ℕ) → HoldsTheSame old mid → HoldsOthers mid new name → HoldsOthers old new name
others_after (Some old) (Some mid) (Some new) name same others = λ other differs. others other differs ∙ same other
others_after (Some old) (Some mid) None name same others = absurd others
others_after (Some old) None new name same others = absurd same
others_after None (Some mid) new name same others = absurd same
others_after None None (Some new) name same others = absurd others
others_after None None None name same others = tt
