-- The check of a map: what it tells, and what calls for a refusal.
use Rattle.std.specs.Prelude.{ℕ, ◌≡◌, ◌⊎◌, List, Option, codes}
use Rattle.drm_outside.specs.Causes.{Rose}
use Rattle.drm_outside.specs.Shelving.{Names}
use Rattle.drm_cellmap.specs.Roadmap.{Roadmap, EachStored}
use Rattle.drm_sweep.specs.Laws.{IsPassed}
use Rattle.drm_mapfile.specs.Verdict.{IsVerdict}
use Rattle.drm_mapfile.specs.declared.judging.MapVerdict.TheVariants.{Lacks as LacksCell, Loose as HasLooseCell}
use Rattle.drm_tool.specs.Named.{IsMapNamed, IsLookedUp, MapCallsFor}
use Rattle.drm_command.specs.Command.{Check, IsCommand, IsNoCheck}
use Rattle.drm_command.specs.Texts.{on_a_line}
use Rattle.drm_command.specs.declared.refusal.Refusal.{Refusal}
use Rattle.drm_command.specs.declared.refusal.Refusal.TheVariants.{NoCommand, Lacks, Loose}

-- the text that tells that a map passes
abbrev pub passed_text : List ℕ
passed_text = on_a_line (codes "passed")

-- the stored sweeps of the map all pass, and the text says so
abbrev pub Passes : Roadmap → List ℕ → Type 0
Passes map text = EachStored IsPassed map × (text ≡ passed_text)

-- the name stands for a map that passes
pub record PassesMap (names : Option Names) (name text : List ℕ) : Type 0 where
  pub map : Roadmap
  pub named : IsMapNamed names name map
  pub passed : Passes map text

-- the refusal tells what a check of the map finds: the first element at fault and its least cell
abbrev pub TellsVerdict : Roadmap → Refusal → Type 0
TellsVerdict map (Lacks element cell) = IsVerdict map (LacksCell element cell)
TellsVerdict map (Loose element cell) = IsVerdict map (HasLooseCell element cell)
TellsVerdict map _ = ⊥

-- the name stands for a map that does not pass
pub record RefutesMap (names : Option Names) (name : List ℕ) (refusal : Refusal) : Type 0 where
  pub map : Roadmap
  pub named : IsMapNamed names name map
  pub found : TellsVerdict map refusal

-- what calls for a refusal where the map of the name is checked
abbrev pub CheckCallsFor : Option Names → List ℕ → Refusal → Type 0
CheckCallsFor names name refusal = MapCallsFor names name refusal ⊎ RefutesMap names name refusal

-- the words are a check, and the shelf failed at the load of its map
abbrev pub CheckFails : List (List ℕ) → (List ℕ → ℕ) → (List ℕ → ℕ) → Type 0
CheckFails words loads loads_after = (name : List ℕ) × IsCommand words (Check name) × IsLookedUp name × Rose (loads name) (loads_after name)

-- the words are a check, and its map passes
abbrev pub ChecksWords : List (List ℕ) → Option Names → List ℕ → Type 0
ChecksWords words names text = (name : List ℕ) × IsCommand words (Check name) × PassesMap names name text

-- what calls for a refusal of the words: they are no check, or they are one that is refused
abbrev pub CheckWordsCallFor : List (List ℕ) → Option Names → Refusal → Type 0
CheckWordsCallFor words names refusal =
    ((refusal ≡ NoCommand) × IsNoCheck words) ⊎ ((name : List ℕ) × IsCommand words (Check name) × CheckCallsFor names name refusal)
