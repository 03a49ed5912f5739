-- What the words, the shelf and the log come to.
use Rattle.std.specs.Prelude.{ℕ, ◌≡◌, ◌⊎◌, List, Option}
use Rattle.std.specs.Io.KnownBytes.{Keeps}
use Rattle.drm_outside.specs.Causes.{Rose}
use Rattle.drm_outside.specs.Reading.{TookAtMost}
use Rattle.drm_outside.specs.Shelving.{Names, HoldsTheSame, HoldsOthers}
use Rattle.drm_command.specs.Limits.{log_limit}
use Rattle.drm_command.specs.Command.{Command, Build, Check, Replay, IsCommand, IsNoCommand, LoadsName, SavesName}
use Rattle.drm_command.specs.declared.command.Form.{Form}
use Rattle.drm_tool.specs.Named.{HasMap}
use Rattle.drm_tool.specs.Check.{PassesMap, CheckCallsFor}
use Rattle.drm_tool.specs.Build.{BuildsMap, BuildCallsFor}
use Rattle.drm_tool.specs.Headline.{Replays, ReplayCallsFor}
use Rattle.drm_command.specs.declared.refusal.Refusal.{Refusal}
use Rattle.drm_command.specs.declared.refusal.Refusal.TheVariants.{NoCommand}

-- ---- a command that was done

-- what the command has done, and its text; only a build saves, and only a replay reads the log
abbrev pub IsDone : Command → Option Names → Option Names → Option (List ℕ) → Option (List ℕ) → List ℕ → Type 0
IsDone (Build robot map) names after old new text = BuildsMap names after robot map text × Keeps old new
IsDone (Check map) names after old new text = PassesMap names map text × HoldsTheSame names after × Keeps old new
IsDone (Replay map form) names after old new text = Replays names map form old new text × HoldsTheSame names after

-- the words are a command, which was done
abbrev pub Does : List (List ℕ) → Option Names → Option Names → Option (List ℕ) → Option (List ℕ) → List ℕ → Type 0
Does words names after old new text = (command : Command) × IsCommand words command × IsDone command names after old new text

-- ---- a command that was refused, after which no name of the shelf has changed

-- what calls for a refusal of the command
abbrev pub CommandCallsFor : Command → Option Names → Option (List ℕ) → Option (List ℕ) → Refusal → Type 0
CommandCallsFor (Build robot map) names old new refusal = BuildCallsFor names robot refusal × Keeps old new
CommandCallsFor (Check map) names old new refusal = CheckCallsFor names map refusal × Keeps old new
CommandCallsFor (Replay map form) names old new refusal = ReplayCallsFor names map old new refusal

-- the words are no command, and the log was not touched
abbrev pub IsWordless : List (List ℕ) → Option (List ℕ) → Option (List ℕ) → Refusal → Type 0
IsWordless words old new refusal = (refusal ≡ NoCommand) × IsNoCommand words × Keeps old new

-- what calls for a refusal: the words are no command, or they are one that is refused
abbrev pub CallsFor : List (List ℕ) → Option Names → Option Names → Option (List ℕ) → Option (List ℕ) → Refusal → Type 0
CallsFor words names after old new refusal =
    HoldsTheSame names after
    × (IsWordless words old new refusal ⊎ ((command : Command) × IsCommand words command × CommandCallsFor command names old new refusal))

-- ---- a command that came to nothing

-- what was taken of the log: at most its limit by a replay, and nothing by another command
abbrev pub TookOfLog : Command → Option (List ℕ) → Option (List ℕ) → Type 0
TookOfLog (Replay map form) old new = TookAtMost old new log_limit
TookOfLog _ old new = Keeps old new

-- the command was begun
abbrev pub Begins : List (List ℕ) → Option (List ℕ) → Option (List ℕ) → Type 0
Begins words old new = (command : Command) × IsCommand words command × TookOfLog command old new

-- the command was begun, and the log was not touched
abbrev pub BeginsUnread : List (List ℕ) → Option (List ℕ) → Option (List ℕ) → Type 0
BeginsUnread words old new = ((command : Command) × IsCommand words command) × Keeps old new

-- a replay over the map of a name was begun, the source failed, and no name of the shelf has changed
pub record BeginsLog (words : List (List ℕ)) (names after : Option Names) (old new : Option (List ℕ)) : Type 0 where
  pub name : List ℕ
  pub form : Form
  pub command : IsCommand words (Replay name form)
  pub has_map : HasMap names name
  pub took : TookAtMost old new log_limit
  pub kept : HoldsTheSame names after

-- the shelf failed at the name that the words load
pub record FailsAtLoad (words : List (List ℕ)) (loads loads_after : List ℕ → ℕ) : Type 0 where
  pub command : Command
  pub is_command : IsCommand words command
  pub name : List ℕ
  pub loads_name : LoadsName command name
  pub rose : Rose (loads name) (loads_after name)

-- the shelf failed at the name that the words save
pub record FailsAtSave (words : List (List ℕ)) (saves saves_after : List ℕ → ℕ) : Type 0 where
  pub command : Command
  pub is_command : IsCommand words command
  pub name : List ℕ
  pub saves_name : SavesName command name
  pub rose : Rose (saves name) (saves_after name)

-- the shelf failed at a name that the command loads, or at the one that it saves
abbrev pub FailsAtName : List (List ℕ) → (List ℕ → ℕ) → (List ℕ → ℕ) → (List ℕ → ℕ) → (List ℕ → ℕ) → Type 0
FailsAtName words loads loads_after saves saves_after = FailsAtLoad words loads loads_after ⊎ FailsAtSave words saves saves_after

-- no name of the shelf has changed, but for the one that the command saves
abbrev pub ChangesSaved : List (List ℕ) → Option Names → Option Names → Type 0
ChangesSaved words names after =
    HoldsTheSame names after ⊎ ((robot map : List ℕ) × IsCommand words (Build robot map) × HoldsOthers names after map)
