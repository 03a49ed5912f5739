-- The commands, and the words of each.
use Rattle.std.specs.Prelude.{ℕ, ◌≡◌, List, [], ◌∷◌, codes}
use Rattle.drm_command.specs.declared.command.Form.{Form}
use Rattle.drm_command.specs.declared.command.Form.TheVariants.{Brief, Full}

-- a command with its names: a robot's and a map's, or a map's; a replay has the form of its report
pub data Command : Type 0 where
  Build : List ℕ → List ℕ → Command
  Check : List ℕ → Command
  Replay : List ℕ → Form → Command

-- the word of a form
abbrev pub form_word : Form → List ℕ
form_word Brief = codes "brief"
form_word Full = codes "full"

-- the one spelling of a command
abbrev pub words_of : Command → List (List ℕ)
words_of (Build robot map) = codes "build" ∷ robot ∷ map ∷ []
words_of (Check map) = codes "check" ∷ map ∷ []
words_of (Replay map form) = codes "replay" ∷ map ∷ form_word form ∷ []

-- the name that stands for the map that is built in
abbrev pub sample_name : List ℕ
sample_name = codes "sample"

-- a name is not empty
abbrev pub IsName : List ℕ → Type 0
IsName name = ¬ (name ≡ [])

-- it is one under which a map is saved, and so not the one of the map that is built in
abbrev pub IsTarget : List ℕ → Type 0
IsTarget name = IsName name × ¬ (name ≡ sample_name)

-- the names are such as the command takes
abbrev pub HasNames : Command → Type 0
HasNames (Build robot map) = IsName robot × IsTarget map
HasNames (Check map) = IsName map
HasNames (Replay map form) = IsName map

-- the words are the command
pub record IsCommand (words : List (List ℕ)) (command : Command) : Type 0 where
  pub spelled : words ≡ words_of command
  pub names : HasNames command

-- the words are no command of a kind
abbrev pub IsNoBuild : List (List ℕ) → Type 0
IsNoBuild words = (robot map : List ℕ) → ¬ IsCommand words (Build robot map)

abbrev pub IsNoCheck : List (List ℕ) → Type 0
IsNoCheck words = (map : List ℕ) → ¬ IsCommand words (Check map)

abbrev pub IsNoReplay : List (List ℕ) → Type 0
IsNoReplay words = (map : List ℕ) (form : Form) → ¬ IsCommand words (Replay map form)

-- the words are no command
abbrev pub IsNoCommand : List (List ℕ) → Type 0
IsNoCommand words = (command : Command) → ¬ IsCommand words command

-- the words are a command of a kind
abbrev pub IsBuild : List (List ℕ) → Type 0
IsBuild words = (robot map : List ℕ) × IsCommand words (Build robot map)

abbrev pub IsCheck : List (List ℕ) → Type 0
IsCheck words = (map : List ℕ) × IsCommand words (Check map)

-- the command loads the name
abbrev pub LoadsName : Command → List ℕ → Type 0
LoadsName (Build robot map) name = name ≡ robot
LoadsName (Check map) name = (name ≡ map) × ¬ (name ≡ sample_name)
LoadsName (Replay map form) name = (name ≡ map) × ¬ (name ≡ sample_name)

-- the command saves the name
abbrev pub SavesName : Command → List ℕ → Type 0
SavesName (Build robot map) name = name ≡ map
SavesName _ name = ⊥
