-- Refusals, and what each tells.
use Rattle.std.specs.Prelude.{ℕ, ◌≡◌, ◌⊎◌, List, ◌++◌, codes, decimal}
use Rattle.drm_command.specs.Limits.{robot_limit, map_limit, log_limit}
use Rattle.drm_command.specs.Status.{no_command, no_robot, no_map, no_log, too_long, refuted}
use Rattle.drm_command.specs.Texts.{on_a_line, robot_text, map_text, cell_text}
use Rattle.drm_command.specs.declared.refusal.Refusal.{Refusal}
use Rattle.drm_command.specs.declared.refusal.Refusal.TheVariants.{NoCommand, NoRobot, NoMap, NoLog, Unserved, LongRobot, LongMap, LongLog, LongLines, LongSweeps, Lacks, Loose}

-- a status, and the text that goes with it, without the line feed at its end
pub record Told : Type 0 where
  pub status : ℕ
  pub text : List ℕ

-- the table of refusals
abbrev pub told : Refusal → Told
told NoCommand = record { status = no_command; text = codes "words" }
told (NoRobot fault) = record { status = no_robot; text = robot_text fault }
told (NoMap fault) = record { status = no_map; text = map_text fault }
told (NoLog line) = record { status = no_log; text = codes "log " ++ decimal line }
told (Unserved line) = record { status = no_log; text = codes "log " ++ decimal line }
told LongRobot = record { status = too_long; text = codes "too long robot " ++ decimal robot_limit }
told LongMap = record { status = too_long; text = codes "too long map " ++ decimal map_limit }
told LongLog = record { status = too_long; text = codes "too long log " ++ decimal log_limit }
told (LongLines lines) = record { status = too_long; text = codes "too long lines " ++ decimal lines }
told (LongSweeps entries) = record { status = too_long; text = codes "too long sweeps " ++ decimal entries }
told (Lacks element cell) = record { status = refuted; text = codes "lacks" ++ cell_text element cell }
told (Loose element cell) = record { status = refuted; text = codes "loose" ++ cell_text element cell }

-- the line of a refusal
abbrev pub line_of : Refusal → List ℕ
line_of refusal = on_a_line (told refusal).text

-- the status is that of a refusal
abbrev pub IsRefusal : ℕ → Type 0
IsRefusal status = (refusal : Refusal) × (status ≡ (told refusal).status)

-- the text of a command that was done, with what became of it
abbrev pub Writes : (List ℕ → Type 0) → (List ℕ → Type 0) → Type 0
Writes Done Wrote = (text : List ℕ) × Done text × Wrote text

-- a refusal with this status that was called for, with what became of its text
pub record Refuses (status : ℕ) (CallsFor : Refusal → Type 0) (Wrote : List ℕ → Type 0) : Type 0 where
  pub refusal : Refusal
  pub numbered : status ≡ (told refusal).status
  pub cause : CallsFor refusal
  pub written : Wrote (line_of refusal)

-- the command was done or refused, with what became of the text of either
abbrev pub Owes : (List ℕ → Type 0) → (Refusal → Type 0) → (List ℕ → Type 0) → Type 0
Owes Done CallsFor Wrote = Writes Done Wrote ⊎ ((status : ℕ) × Refuses status CallsFor Wrote)
