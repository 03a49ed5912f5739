-- The notes for a person, one for each end that is not done.
use Rattle.std.specs.Prelude.{ℕ, ◌⊎◌, List, [], ◌∷◌, ◌++◌, get_or, codes, decimal, Option}
use Rattle.std.specs.List.{concat}
use Rattle.std.specs.Io.KnownBytes.{Appends}
use Rattle.drm_outside.specs.Causes.{Rose}
use Rattle.drm_outside.specs.Writing.{AppendsPrefix}
use Rattle.drm_talk.specs.declared.Element.{Element}
use Rattle.drm_talk.specs.declared.Element.TheVariants.{Node, Edge}
use Rattle.drm_cellmap.specs.Limits.{max_entries}
use Rattle.drm_script.specs.Limits.{line_limit}
use Rattle.drm_command.specs.Limits.{robot_limit, map_limit, log_limit}
use Rattle.drm_robot.specs.FaultText.{fault_text as robot_fault}
use Rattle.drm_mapfile.specs.FaultText.{fault_text as map_fault}
use Rattle.drm_command.specs.declared.refusal.Refusal.{Refusal}
use Rattle.drm_command.specs.declared.refusal.Refusal.TheVariants.{NoCommand, NoRobot, NoMap, NoLog, Unserved, LongRobot, LongMap, LongLog, LongLines, LongSweeps, Lacks, Loose}
use Rattle.drm_command.specs.declared.stop.Stop.{Stop}
use Rattle.drm_command.specs.declared.stop.Stop.TheVariants.{Refused, Load, Save, Source, Memory}
use Rattle.drm_command.specs.declared.noting.Part.{Part}
use Rattle.drm_command.specs.declared.noting.Part.TheVariants.{Text, Number}
use Rattle.drm_command.specs.declared.ending.End.{End}
use Rattle.drm_command.specs.declared.ending.End.TheVariants.{Done, Stopped, Sink}

-- the word at a place, which is empty where there is none
abbrev pub word_at : ℕ → List (List ℕ) → List ℕ
word_at place words = get_or words place []

-- the name that the words of a command give to what it loads
abbrev pub loaded : List (List ℕ) → List ℕ
loaded words = word_at 1 words

-- the name that the words of a build give to what it saves
abbrev pub saved : List (List ℕ) → List ℕ
saved words = word_at 2 words

-- a part of a note: a text, or a number
abbrev pub part_text : Part → List ℕ
part_text (Text text) = text.now
part_text (Number number) = decimal number

-- the words of each command, a line for each
abbrev pub usage : List (List ℕ)
usage =
    codes "drm_tool: the words are none of these commands:\n"
    ∷ codes "drm_tool: build ROBOT MAP    builds the map of the robot in the file ROBOT, and saves it as MAP\n"
    ∷ codes "drm_tool: check MAP          judges the sweeps that are stored in the map\n"
    ∷ codes "drm_tool: replay MAP brief   replays the log on standard input over the map\n"
    ∷ codes "drm_tool: replay MAP full    the same, with the certificates of answers\n"
    ∷ []

-- an element
abbrev pub element_words : Element → List ℕ
element_words (Node i) = codes "node " ++ decimal i
element_words (Edge i) = codes "edge " ++ decimal i

-- the note on a name whose bytes are not what they are to be, and why, in its parts
abbrev pub reason_note : List ℕ → List ℕ → List ℕ → List (List ℕ)
reason_note name what reason = codes "drm_tool: \"" ∷ name ∷ what ∷ reason ∷ codes "\n" ∷ []

-- the note on bytes that are no robot, and on bytes that are no map file
abbrev pub robot_note : List ℕ → List ℕ → List (List ℕ)
robot_note name fault = reason_note name (codes "\" is no robot: ") fault

abbrev pub map_note : List ℕ → List ℕ → List (List ℕ)
map_note name fault = reason_note name (codes "\" is no map file: ") fault

-- the note on a line of the log, and on a file that is too long
abbrev pub line_note : ℕ → List ℕ → List (List ℕ)
line_note line what = codes "drm_tool: line " ∷ decimal line ∷ what ∷ []

abbrev pub long_file_note : List ℕ → List ℕ → ℕ → List (List ℕ)
long_file_note name what limit = codes "drm_tool: \"" ∷ name ∷ what ∷ decimal limit ∷ codes "\n" ∷ []

-- the notes on a log that is too long, and on a map that is
abbrev pub long_log_note : List (List ℕ)
long_log_note = codes "drm_tool: the log has more bytes than a log may have, " ∷ decimal log_limit ∷ codes "\n" ∷ []

abbrev pub long_lines_note : ℕ → List (List ℕ)
long_lines_note lines = codes "drm_tool: the log has " ∷ decimal lines ∷ codes " lines, and may have " ∷ decimal line_limit ∷ codes "\n" ∷ []

abbrev pub long_sweeps_note : ℕ → List ℕ → List (List ℕ)
long_sweeps_note entries name =
    codes "drm_tool: the map of \"" ∷ name ∷ codes "\" has " ∷ decimal entries ∷ codes " cells in its sweeps, and may have "
    ∷ decimal max_entries ∷ codes "\n" ∷ []

-- the notes on a stored sweep that lacks a cell, and on one that has a cell too many
abbrev pub lack_note : Element → List ℕ → ℕ → List (List ℕ)
lack_note element name cell =
    codes "drm_tool: the sweep of " ∷ element_words element ∷ codes " in \"" ∷ name ∷ codes "\" lacks cell " ∷ decimal cell
    ∷ codes "\n" ∷ []

abbrev pub loose_note : Element → List ℕ → ℕ → List (List ℕ)
loose_note element name cell =
    codes "drm_tool: the sweep of " ∷ element_words element ∷ codes " in \"" ∷ name ∷ codes "\" has cell " ∷ decimal cell
    ∷ codes ", which the arm does not sweep there\n" ∷ []

-- the note on a refusal of a call that was to load the name, in its parts
abbrev pub refusal_note : Refusal → List ℕ → List (List ℕ)
refusal_note NoCommand name = usage
refusal_note (NoRobot fault) name = robot_note name (robot_fault fault)
refusal_note (NoMap fault) name = map_note name (map_fault fault)
refusal_note (NoLog line) name = line_note line (codes " of the log is not in the grammar\n")
refusal_note (Unserved line) name = line_note line (codes " of the log is not served\n")
refusal_note LongRobot name = long_file_note name (codes "\" has more bytes than a robot may have, ") robot_limit
refusal_note LongMap name = long_file_note name (codes "\" has more bytes than a map file may have, ") map_limit
refusal_note LongLog name = long_log_note
refusal_note (LongLines lines) name = long_lines_note lines
refusal_note (LongSweeps entries) name = long_sweeps_note entries name
refusal_note (Lacks element cell) name = lack_note element name cell
refusal_note (Loose element cell) name = loose_note element name cell

-- the same without the reason why bytes are no robot or no map file, for which there may be no memory
abbrev pub bare_refusal_note : Refusal → List ℕ → List (List ℕ)
bare_refusal_note (NoRobot fault) name = codes "drm_tool: \"" ∷ name ∷ codes "\" is no robot\n" ∷ []
bare_refusal_note (NoMap fault) name = codes "drm_tool: \"" ∷ name ∷ codes "\" is no map file\n" ∷ []
bare_refusal_note refusal name = refusal_note refusal name

-- the note on a call with these words that stops short, in its parts
abbrev pub stop_note : Stop → List (List ℕ) → List (List ℕ)
stop_note (Refused refusal) words = refusal_note refusal (loaded words)
stop_note Load words = codes "drm_tool: \"" ∷ loaded words ∷ codes "\" could not be loaded\n" ∷ []
stop_note Save words = codes "drm_tool: \"" ∷ saved words ∷ codes "\" could not be saved\n" ∷ []
stop_note Source words = codes "drm_tool: the log could not be read from standard input\n" ∷ []
stop_note Memory words = codes "drm_tool: there was not enough memory\n" ∷ []

-- the same without such a reason
abbrev pub bare_stop_note : Stop → List (List ℕ) → List (List ℕ)
bare_stop_note (Refused refusal) words = bare_refusal_note refusal (loaded words)
bare_stop_note stop words = stop_note stop words

-- the note on an end of a call with these words, in its parts
abbrev pub note_parts : End → List (List ℕ) → List (List ℕ)
note_parts Done words = []
note_parts (Stopped stop) words = stop_note stop words
note_parts Sink words = codes "drm_tool: standard output could not be written\n" ∷ []

-- the same without such a reason
abbrev pub bare_note_parts : End → List (List ℕ) → List (List ℕ)
bare_note_parts (Stopped stop) words = bare_stop_note stop words
bare_note_parts end words = note_parts end words

-- the note, and the note without the reason of a fault
abbrev pub note_of : End → List (List ℕ) → List ℕ
note_of end words = concat (note_parts end words)

abbrev pub bare_note_of : End → List (List ℕ) → List ℕ
bare_note_of end words = concat (bare_note_parts end words)

-- a text was taken whole, or else a prefix of it, where the count of faults rose
abbrev pub IsTold : List ℕ → Option (List ℕ) → Option (List ℕ) → ℕ → ℕ → Type 0
IsTold text old new before now = Appends old new text ⊎ (AppendsPrefix old new text × Rose before now)
