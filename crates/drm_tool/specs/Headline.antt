-- The headline: the whole log was read, and the text of a right report of it over the map was written.
use Rattle.std.specs.Prelude.{ℕ, ◌≡◌, ◌≢◌, ◌⊎◌, ◌+◌, ◌≤◌, List, [], length, All, Option}
use Rattle.std.specs.Io.KnownBytes.{Keeps}
use Rattle.drm_outside.specs.Reading.{ReadsAll, TookExactly}
use Rattle.drm_outside.specs.Shelving.{Names}
use Rattle.drm_talk.specs.declared.Line.{Line}
use Rattle.drm_talk.specs.declared.Report.{Report}
use Rattle.drm_cellmap.specs.Roadmap.{Roadmap}
use Rattle.drm_script.specs.Limits.{line_limit}
use Rattle.drm_script.specs.Words.{lines_in}
use Rattle.drm_script.specs.Front.{BeginsWith}
use Rattle.drm_script.specs.Log.{line_text, IsLogLine, IsLog, BeginsWithLog, BeginsWithNoLine, IsTooLong}
use Rattle.drm_script.specs.Report.{brief_text, full_text}
use Rattle.drm_command.specs.Limits.{log_limit}
use Rattle.drm_command.specs.Command.{Check, Replay, IsCommand, sample_name}
use Rattle.drm_tool.specs.Replayed.{IsReplayed}
use Rattle.drm_tool.specs.Served.{IsServed}
use Rattle.drm_tool.specs.Named.{IsMapNamed, MapCallsFor}
use Rattle.drm_command.specs.declared.command.Form.{Form}
use Rattle.drm_command.specs.declared.command.Form.TheVariants.{Brief, Full}
use Rattle.drm_command.specs.declared.refusal.Refusal.{Refusal}
use Rattle.drm_command.specs.declared.refusal.Refusal.TheVariants.{NoLog, Unserved, LongLog, LongLines}

-- the text of a report in the form
abbrev pub text_in : Form → Report → List ℕ
text_in Brief report = brief_text report
text_in Full report = full_text report

-- the text is that, in the form, of a right report of the lines over the map
pub record IsReportText (map : Roadmap) (form : Form) (lines : List Line) (text : List ℕ) : Type 0 where
  pub report : Report
  pub replayed : IsReplayed map lines report
  pub spelled : text ≡ text_in form report

-- the bytes are a log of lines for the arm with so many joints, and all of them are served
pub record IsServedLog (joints : ℕ) (bytes : List ℕ) (lines : List Line) : Type 0 where
  pub log : IsLog joints bytes lines
  pub served : All IsServed lines

-- the bytes are a log that is served, and the text is that of its report
pub record IsReportOf (map : Roadmap) (form : Form) (bytes text : List ℕ) : Type 0 where
  pub lines : List Line
  pub log : IsServedLog (length map.arm) bytes lines
  pub report : IsReportText map form lines text

-- the log was read to its end, and the text is that of its report over the map
pub record ReplaysOver (map : Roadmap) (form : Form) (old new : Option (List ℕ)) (text : List ℕ) : Type 0 where
  pub bytes : List ℕ
  pub read : ReadsAll old new log_limit bytes
  pub report : IsReportOf map form bytes text

-- the same over the map that the name stands for
pub record Replays (names : Option Names) (name : List ℕ) (form : Form) (old new : Option (List ℕ)) (text : List ℕ) : Type 0 where
  pub map : Roadmap
  pub named : IsMapNamed names name map
  pub replayed : ReplaysOver map form old new text

-- a line of the grammar that is not served stands at the front of these bytes
pub record BeginsWithUnserved (joints : ℕ) (bytes : List ℕ) : Type 0 where
  pub line : Line
  pub more : List ℕ
  pub begins : BeginsWith line_text (IsLogLine joints) bytes line more
  pub unserved : ¬ IsServed line

-- line i of the bytes, counted from 1, is the first that is not in the grammar or not served: a log that is served stands
-- before it, and then comes what is refused; so the bytes are no log that is served
pub record IsFirstRefused (Refused : List Line → List ℕ → Type 0) (joints i : ℕ) (bytes : List ℕ) : Type 0 where
  pub lines : List Line
  pub rest : List ℕ
  pub before : BeginsWithLog joints bytes lines rest
  pub served : All IsServed lines
  pub place : i ≡ length lines + 1
  pub some_left : rest ≢ []
  pub refused : Refused lines rest
  pub few : lines_in bytes ≤ line_limit
  pub no_log : (others : List Line) → ¬ IsServedLog joints bytes others

-- what of the bytes of a log calls for its refusal: the first line that is not in the grammar, or that is not served; or too
-- many lines
abbrev pub LogBytesCallFor : ℕ → List ℕ → Refusal → Type 0
LogBytesCallFor joints bytes (NoLog i) = IsFirstRefused (λ lines rest. BeginsWithNoLine joints lines rest) joints i bytes
LogBytesCallFor joints bytes (Unserved i) = IsFirstRefused (λ lines rest. BeginsWithUnserved joints rest) joints i bytes
LogBytesCallFor joints bytes (LongLines n) = IsTooLong joints n bytes
LogBytesCallFor joints bytes _ = ⊥

-- the log was read to its end, and its bytes call for the refusal
pub record ReadsRefused (joints : ℕ) (old new : Option (List ℕ)) (refusal : Refusal) : Type 0 where
  pub bytes : List ℕ
  pub read : ReadsAll old new log_limit bytes
  pub calls : LogBytesCallFor joints bytes refusal

-- what of a log calls for its refusal: its bytes do, or there are more of them than the limit
abbrev pub LogCallsFor : ℕ → Option (List ℕ) → Option (List ℕ) → Refusal → Type 0
LogCallsFor joints old new LongLog = TookExactly old new (log_limit + 1)
LogCallsFor joints old new refusal = ReadsRefused joints old new refusal

-- the name stands for a map, and a log for its arm calls for the refusal
pub record LogOverCallsFor (names : Option Names) (name : List ℕ) (old new : Option (List ℕ)) (refusal : Refusal) : Type 0 where
  pub map : Roadmap
  pub named : IsMapNamed names name map
  pub calls : LogCallsFor (length map.arm) old new refusal

-- what calls for a refusal where a log is replayed over the map of the name: that map, before the log was touched, or the log
abbrev pub ReplayCallsFor : Option Names → List ℕ → Option (List ℕ) → Option (List ℕ) → Refusal → Type 0
ReplayCallsFor names name old new refusal = (MapCallsFor names name refusal × Keeps old new) ⊎ LogOverCallsFor names name old new refusal

-- the words are a check of the map that is built in, or a replay over it: they have no use for the shelf
abbrev pub IsOverSample : List (List ℕ) → Type 0
IsOverSample words = IsCommand words (Check sample_name) ⊎ ((form : Form) × IsCommand words (Replay sample_name form))
