-- How faults print.
use Rattle.std.specs.Prelude.{ℕ, List, ◌++◌, codes, decimal}
use Rattle.drm_script.specs.declared.LinesFault.{LinesFault}
use Rattle.drm_script.specs.declared.LinesFault.TheVariants.{Lines, Memory}
use Rattle.drm_script.specs.declared.LogFault.{LogFault}
use Rattle.drm_script.specs.declared.LogFault.TheVariants.{Lines as TooManyLines, Line, Memory as NoMemory}
use Rattle.drm_script.specs.declared.ReportFault.{ReportFault}
use Rattle.drm_script.specs.declared.ReportFault.TheVariants.{Line as ReportLine, Memory as NoReportMemory}

-- the words for a log that has too many lines
abbrev too_many_text : ℕ → List ℕ
too_many_text n = codes "there are " ++ (decimal n ++ codes " lines, and 200000 are read at most")

-- the words for a fault of all lines of a log
abbrev pub lines_fault_text : LinesFault → List ℕ
lines_fault_text (Lines n) = too_many_text n
lines_fault_text Memory = codes "there was no memory to read the log"

-- the words for a fault of a log
abbrev pub log_fault_text : LogFault → List ℕ
log_fault_text (TooManyLines n) = too_many_text n
log_fault_text (Line i) = codes "line " ++ (decimal i ++ codes " is not in the grammar")
log_fault_text NoMemory = codes "there was no memory to read the log"

-- the words for a fault of a report
abbrev pub report_fault_text : ReportFault → List ℕ
report_fault_text (ReportLine i) = codes "line " ++ (decimal i ++ codes " may not stand there, or the end line is missing there")
report_fault_text NoReportMemory = codes "there was no memory to read the report"
