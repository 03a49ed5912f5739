-- Each refusal has its note.
use Rattle.std.proofs.Common.{inl}
use Rattle.drm_command.proofs.noting.tell_refusal.Goals as goal

pub returns-in-NoCommand : goal.returns-in-NoCommand
returns-in-NoCommand g c = rw c.in-NoCommand.is (inl c.tell_usage.ensures)

pub returns-in-NoRobot : goal.returns-in-NoRobot
returns-in-NoRobot g c = rw c.in-NoRobot.is c.tell_robot_fault.ensures

pub returns-in-NoMap : goal.returns-in-NoMap
returns-in-NoMap g c = rw c.in-NoMap.is c.tell_map_fault.ensures

pub returns-in-NoLog : goal.returns-in-NoLog
returns-in-NoLog g c = rw c.in-NoLog.is (inl c.tell_line.ensures)

pub returns-in-Unserved : goal.returns-in-Unserved
returns-in-Unserved g c = rw c.in-Unserved.is (inl c.tell_line-in-Unserved.ensures)

pub returns-in-LongRobot : goal.returns-in-LongRobot
returns-in-LongRobot g c = rw c.in-LongRobot.is (inl c.tell_long_file.ensures)

pub returns-in-LongMap : goal.returns-in-LongMap
returns-in-LongMap g c = rw c.in-LongMap.is (inl c.tell_long_file-in-LongMap.ensures)

pub returns-in-LongLog : goal.returns-in-LongLog
returns-in-LongLog g c = rw c.in-LongLog.is (inl c.tell_long_log.ensures)

pub returns-in-LongLines : goal.returns-in-LongLines
returns-in-LongLines g c = rw c.in-LongLines.is (inl c.tell_long_lines.ensures)

pub returns-in-LongSweeps : goal.returns-in-LongSweeps
returns-in-LongSweeps g c = rw c.in-LongSweeps.is (inl c.tell_long_sweeps.ensures)

pub returns-in-Lacks : goal.returns-in-Lacks
returns-in-Lacks g c = rw c.in-Lacks.is (inl c.tell_lack.ensures)

pub returns-in-Loose : goal.returns-in-Loose
returns-in-Loose g c = rw c.in-Loose.is (inl c.tell_loose.ensures)
