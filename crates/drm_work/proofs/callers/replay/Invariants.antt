-- The name of the planner: its ledger, the book of its history, and its map.
use Rattle.drm_work.proofs.callers.replay.Given as goal

abbrev pub ghosts-run-L-Ledger : goal.ghosts-run-L-Ledger
ghosts-run-L-Ledger g a = record { name = a.blank.name; parts = a.blank.parts }

abbrev pub ghosts-run-L-Naming : goal.ghosts-run-L-Naming
ghosts-run-L-Naming g a = record { book = a.opened.book }

abbrev pub ghosts-run-L-PlannerName : goal.ghosts-run-L-PlannerName
ghosts-run-L-PlannerName g a = record { map = a.opened.map }
