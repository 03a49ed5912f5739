-- The name of the planner: its ledger, the book of its history, and its map.
use Rattle.drm_work.proofs.tests.a_worker_serves_the_lines_of_its_caller.Given as goal

abbrev pub ghosts-worked-L-Ledger : goal.ghosts-worked-L-Ledger
ghosts-worked-L-Ledger g a = record { name = a.blank.name; parts = a.blank.parts }

abbrev pub ghosts-worked-L-Naming : goal.ghosts-worked-L-Naming
ghosts-worked-L-Naming g a = record { book = a.opened.book }

abbrev pub ghosts-worked-L-PlannerName : goal.ghosts-worked-L-PlannerName
ghosts-worked-L-PlannerName g a = record { map = a.opened.map }
