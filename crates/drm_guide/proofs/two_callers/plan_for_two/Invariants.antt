-- The name of the planner: its ledger, the book of its history, and its map.
use Rattle.drm_guide.proofs.two_callers.plan_for_two.Given as goal

abbrev pub ghosts-work_for-L-Ledger : goal.ghosts-work_for-L-Ledger
ghosts-work_for-L-Ledger g a = record { name = a.blank.name; parts = a.blank.parts }

abbrev pub ghosts-work_for-L-Naming : goal.ghosts-work_for-L-Naming
ghosts-work_for-L-Naming g a = record { book = a.opened.book }

abbrev pub ghosts-work_for-L-PlannerName : goal.ghosts-work_for-L-PlannerName
ghosts-work_for-L-PlannerName g a = record { map = a.opened.map }
