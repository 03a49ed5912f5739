-- The name of the planner: its ledger, the book of its history, and its map.
use Rattle.drm_share.proofs.tests.open.Given as goal

abbrev pub ghosts-play-L-Ledger : goal.ghosts-play-L-Ledger
ghosts-play-L-Ledger g a = record { name = a.blank.name; parts = a.blank.parts }

abbrev pub ghosts-play-L-Naming : goal.ghosts-play-L-Naming
ghosts-play-L-Naming g a = record { book = a.opened.book }

abbrev pub ghosts-play-L-PlannerName : goal.ghosts-play-L-PlannerName
ghosts-play-L-PlannerName g a = record { map = a.opened.map }
