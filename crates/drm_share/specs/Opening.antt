-- A planner before it has a name.
use Rattle.std.specs.Prelude.{ℕ}
use Rattle.logbook.specs.Pages.{Book}
use Rattle.drm_cellmap.specs.Roadmap.{Roadmap}

-- the book of its history, its map, and how many callers there will be
pub record Opening : Type 0 where
  pub book : Book
  pub map : Roadmap
  pub callers : ℕ
