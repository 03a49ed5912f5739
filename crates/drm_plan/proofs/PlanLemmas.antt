-- The plan is right: what the search finds between two attachments is certified.
use Rattle.drm_cellmap.specs.Roadmap.{Roadmap}
use Rattle.drm_cellmap.specs.Snapshot.{Snapshot}
use Rattle.drm_route.specs.Laws.{FoundIsCertified}
use Rattle.drm_route.specs.declared.shortest.Found.{Found}
use Rattle.drm_route.specs.declared.shortest.Found.TheVariants.{Path as Route, Cut as NoRoute}
use Rattle.drm_route.specs.Search.{IsFound, IsCertified}
use Rattle.drm_talk.specs.declared.Answer.TheVariants.{Path, Cut, NoStart, NoGoal, Unsound}
use Rattle.drm_talk.specs.declared.End.{End}
use Rattle.drm_attach.specs.declared.ends.Way.TheVariants.{Out}
use Rattle.drm_plan.specs.AskLaws.{IsAsk, PlansAreRight}
use Rattle.drm_plan.specs.Right.{AreEnds}
use Rattle.std.specs.Prelude.{ℤ, List}
use Rattle.drm_plan.proofs.AnswerLemmas.{attached_is_open, is_snap_on, first_met_is_unsound}

-- what the search finds from the one attachment to the other is certified
found_between : FoundIsCertified → (map : Roadmap) (snap : Snapshot) (start goal : List ℤ) (first last : End) (found : Found)
    → IsAsk map snap start goal → AreEnds map snap start goal first last → IsFound map.road snap first.node last.node found
    → IsCertified map.road snap first.node last.node found
found_between certified map snap start goal first last found ask ends is =
    certified map.road snap first.node last.node found (is_snap_on map snap ask.limits ask.of_map) (attached_is_open map snap start Out first ends.out) is

pub plan_is_right : FoundIsCertified → PlansAreRight
plan_is_right certified map snap start goal (Path first last l nodes labels) ask (ends, found, clear) =
    (ends, found_between certified map snap start goal first last (Route nodes l labels) ask ends found, clear)
plan_is_right certified map snap start goal (Cut first last side) ask (ends, found) =
    (ends, found_between certified map snap start goal first last (NoRoute side) ask ends found)
plan_is_right certified map snap start goal (NoStart tried) ask plan = plan
plan_is_right certified map snap start goal (NoGoal tried) ask plan = plan
plan_is_right certified map snap start goal (Unsound first last edge cell) ask (ends, found) =
    (ends, first_met_is_unsound map snap found.nodes edge cell found.met)
