-- Right answers are truthful, and never tell of an unsound edge over a map that passes.
use Rattle.std.proofs.Common.{ℕ, suc, ◌<◌, List, [], ◌∷◌, refl, subst, arith}
use Rattle.std.specs.Prelude.{ℤ, All}
use Rattle.std.proofs.lemmas.Option.{slice_get_within}
use Rattle.std.proofs.lemmas.List.Elements.{All-nil, All-cons}
use Rattle.drm_arm.specs.declared.config.Motion.{Motion}
use Rattle.drm_arm.specs.Config.{IsConfig}
use Rattle.drm_grid.specs.CellSet.{Has}
use Rattle.drm_foot.specs.Laws.{HeldPointsAreInFoot}
use Rattle.drm_talk.specs.History.{IsLegal, Stands}
use Rattle.drm_talk.specs.declared.Answer.{Answer}
use Rattle.drm_talk.specs.declared.Answer.TheVariants.{Path, Cut, NoStart, NoGoal, Unsound}
use Rattle.drm_talk.specs.declared.End.{End}
use Rattle.drm_talk.specs.declared.Entry.{Entry}
use Rattle.drm_talk.specs.declared.Tried.{Tried}
use Rattle.drm_talk.specs.declared.Why.{Why}
use Rattle.drm_talk.specs.declared.Why.TheVariants.{Barred, Cell}
use Rattle.drm_talk.specs.declared.Element.TheVariants.{Edge}
use Rattle.drm_road.specs.Road.{motion_of}
use Rattle.drm_sweep.specs.Laws.{IsPassed, NearCellsAreSwept, SweptCellsAreNear, ReachedPointsAreInCells}
use Rattle.drm_cellmap.specs.Elements.{node_count, edge_count}
use Rattle.drm_cellmap.specs.Roadmap.{Roadmap, IsRoadmap, EachStored}
use Rattle.drm_cellmap.specs.Snapshot.{Snapshot, IsSnapOf}
use Rattle.drm_cellmap.specs.Routes.{IsOpen, IsSnapOn}
use Rattle.drm_cellmap.specs.Laws.{OpenEdgesAreClear}
use Rattle.drm_cert.specs.Laws.{PathsAreShortest}
use Rattle.drm_attach.specs.declared.ends.Way.{Way}
use Rattle.drm_attach.specs.declared.ends.Way.TheVariants.{Out, Home}
use Rattle.drm_attach.specs.Attached.{joining_motion, nodes_tried, Refuses, IsEnd, AreAllRefused}
use Rattle.drm_after.specs.After.{IsSnapAfter}
use Rattle.drm_plan.specs.Touches.{Touches, IsCovered}
use Rattle.drm_plan.specs.Legs.{IsLeg, AreClear, IsFirstMet}
use Rattle.drm_plan.specs.Right.{AreEnds, IsUnsound, IsRight, TellsUnsound}
use Rattle.drm_plan.specs.Truthful.{AreUntouched, IsUntouched, IsObstructed, AreObstructed, IsTruthful}
use Rattle.drm_plan.specs.AskLaws.{IsAsk}
use Rattle.drm_plan.proofs.TouchLemmas.{joining_is_motion, edge_is_motion, in_seam, standing_is_covered, clear_touches_nothing, touches_more, met_is_near}

-- the attached node is one of the road
pub attached_in_range : (map : Roadmap) (snap : Snapshot) (at : List ℤ) (way : Way) (end : End) → IsEnd map snap at way end → end.node < node_count map.road
attached_in_range map snap at way end is =
    in_seam (λ node. node < node_count map.road) (nodes_tried end.tried) end.node is.rest (subst (λ (nodes : List ℕ). All (λ node. node < node_count map.road) nodes) is.in_turn is.candidates.in_range)

pub leg_in_range : (map : Roadmap) (snap : Snapshot) (nodes : List ℕ) (k edge : ℕ) → IsLeg map.road snap nodes k edge → edge < edge_count map.road
leg_in_range map snap nodes k edge leg =
    subst (λ (i : ℕ). i < edge_count map.road) leg.same (slice_get_within map.road.edges leg.joins.edge (leg.joins.a, leg.joins.b) leg.joins.is_edge)

-- no motion of a path that sweeps no occupied cell touches what these cells cover
pub path_is_untouched : ReachedPointsAreInCells → NearCellsAreSwept → HeldPointsAreInFoot
    → (map : Roadmap) (snap : Snapshot) (start goal : List ℤ) (first last : End) (nodes : List ℕ)
    → IsAsk map snap start goal → AreEnds map snap start goal first last → AreClear map snap nodes
    → AreUntouched map snap start goal first last nodes (IsCovered map snap)
path_is_untouched in_cells swept in_foot map snap start goal first last nodes ask ends clear =
    let nothing = clear_touches_nothing in_cells swept in_foot map snap in
    record {
      out = nothing (joining_motion map.road start Out first.node) ask.limits (joining_is_motion map ask.limits start Out first.node ask.start_config (attached_in_range map snap start Out first ends.out)) ends.out.free.clear;
      legs = λ k edge leg. nothing (motion_of map.road (Edge edge)) ask.limits (edge_is_motion map ask.limits edge (leg_in_range map snap nodes k edge leg)) (λ cell. clear k edge cell leg);
      home = nothing (joining_motion map.road goal Home last.node) ask.limits (joining_is_motion map ask.limits goal Home last.node ask.goal_config (attached_in_range map snap goal Home last ends.home)) ends.home.free.clear;
    }

pub right_is_untouched : ReachedPointsAreInCells → NearCellsAreSwept → HeldPointsAreInFoot
    → (map : Roadmap) (snap : Snapshot) (start goal : List ℤ) (answer : Answer)
    → IsAsk map snap start goal → IsRight map snap start goal answer → IsUntouched map snap start goal answer
right_is_untouched in_cells swept in_foot map snap start goal (Path first last l nodes labels) ask (ends, cert, clear) =
    path_is_untouched in_cells swept in_foot map snap start goal first last nodes ask ends clear
right_is_untouched in_cells swept in_foot map snap start goal _ ask right = tt

untouched_by_standing : (map : Roadmap) (history : List Entry) (snap : Snapshot) (start goal : List ℤ) (first last : End) (nodes : List ℕ)
    → IsLegal history → IsSnapAfter map history snap
    → AreUntouched map snap start goal first last nodes (IsCovered map snap) → AreUntouched map snap start goal first last nodes (Stands history)
untouched_by_standing map history snap start goal first last nodes legal after h =
    let more : (motion : Motion) → Touches map.arm motion (Stands history) → Touches map.arm motion (IsCovered map snap) =
    λ motion. touches_more map.arm motion (Stands history) (IsCovered map snap) (λ shape stands. standing_is_covered map history snap shape legal after stands) in
    record {
      out = λ touches. h.out (more (joining_motion map.road start Out first.node) touches);
      legs = λ k edge leg touches. h.legs k edge leg (more (motion_of map.road (Edge edge)) touches);
      home = λ touches. h.home (more (joining_motion map.road goal Home last.node) touches);
    }

-- what refuses a candidate obstructs it
refused_is_obstructed : SweptCellsAreNear → (map : Roadmap) (history : List Entry) (snap : Snapshot) (at : List ℤ) (way : Way) (node : ℕ) (why : Why)
    → IsRoadmap map → IsConfig map.arm at → IsSnapAfter map history snap → node < node_count map.road
    → Refuses map snap at way node why → IsObstructed map history snap at way node why
refused_is_obstructed near map history snap at way node Barred limits config after inside refuses = refuses
refused_is_obstructed near map history snap at way node (Cell cell) limits config after inside refuses =
    met_is_near near map history snap (joining_motion map.road at way node) cell limits (joining_is_motion map limits at way node config inside) after refuses.1.0

all_obstructed : SweptCellsAreNear → (map : Roadmap) (history : List Entry) (snap : Snapshot) (at : List ℤ) (way : Way) (tried : List Tried)
    → IsRoadmap map → IsConfig map.arm at → IsSnapAfter map history snap
    → AreAllRefused map snap at way tried → AreObstructed map history snap at way tried
all_obstructed near map history snap at way tried limits config after refused = record {
  candidates = refused.candidates;
  each = obstructed tried refused.candidates.in_range refused.refused;
}
  where
    obstructed : (tried : List Tried) → All (λ node. node < node_count map.road) (nodes_tried tried) → All (λ t. Refuses map snap at way t.node t.why) tried → All (λ t. IsObstructed map history snap at way t.node t.why) tried
    obstructed [] inside refused = All-nil (λ t. IsObstructed map history snap at way t.node t.why)
    obstructed (t ∷ tried) inside refused =
        All-cons (λ t. IsObstructed map history snap at way t.node t.why) t tried
        (refused_is_obstructed near map history snap at way t.node t.why limits config after (inside 0 t.node (omega arith)) (refused 0 t (omega arith)))
        (obstructed tried (λ k d below. inside (suc k) d (omega arith)) (λ k d below. refused (suc k) d (omega arith)))

-- right answers are truthful
pub right_is_truthful : ReachedPointsAreInCells → NearCellsAreSwept → SweptCellsAreNear → HeldPointsAreInFoot → OpenEdgesAreClear → PathsAreShortest
    → (map : Roadmap) (history : List Entry) (snap : Snapshot) (start goal : List ℤ) (answer : Answer)
    → IsAsk map snap start goal → IsLegal history → IsSnapAfter map history snap
    → IsRight map snap start goal answer → IsTruthful map history snap start goal answer
right_is_truthful in_cells swept near in_foot open_clear shortest map history snap start goal (Path first last l nodes labels) ask legal after (ends, cert, clear) = (
  untouched_by_standing map history snap start goal first last nodes legal after (path_is_untouched in_cells swept in_foot map snap start goal first last nodes ask ends clear),
  record { route = cert.route; least = λ others k route. shortest map.road snap first.node last.node l k nodes others labels cert route },
)
right_is_truthful in_cells swept near in_foot open_clear shortest map history snap start goal (Cut first last side) ask legal after (ends, cert) =
    record { inside = cert.inside; outside = cert.outside; barred = cert.barred }
right_is_truthful in_cells swept near in_foot open_clear shortest map history snap start goal (NoStart tried) ask legal after refused =
    all_obstructed near map history snap start Out tried ask.limits ask.start_config after refused
right_is_truthful in_cells swept near in_foot open_clear shortest map history snap start goal (NoGoal tried) ask legal after (first, refused) =
    all_obstructed near map history snap goal Home tried ask.limits ask.goal_config after refused
right_is_truthful in_cells swept near in_foot open_clear shortest map history snap start goal (Unsound first last edge cell) ask legal after (ends, unsound) = record {
  in_range = unsound.in_range;
  clear = unsound.clear;
  near = met_is_near near map history snap (motion_of map.road (Edge edge)) cell ask.limits (edge_is_motion map ask.limits edge unsound.in_range) after unsound.met;
  lacks = λ has. open_clear map snap edge cell ask.of_map unsound.in_range unsound.clear has unsound.met.0;
}

-- over a map whose stored sweeps pass, no right answer tells of an unsound edge
pub passed_is_never_unsound : OpenEdgesAreClear → (map : Roadmap) (snap : Snapshot) (start goal : List ℤ) (answer : Answer)
    → IsSnapOf map snap → EachStored IsPassed map → IsRight map snap start goal answer → ¬ TellsUnsound answer
passed_is_never_unsound open_clear map snap start goal (Unsound first last edge cell) of_map passed (ends, unsound) tells =
    open_clear map snap edge cell of_map unsound.in_range unsound.clear ((passed (Edge edge) unsound.in_range).holds cell unsound.met.1) unsound.met.0
passed_is_never_unsound open_clear map snap start goal _ of_map passed right tells = absurd tells

-- ---- for the search between two attachments

pub attached_is_open : (map : Roadmap) (snap : Snapshot) (at : List ℤ) (way : Way) (end : End) → IsEnd map snap at way end → IsOpen map.road snap end.node
attached_is_open map snap at way end is = record { in_range = attached_in_range map snap at way end is; clear = is.free.open_node }

pub is_snap_on : (map : Roadmap) (snap : Snapshot) → IsRoadmap map → IsSnapOf map snap → IsSnapOn map.road snap
is_snap_on map snap limits of_map = record { map = map; limits = limits; same = refl; of_map = of_map }

-- the edge of the first leg that is met is not barred
pub first_met_is_unsound : (map : Roadmap) (snap : Snapshot) (nodes : List ℕ) (edge cell : ℕ) → IsFirstMet map snap nodes edge cell → IsUnsound map snap edge cell
first_met_is_unsound map snap nodes edge cell met = record {
  in_range = leg_in_range map snap nodes met.k edge met.leg;
  clear = subst (λ (i : ℕ). ¬ Has snap.edges i) met.leg.same met.leg.joins.clear;
  met = met.least.0;
}
