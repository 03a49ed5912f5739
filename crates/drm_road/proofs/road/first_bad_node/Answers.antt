use Rattle.std.proofs.Common.{◌≡◌, ◌≢◌, ◌+◌, not, [], ◌∷◌, ◌++◌, length, take, get_or, ap, sym, ◌∙◌, below_more, refl, arith}
use Rattle.std.specs.List.{list_any}
use Rattle.std.proofs.lemmas.Option.{slice_get_read}
use Rattle.drm_road.specs.Draws.{is_same}
use Rattle.drm_road.specs.RoadFaults.{keeps_nodes}
use Rattle.drm_road.proofs.ListLemmas.{get_or_read, taken_more}
use Rattle.drm_road.proofs.SampleLemmas.{met_none, met_more, met_tells}
use Rattle.drm_road.proofs.RoadLemmas.{first_broken, never_broken, other_joints, same_joints}
use Rattle.drm_road.proofs.road.first_bad_node.Goals as goal

pub returns-then-joints-clause-place : goal.returns-then-joints-clause-place
returns-then-joints-clause-place c =
    let here = get_or_read c.args.nodes.now c.loop-i.i c.index-nodes-i.result [] c.loop-i-test.true c.index-nodes-i.is in
    let first = get_or_read c.args.nodes.now 0 c.index-nodes-0.result [] c.requires c.index-nodes-0.is in
    let differ : length (get_or c.args.nodes.now c.loop-i.i []) ≢ length (get_or c.args.nodes.now 0 []) =
    λ same. c.if-joints.true (c.joints.ensures.count ∙ (sym (ap length here) ∙ (same ∙ (ap length first ∙ sym c.joints-joints.ensures.count)))) in
    sym (first_broken (keeps_nodes c.args.nodes.now) (length c.args.nodes.now) c.loop-i.i c.loop-i-test.true c.loop-i.invariant.0 (other_joints c.args.nodes.now c.loop-i.i differ))

pub returns-then-not-branch-clause-place : goal.returns-then-not-branch-clause-place
returns-then-not-branch-clause-place c =
    let here = get_or_read c.args.nodes.now c.loop-i.i c.index-nodes-i.result [] c.loop-i-test.true c.index-nodes-i.is in
    let first = get_or_read c.args.nodes.now 0 c.index-nodes-0.result [] c.requires c.index-nodes-0.is in
    let counted : length c.index-nodes-i.result ≡ c.joints-joints.result = sym c.joints.ensures.count ∙ c.if-joints.false in
    let alike : length (get_or c.args.nodes.now c.loop-i.i []) ≡ length (get_or c.args.nodes.now 0 []) = ap length here ∙ (counted ∙ (c.joints-joints.ensures.count ∙ sym (ap length first))) in
    let tells = met_tells c.loop-i.met c.is_new.new.met c.joints-joints.result (take c.loop-i.i c.args.nodes.now) c.index-nodes-i.result c.in_ok-is_new.field-0 c.loop-i.invariant.1 counted c.in_ok-is_new.ensures in
    let told : c.in_ok-is_new.field-0 ≡ not (list_any (is_same (get_or c.args.nodes.now c.loop-i.i [])) (take c.loop-i.i c.args.nodes.now)) = rw here tells in
    sym (first_broken (keeps_nodes c.args.nodes.now) (length c.args.nodes.now) c.loop-i.i c.loop-i-test.true c.loop-i.invariant.0 (same_joints c.args.nodes.now c.loop-i.i c.in_ok-is_new.field-0 alike told ∙ c.if-not-branch.true))

pub loop-i-init : goal.loop-i-init
loop-i-init c = ((λ k below. absurd (omega arith)), met_none c.new-met.result c.joints-joints.result (λ key. rw c.new-met.ensures.empty refl))

pub loop-i-preserved : goal.loop-i-preserved
loop-i-preserved c =
    let here = get_or_read c.args.nodes.now c.loop-i.i c.index-nodes-i.result [] c.loop-i-test.true c.index-nodes-i.is in
    let first = get_or_read c.args.nodes.now 0 c.index-nodes-0.result [] c.requires c.index-nodes-0.is in
    let counted : length c.index-nodes-i.result ≡ c.joints-joints.result = sym c.joints.ensures.count ∙ c.if-joints.false in
    let alike : length (get_or c.args.nodes.now c.loop-i.i []) ≡ length (get_or c.args.nodes.now 0 []) = ap length here ∙ (counted ∙ (c.joints-joints.ensures.count ∙ sym (ap length first))) in
    let tells = met_tells c.loop-i.met c.is_new.new.met c.joints-joints.result (take c.loop-i.i c.args.nodes.now) c.index-nodes-i.result c.in_ok-is_new.field-0 c.loop-i.invariant.1 counted c.in_ok-is_new.ensures in
    let told : c.in_ok-is_new.field-0 ≡ not (list_any (is_same (get_or c.args.nodes.now c.loop-i.i [])) (take c.loop-i.i c.args.nodes.now)) = rw here tells in
    let keeps = same_joints c.args.nodes.now c.loop-i.i c.in_ok-is_new.field-0 alike told ∙ c.if-not-branch.false in
    let one_more : take (c.loop-i.i + 1) c.args.nodes.now ≡ take c.loop-i.i c.args.nodes.now ++ c.index-nodes-i.result ∷ [] =
    taken_more c.args.nodes.now c.loop-i.i c.index-nodes-i.result (slice_get_read c.args.nodes.now (length c.args.nodes.now) c.loop-i.i c.index-nodes-i.result refl c.loop-i-test.true c.index-nodes-i.is) in
    (below_more _ _ c.loop-i.invariant.0 keeps, rw one_more (met_more c.loop-i.met c.is_new.new.met c.joints-joints.result (take c.loop-i.i c.args.nodes.now) c.index-nodes-i.result c.in_ok-is_new.field-0 c.loop-i.invariant.1 counted c.in_ok-is_new.ensures))

pub returns-clause-place : goal.returns-clause-place
returns-clause-place c =
    let done : c.loop-i.i ≡ length c.args.nodes.now = let end = c.loop-i.auto.i-end in let test = c.loop-i-test.false in omega arith in
    sym (never_broken (keeps_nodes c.args.nodes.now) (length c.args.nodes.now) (rw done at c.loop-i.invariant.0))
