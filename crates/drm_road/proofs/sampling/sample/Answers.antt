use Rattle.std.proofs.Common.{◌≡◌, if◌then◌else◌, [], ◌∷◌, ◌++◌, arith, rules}
use Rattle.drm_arm.specs.Config.{IsConfig}
use Rattle.drm_road.specs.Draws.{generator_of, draws_of, unrepeated}
use Rattle.drm_road.proofs.RepeatLemmas.{All-unrepeated, length-unrepeated, some-unrepeated}
use Rattle.drm_road.proofs.SampleLemmas.{sampling_none, sampling_more, draws_counted, unrepeated_alike}
use Rattle.drm_road.proofs.sampling.sample.Goals as goal
use Rattle.drm_road.proofs.sampling.sample.Goals.{then-branch+in_ok-push, else-branch}

pub loop-k-init : goal.loop-k-init
unfolding generator_of
loop-k-init c =
    rw (c.new-nodes.ensures.items, c.seed_from_u64-generator.ensures) (sampling_none c.args.arm.now (generator_of c.args.seed) c.new-met.result c.new-met.ensures.empty)

pub loop-k-preserved : goal.loop-k-preserved
loop-k-preserved c =
    let more = sampling_more c.args.arm.now (generator_of c.args.seed) c.loop-k._k c.loop-k.nodes.items c.loop-k.met c.loop-k.generator c.draw-config.result c.draw-config.new.generator c.is_new.new.met c.in_ok-is_new.field-0 c.loop-k.invariant c.draw-config.ensures.config c.draw-config.ensures.rest c.draw-config.ensures.valid c.in_ok-is_new.ensures in
    let pushed : c.if-branch.nodes.items ≡ (if c.in_ok-is_new.field-0 then c.loop-k.nodes.items ++ c.draw-config.result ∷ [] else c.loop-k.nodes.items) = elim c.if-branch.branch [
      | then-branch+in_ok-push w ↦ rw w.if-branch.true (search rules)
      | else-branch w ↦ rw w.if-branch.false (search rules)
    ] in
    rw pushed more

pub returns-clause-count : goal.returns-clause-count
returns-clause-count c =
    let is : c.from_vec.result ≡ unrepeated (draws_of c.args.arm.now (generator_of c.args.seed) c.args.draws) = search rules in
    let counted = draws_counted c.args.arm.now (generator_of c.args.seed) c.args.draws in
    let some = c.requires.some in
    rw is (some-unrepeated (draws_of c.args.arm.now (generator_of c.args.seed) c.args.draws) (omega arith), omega (arith, length-unrepeated (draws_of c.args.arm.now (generator_of c.args.seed) c.args.draws)))

pub returns-clause-configurations : goal.returns-clause-configurations
returns-clause-configurations c =
    let is : c.from_vec.result ≡ unrepeated (draws_of c.args.arm.now (generator_of c.args.seed) c.loop-k._k) = search rules in
    rw is (All-unrepeated (IsConfig c.args.arm.now) (draws_of c.args.arm.now (generator_of c.args.seed) c.loop-k._k) c.loop-k.invariant.configs)

pub returns-clause-alike : goal.returns-clause-alike
returns-clause-alike c =
    let is : c.from_vec.result ≡ unrepeated (draws_of c.args.arm.now (generator_of c.args.seed) c.loop-k._k) = search rules in
    rw is (unrepeated_alike c.args.arm.now (draws_of c.args.arm.now (generator_of c.args.seed) c.loop-k._k) c.loop-k.invariant.configs)
