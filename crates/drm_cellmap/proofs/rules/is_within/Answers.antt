-- One joint more, or one that is outside its limits.
use Rattle.std.proofs.Common.{rules, to_z-of_z, FitsSigned, w32, ◌≡◌, ◌<◌, ◌≤◌, true, false, length, sym, ◌∙◌, arith}
use Rattle.drm_arm.specs.Config.{allows}
use Rattle.drm_cellmap.proofs.RuleLoops.{more_within, not_within, all_within}
use Rattle.drm_cellmap.proofs.rules.is_within.Goals as goal

pub returns-then-not-allows : goal.returns-then-not-allows
returns-then-not-allows c =
    let below : c.loop-j.j < length c.args.arm.now = omega (arith, c.loop-j-test.true, c.links-j-end.ensures.count) in
    let fits : FitsSigned w32 c.at.result = search rules in
    let fails : allows c.link.result c.at.result ≡ false = sym (rw (to_z-of_z fits) at c.allows.ensures) ∙ search rules in
    sym (not_within c.args.arm.now c.args.node.now c.loop-j.j c.link.result c.at.result c.requires below c.link.ensures.place c.at.ensures fails)

pub loop-j-preserved : goal.loop-j-preserved
loop-j-preserved c =
    let below : c.loop-j.j < length c.args.arm.now = omega (arith, c.loop-j-test.true, c.links-j-end.ensures.count) in
    let fits : FitsSigned w32 c.at.result = search rules in
    let passes : allows c.link.result c.at.result ≡ true = sym (rw (to_z-of_z fits) at c.allows.ensures) ∙ search rules in
    more_within c.args.arm.now c.args.node.now c.loop-j.j c.link.result c.at.result c.requires below c.link.ensures.place c.at.ensures c.loop-j.invariant passes

pub returns : goal.returns
returns c =
    let done : length c.args.arm.now ≤ c.loop-j.j = let test = c.loop-j-test.false in omega (arith, c.links-j-end.ensures.count) in
    sym (all_within c.args.arm.now c.args.node.now c.loop-j.j c.requires done c.loop-j.invariant)
