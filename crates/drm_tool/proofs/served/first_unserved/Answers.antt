-- One more line is served, or there is none left.
use Rattle.std.proofs.Common.{◌≤◌, length, IsTrue, subst, arith, rules}
use Rattle.std.specs.List.{All}
use Rattle.std.proofs.lemmas.List.{take_all}
use Rattle.std.proofs.lemmas.List.Elements.{All-more}
use Rattle.drm_tool.specs.Served.{IsServed}
use Rattle.drm_tool.proofs.served.first_unserved.Goals as goal

pub loop-i-preserved : goal.loop-i-preserved
loop-i-preserved c =
    let is : IsTrue c.is_served.result = search rules in
    All-more IsServed c.args.lines.now c.loop-i.i c.index-lines-i.result c.loop-i-test.true c.loop-i.invariant (subst IsServed c.index-lines-i.is (c.is_served.ensures.0 is))

pub returns : goal.returns
returns c =
    let past : length c.args.lines.now ≤ c.loop-i.i = let test = c.loop-i-test.false in omega arith in
    subst (All IsServed) (take_all c.loop-i.i c.args.lines.now past) c.loop-i.invariant
