-- One more line of the caller is served, and there was room for its reply.
use Rattle.std.proofs.Common.{◌≡◌, ◌+◌, [], ◌∷◌, ◌++◌, take, ap, sym, ◌∙◌, arith}
use Rattle.std.proofs.lemmas.List.{take_more}
use Rattle.drm_talk.specs.declared.Line.{Line}
use Rattle.drm_work.proofs.WorkLemmas.{works_more, room_for}
use Rattle.drm_work.proofs.worker.work_in.Goals as goal

pub push_reserved-requires : goal.push_reserved-requires
push_reserved-requires g c =
    let before = c.loop-place.invariant in
    let its : c.index-lines-place.result.caller ≡ c.args.pass.now.caller = omega (arith, c.if-line-caller.false, c.caller-caller.ensures.exact) in
    let room = room_for c.args.pass.now.caller c.args.lines.now c.loop-place.place c.index-lines-place.result c.loop-place-test.true c.index-lines-place.is its in
    omega (arith, room, before.0.right.one_each, before.1, c.loop-place.replies.ok.0)

pub loop-place-preserved : goal.loop-place-preserved
loop-place-preserved g c =
    let before = c.loop-place.invariant in
    let its : c.index-lines-place.result.caller ≡ c.args.pass.now.caller = omega (arith, c.if-line-caller.false, c.caller-caller.ensures.exact) in
    let front : take (c.loop-place.place + 1) c.args.lines.now ≡ take c.loop-place.place c.args.lines.now ++ c.index-lines-place.result ∷ [] =
    take_more c.args.lines.now c.loop-place.place c.index-lines-place.result c.loop-place-test.true ∙ ap (λ (line : Line). take c.loop-place.place c.args.lines.now ++ line ∷ []) (sym c.index-lines-place.is) in
    let more = works_more c.right_replies_go_on.ensures c.planned_answers_go_on.ensures g.L.PlannerName.map (take c.loop-place.place c.args.lines.now) c.index-lines-place.result c.loop-place.replies.items c.serve.result
    c.args.pass.now c.loop-place.pass c.serve.new.pass its before.0 c.serve.ensures in
    (rw (front, c.push_reserved.ensures.items) more, omega (arith, before.1, c.push_reserved.ensures.capacity))
