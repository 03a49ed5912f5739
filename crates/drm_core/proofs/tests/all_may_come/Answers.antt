-- One more event may come.
use Rattle.std.proofs.Common.{◌≡◌, ◌⊎◌, inl, inr, ℕ, ◌+◌, ◌<◌, get_or, IsTrue, ◌∙◌, arith, rules}
use Rattle.drm_num.proofs.Lists.{any_default}
use Rattle.drm_core.proofs.tests.all_may_come.Goals as goal

split : (k n : ℕ) → k < n + 1 → (k < n) ⊎ (k ≡ n)
split k n below = grind arith

pub loop-event-preserved : goal.loop-event-preserved
loop-event-preserved c k zero below =
    let is : IsTrue c.may_come.result = search rules in
    let here : c.event-item.result ≡ get_or c.args.events.now c.loop-event.event-index zero = c.event-item.is ∙ any_default c.args.events.now c.loop-event.event-index c.event-item.result zero c.loop-event-test.true in
    elim (split k c.loop-event.event-index below) [
      | inl less ↦ c.loop-event.invariant k zero less
      | inr same ↦ rw same (rw here at (c.may_come.ensures is))
    ]
