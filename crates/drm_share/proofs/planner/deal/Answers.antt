-- One more pass was dealt.
use Rattle.std.proofs.Common.{◌≡◌, List, [], ◌∷◌, ◌++◌, map, length, sym, ◌∙◌, ap, arith, add-one}
use Rattle.std.specs.List.{range_with_len}
use Rattle.drm_share.specs.Seen.{Seen, fresh}
use Rattle.drm_share.proofs.ClosingLemmas.{fresh_long, fresh_push}
use Rattle.drm_share.proofs.planner.deal.Goals as goal

pub push_reserved-requires : goal.push_reserved-requires
push_reserved-requires g c =
    let many = ap length c.loop-caller.invariant.0 ∙ fresh_long c.loop-caller.caller in
    omega (arith, many, c.loop-caller.passes.ok.0, c.loop-caller.invariant.1, c.loop-caller-test.true)

pub loop-caller-preserved : goal.loop-caller-preserved
loop-caller-preserved g c =
    let before = c.loop-caller.invariant in
    let front = c.again.ensures ∙ c.requires.front in
    let own = c.new.ensures.items in
    let new : ◌≡◌ {A = Seen} (record { caller = c.loop-caller.caller; front = c.again.result; own = c.new.result.items }) (fresh c.loop-caller.caller) = cc (front, own) in (
      rw add-one (c.push_reserved.ensures.items
          ∙ (ap (λ (xs : List Seen). xs ++ (record { caller = c.loop-caller.caller; front = c.again.result; own = c.new.result.items }) ∷ []) before.0
          ∙ (ap (λ (s : Seen). map fresh (range_with_len 0 c.loop-caller.caller) ++ s ∷ []) new ∙ sym (fresh_push c.loop-caller.caller)))),
      omega (arith, c.push_reserved.ensures.capacity, before.1),
      omega (arith, c.split_off.ensures.parts_left, before.2),
      omega (arith, c.split_off.ensures.amount_left, before.3),
      c.reader-reader.ensures.view ∙ before.4,
      c.reader-reader.ensures.shown ∙ before.5,
      c.reader-reader.ensures.pending ∙ before.6,
    )
