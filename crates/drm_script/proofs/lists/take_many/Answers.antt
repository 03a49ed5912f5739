-- One more value is read.
use Rattle.std.proofs.Common.{◌≡◌, ℕ, ◌+◌, ◌-◌, [], suc, ap, ◌∙◌, arith}
use Rattle.drm_script.specs.Reader.{many_at}
use Rattle.drm_script.proofs.ReaderLemmas.{many_goes_on}
use Rattle.drm_script.proofs.lists.take_many.Goals as goal

pub loop-at-preserved : goal.loop-at-preserved
loop-at-preserved g c =
    let l = c.loop-at in let read = g.T.Field.at in
    let left : suc (c.args.count - (l._at + 1)) ≡ c.args.count - l._at = omega (arith, c.loop-at-test.true) in
    rw c.in_ok-push.ensures.items (record {
      values = many_goes_on read (c.args.count - (l._at + 1)) l.values.items l.words.words _ _ (many_at read c.args.count [] c.args.words.now.words) c.in_ok-take.ensures.value
          (ap (λ (n : ℕ). many_at read n l.values.items l.words.words) left ∙ l.invariant.values);
      behind = c.in_ok-take.ensures.behind ∙ l.invariant.behind;
    })
