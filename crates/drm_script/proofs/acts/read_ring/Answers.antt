-- One more coordinate is read, or what is left begins with none.
use Rattle.std.proofs.Common.{◌≡◌, ℕ, ◌+◌, ◌-◌, List, [], suc, take, sym, ap, ◌∙◌, arith, rules, true≢false, to_z-of_z, length-set}
use Rattle.std.specs.Int.{w32}
use Rattle.std.specs.Int.RustNames.{FitsSigned}
use Rattle.std.proofs.lemmas.List.{take_more_set}
use Rattle.std.proofs.lemmas.Result.{err_from_is_err_and}
use Rattle.drm_script.specs.Limits.{ring_limit}
use Rattle.drm_script.specs.Reader.{signed_at, all_of}
use Rattle.drm_script.proofs.RingLemmas.{one_more_there, ring_fails}
use Rattle.drm_script.proofs.acts.read_ring.Goals as goal
use lib.IntN.{ℤ}

pub returns-in_err-xy-clause-ring : goal.returns-in_err-xy-clause-ring
returns-in_err-xy-clause-ring c =
    let l = c.loop-xy in let p = err_from_is_err_and c.from_residual.result c.from_residual.ensures.1 in
    let left : suc (ring_limit - (l.count + 1)) ≡ ring_limit - l.count = omega (arith, l.invariant.few, c.if-count-eq-RING_LIMIT.false) in
    rw (p.1, p.2)
    (ring_fails c.in_err-xy.field-0.0 (ring_limit - (l.count + 1)) (take l.count l.xy) l.words.words c.args.words.now.words (λ none. true≢false (sym (c.is_empty.ensures.1 none) ∙ c.loop-xy-test.true)) c.in_err-xy.ensures.number
    (ap (λ (n : ℕ). all_of signed_at n (take l.count l.xy) l.words.words) left ∙ l.invariant.read))

pub loop-xy-preserved : goal.loop-xy-preserved
loop-xy-preserved c =
    let l = c.loop-xy in let x = c.in_ok-xy.field-0 in
    let fits : FitsSigned w32 x = search rules in
    let left : suc (ring_limit - (l.count + 1)) ≡ ring_limit - l.count = omega (arith, l.invariant.few, c.if-count-eq-RING_LIMIT.false) in
    let more = one_more_there (ring_limit - (l.count + 1)) (take l.count l.xy) l.words.words x c.take_signed.new.words.words (all_of signed_at ring_limit [] c.args.words.now.words) (λ none. true≢false (sym (c.is_empty.ensures.1 none) ∙ c.loop-xy-test.true)) c.in_ok-xy.ensures.number
    (ap (λ (n : ℕ). all_of signed_at n (take l.count l.xy) l.words.words) left ∙ l.invariant.read) in
    rw (to_z-of_z fits) (record {
      read = ap (λ (zs : List ℤ). all_of signed_at (ring_limit - (l.count + 1)) zs c.take_signed.new.words.words) (take_more_set l.xy l.count x (omega (arith, l.invariant.few, l.invariant.places, c.if-count-eq-RING_LIMIT.false))) ∙ more;
      behind = c.in_ok-xy.ensures.behind ∙ l.invariant.behind;
      few = omega (arith, l.invariant.few, c.if-count-eq-RING_LIMIT.false);
      places = length-set l.xy l.count x ∙ l.invariant.places;
    })
