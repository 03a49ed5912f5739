-- The words are those of the arguments past the first.
use Rattle.std.proofs.Common.{◌≡◌, rules, ap, ◌∙◌}
use Rattle.std.specs.Prelude.{string_bytes}
use Rattle.std.specs.Vec.Iter.{into_iter_items}
use Rattle.std.proofs.lemmas.Iterator.{YieldsList-from_map, items_from_collect}
use Rattle.std.proofs.lemmas.Iterator.Adapters.{YieldsList-from_vec, YieldsList-from_skip}
use Rattle.drm_tool.proofs.start.words_of.Goals as goal

pub returns-in_ok-collect-in-Ok-clause-words : goal.returns-in_ok-collect-in-Ok-clause-words
returns-in_ok-collect-in-Ok-clause-words c =
    let skipped = c.map.result.iter in
    let source : skipped.iter ≡ c.in-Ok.arguments = ap (λ s. s.iter) c.map.ensures.source ∙ c.skip.ensures.source in
    let count : skipped.n ≡ 1 = ap (λ s. s.n) c.map.ensures.source ∙ c.skip.ensures.count in
    let given = YieldsList-from_vec {s = skipped.iter} (into_iter_items c.in-Ok.arguments) (ap into_iter_items source) (rw source c.in-Ok.arguments.rest.ok.0) in
    let kept = YieldsList-from_skip {s = skipped} 1 given count in
    let h = items_from_collect c.collect.result c.collect.ensures.ran (YieldsList-from_map _ string_bytes kept c.map.ensures.closure (λ x r q k. search rules)) in
    rw c.in-Ok.is (rw c.in_ok-collect-in-Ok.was at h)
