-- Between tangents on both sides of 0 the greatest cosine is 1.
use Rattle.std.proofs.Common.{◌≤ℤ◌, pos, rules}
use Rattle.drm_half.proofs.TurnLemmas.{cosine_across}
use Rattle.drm_half.proofs.turning.greatest_cosine.Goals as goal

pub returns-else-high-lt0 : goal.returns-else-high-lt0
returns-else-high-lt0 c =
    let low : c.args.low.now ≤ℤ pos 0 = search rules in
    let high : pos 0 ≤ℤ c.args.high.now = search rules in
    cosine_across c.args.low.now c.args.high.now low high
