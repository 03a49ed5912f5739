-- The values stand at the ends, which are in order.
use Rattle.std.proofs.Common.{FitsSigned, w64, to_z-of_z, ◌∙◌}
use Rattle.drm_num.proofs.IntervalLemmas.{same_ends}
use Rattle.drm_half.specs.Turned.{cosine_interval, sine_interval, ordered}
use Rattle.drm_half.proofs.TurnLemmas.{IsOrdered-cosine_interval, IsOrdered-sine_interval, EndsWithin-cosine_interval, EndsWithin-sine_interval}
use Rattle.drm_half.proofs.turning.turn_up.Goals as goal

pub of-requires : goal.of-requires
unfolding cosine_interval
of-requires c =
    let least_fits : FitsSigned w64 c.least_cosine.result = record { sfits = c.least_cosine.type_inv } in
    let greatest_fits : FitsSigned w64 c.greatest_cosine.result = record { sfits = c.greatest_cosine.type_inv } in
    simp to_z-of_z (rw (c.least_cosine.ensures, c.greatest_cosine.ensures) (IsOrdered-cosine_interval (ordered c.args.low.now c.args.high.now) c.requires))

pub of-requires-2 : goal.of-requires-2
unfolding sine_interval
of-requires-2 c =
    let least_fits : FitsSigned w64 c.least_sine.result = record { sfits = c.least_sine.type_inv } in
    let greatest_fits : FitsSigned w64 c.greatest_sine.result = record { sfits = c.greatest_sine.type_inv } in
    simp to_z-of_z (rw (c.least_sine.ensures, c.greatest_sine.ensures) (IsOrdered-sine_interval (ordered c.args.low.now c.args.high.now) c.requires))

pub returns-clause-cosine_value : goal.returns-clause-cosine_value
unfolding cosine_interval
returns-clause-cosine_value c =
    let least_fits : FitsSigned w64 c.least_cosine.result = record { sfits = c.least_cosine.type_inv } in
    let greatest_fits : FitsSigned w64 c.greatest_cosine.result = record { sfits = c.greatest_cosine.type_inv } in
    same_ends _ _
    (c.of.ensures.lo ∙ to_z-of_z least_fits ∙ c.least_cosine.ensures)
    (c.of.ensures.hi ∙ to_z-of_z greatest_fits ∙ c.greatest_cosine.ensures)

pub returns-clause-sine_value : goal.returns-clause-sine_value
unfolding sine_interval
returns-clause-sine_value c =
    let least_fits : FitsSigned w64 c.least_sine.result = record { sfits = c.least_sine.type_inv } in
    let greatest_fits : FitsSigned w64 c.greatest_sine.result = record { sfits = c.greatest_sine.type_inv } in
    same_ends _ _
    (c.of-2.ensures.lo ∙ to_z-of_z least_fits ∙ c.least_sine.ensures)
    (c.of-2.ensures.hi ∙ to_z-of_z greatest_fits ∙ c.greatest_sine.ensures)

pub returns-clause-cosine_within : goal.returns-clause-cosine_within
returns-clause-cosine_within c = rw (returns-clause-cosine_value c) (EndsWithin-cosine_interval (ordered c.args.low.now c.args.high.now))

pub returns-clause-sine_within : goal.returns-clause-sine_within
returns-clause-sine_within c = rw (returns-clause-sine_value c) (EndsWithin-sine_interval (ordered c.args.low.now c.args.high.now))
