-- The interval is the one between its ends.
use Rattle.std.proofs.Common.{◌≡◌, FitsSigned, w64, to_z-of_z, ap, ◌∙◌}
use Rattle.drm_num.proofs.IntervalLemmas.{same_ends}
use Rattle.drm_half.specs.Turned.{cosine_interval, sine_interval, ordered}
use Rattle.drm_half.proofs.TurnLemmas.{Lies-cosine, Lies-sine}
use Rattle.drm_half.proofs.WidthLemmas.{width-cosine_interval, width-sine_interval}
use Rattle.drm_half.proofs.turning.turn.Goals as goal

pub returns-clause-cosine_value : goal.returns-clause-cosine_value
returns-clause-cosine_value c =
    let low_fits : FitsSigned w64 c.lo.result = record { sfits = c.lo.type_inv } in
    let high_fits : FitsSigned w64 c.hi.result = record { sfits = c.hi.type_inv } in
    let whole : ordered c.at.result c.at-2.result ≡ c.args.t = same_ends _ _ (c.at.ensures ∙ to_z-of_z low_fits ∙ c.lo.ensures.value) (c.at-2.ensures ∙ to_z-of_z high_fits ∙ c.hi.ensures.value) in
    c.turn_up.ensures.cosine_value ∙ ap cosine_interval whole

pub returns-clause-sine_value : goal.returns-clause-sine_value
returns-clause-sine_value c =
    let low_fits : FitsSigned w64 c.lo.result = record { sfits = c.lo.type_inv } in
    let high_fits : FitsSigned w64 c.hi.result = record { sfits = c.hi.type_inv } in
    let whole : ordered c.at.result c.at-2.result ≡ c.args.t = same_ends _ _ (c.at.ensures ∙ to_z-of_z low_fits ∙ c.lo.ensures.value) (c.at-2.ensures ∙ to_z-of_z high_fits ∙ c.hi.ensures.value) in
    c.turn_up.ensures.sine_value ∙ ap sine_interval whole

pub returns-clause-cosine_contains : goal.returns-clause-cosine_contains
returns-clause-cosine_contains c = λ x h. rw (returns-clause-cosine_value c) (Lies-cosine h)

pub returns-clause-sine_contains : goal.returns-clause-sine_contains
returns-clause-sine_contains c = λ x h. rw (returns-clause-sine_value c) (Lies-sine h)

pub returns-clause-cosine_width : goal.returns-clause-cosine_width
returns-clause-cosine_width c = rw (returns-clause-cosine_value c) (width-cosine_interval c.args.t c.lo.ensures.ordered)

pub returns-clause-sine_width : goal.returns-clause-sine_width
returns-clause-sine_width c = rw (returns-clause-sine_value c) (width-sine_interval c.args.t c.lo.ensures.ordered)
