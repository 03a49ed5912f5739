-- One more corner is printed.
use Rattle.std.proofs.Common.{ℕ, ◌<◌, subst, rules, to_z-of_z, ◌∙◌}
use Rattle.std.specs.Int.{w32}
use Rattle.std.specs.Int.RustNames.{FitsSigned}
use Rattle.drm_script.proofs.PrintLemmas.{corner_printed}
use Rattle.drm_script.proofs.shapes.print_ring.Goals as goal

pub loop-i-preserved : goal.loop-i-preserved
loop-i-preserved c =
    let x_fits : FitsSigned w32 c.x-x.result = search rules in
    let y_fits : FitsSigned w32 c.y-y.result = search rules in
    corner_printed _ _ _ c.args.ring.now c.loop-i.i _ _ (subst (λ (n : ℕ). c.loop-i.i < n) c.corners-i-end.ensures.count c.loop-i-test.true)
    (to_z-of_z x_fits ∙ c.x-x.ensures) (to_z-of_z y_fits ∙ c.y-y.ensures) c.loop-i.invariant c.in_ok-write.ensures.bytes
