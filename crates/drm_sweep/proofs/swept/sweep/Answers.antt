-- What went from the full set is what the motion sweeps.
use Rattle.std.proofs.Common.{◌≡◌, ◌<◌, ◌∙◌, sym, replicate, true, ℕ, subst}
use Rattle.drm_sweep.specs.Swept.{IsSwept}
use Rattle.drm_sweep.proofs.TakenLemmas.{went_exactly}
use Rattle.drm_sweep.proofs.PoseLemmas.{swept_below}
use Rattle.drm_sweep.proofs.swept.sweep.Goals as goal

pub returns-clause-exact : goal.returns-clause-exact
returns-clause-exact c = λ cell.
    let same : c.cells-2.result ≡ c.cells.result = c.cells-2.ensures.exact ∙ sym c.cells.ensures.exact in
    went_exactly (IsSwept c.args.grid.now c.args.arm.now c.args.motion.now c.args.pad) c.cells.result cell c.in_ok-left.left c.take_swept.new.cells c.in_ok-swept.swept c.remove_all.new.self
    (λ is. subst (λ (n : ℕ). cell < n) (sym c.cells.ensures.exact) (swept_below c.args.grid.now c.args.arm.now c.args.motion.now c.args.pad cell is))
    c.in_ok-left.ensures
    (subst (λ (n : ℕ). c.in_ok-swept.swept ≡ replicate n true) same c.in_ok-swept.ensures)
    c.take_swept.ensures (c.remove_all.ensures.exact cell)
