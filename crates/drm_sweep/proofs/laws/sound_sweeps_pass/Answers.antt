-- The swept cells lie between the near cells of one pad and of a quarter of the side more.
use Rattle.std.proofs.Common.{◌≡◌, ◌+◌, ◌/◌, ℕ, subst, arith}
use Rattle.drm_sweep.specs.Near.{IsNear}
use Rattle.drm_sweep.proofs.laws.sound_sweeps_pass.Goals as goal

pub returns : goal.returns
returns c = λ grid links motion stored scene sound.
    let none : 0 + grid.side / 4 ≡ grid.side / 4 = omega arith in
    record {
      holds = λ cell swept. sound.holds cell (subst (λ (pad : ℕ). IsNear grid links motion pad cell) none (c.swept_cells_are_near.ensures grid links motion 0 cell scene swept));
      within = λ cell has. c.near_cells_are_swept.ensures grid links motion (grid.side / 2) cell scene (sound.within cell has);
    }
