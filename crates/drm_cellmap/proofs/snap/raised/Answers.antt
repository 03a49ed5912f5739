-- One more flag: it counts where it is raised.
use Rattle.std.proofs.Common.{◌<◌, ◌≡◌, ℕ, Bool, true, false, arith, length, List, get_or}
use Rattle.std.proofs.lemmas.Option.{slice_get-get_or}
use Rattle.drm_grid.specs.CellSet.{Has}
use Rattle.drm_cellmap.proofs.TallyLemmas.{tally_range_has, tally_range_lacks}
use Rattle.drm_cellmap.proofs.snap.raised.Goals as goal
use Rattle.drm_cellmap.proofs.snap.raised.Goals.{then-flag, else-flag}

has_raised : (flags : List Bool) (i : ℕ) → i < length flags → get_or flags i false ≡ true → Has flags i
has_raised flags i below e = rw (slice_get-get_or flags i false below, e)

lacks_lowered : (flags : List Bool) (i : ℕ) → i < length flags → get_or flags i false ≡ false → Has flags i → ⊥
lacks_lowered flags i below e has = let is = slice_get-get_or flags i false below in cc

pub loop-flag-preserved : goal.loop-flag-preserved
loop-flag-preserved c =
    elim c.if-flag.branch [
      | then-flag w ↦ (omega arith, rw w.count-is (tally_range_has _ _ _ c.loop-flag.invariant.1 (has_raised _ _ c.loop-flag-test.true w.if-flag.true)))
      | else-flag w ↦ (omega arith, rw w.count-is (tally_range_lacks _ _ _ c.loop-flag.invariant.1 (lacks_lowered _ _ c.loop-flag-test.true w.if-flag.false)))
    ]
