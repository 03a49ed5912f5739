-- Bounds of products, and of quotients that are rounded.
use Rattle.std.proofs.Common.{ℤ, pos, neg_ℤ, ◌*ℤ◌, ◌<ℤ◌, refl, sym}
use Rattle.drm_num.specs.Quotient.{floor, ceiling}
use Rattle.drm_num.specs.Small.{IsSmall}
use Rattle.drm_num.proofs.Integers.{along, cancels_right, negated_left, product_within, trans}
use Rattle.drm_num.proofs.Rounding.{IsFloor-floor, IsCeiling-ceiling, floor_above, ceiling_below}

pub IsSmall-product : {a b m n : ℤ} → IsSmall m a → IsSmall n b → IsSmall (m *ℤ n) (a *ℤ b)
IsSmall-product h k =
    let bounds = product_within h.low h.high k.low k.high in
    record { low = bounds.0; high = bounds.1 }

-- a quotient from -f to f is rounded to one from -f to f
pub IsSmall-floor : (f n d : ℤ) → pos 0 <ℤ d → IsSmall (f *ℤ d) n → IsSmall f (floor n d)
IsSmall-floor f n d above h = record {
  low = floor_above n d (neg_ℤ f) above (along (sym (negated_left f d)) refl h.low);
  high = cancels_right d above (trans (IsFloor-floor n d above).at_most h.high);
}

pub IsSmall-ceiling : (f n d : ℤ) → pos 0 <ℤ d → IsSmall (f *ℤ d) n → IsSmall f (ceiling n d)
IsSmall-ceiling f n d above h = record {
  low = cancels_right d above (along (sym (negated_left f d)) refl (trans h.low (IsCeiling-ceiling n d above).at_least));
  high = ceiling_below n d f above h.high;
}
