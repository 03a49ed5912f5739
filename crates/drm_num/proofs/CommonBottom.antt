-- What the operations hold of numbers that are written over common denominators.
use Rattle.std.proofs.Common.{ℤ, pos, ◌+ℤ◌, ◌-ℤ◌, ◌*ℤ◌, ◌≤ℤ◌, ◌<ℤ◌, refl, [], ◌∷◌}
use Rattle.drm_num.specs.Fraction.{IsSame}
use Rattle.drm_num.specs.Interval.{Interval, Lies}
use Rattle.drm_num.specs.Arithmetic.{sum, difference, scaled, product_sum, product_difference}
use Rattle.drm_num.proofs.Integers.{product_above_zero}
use Rattle.drm_num.proofs.Ring.{Var, Lit, Sum, Prod, Neg, ring}
use Rattle.drm_num.proofs.FractionLemmas.{IsSame-cancelled, IsSame-turned}
use Rattle.drm_num.proofs.IntervalLemmas.{Lies-same, Lies-sum, Lies-difference, Lies-scaled}
use Rattle.drm_num.proofs.ProductLemmas.{Lies-product_sum, Lies-product_difference}

-- top and bottom times a number above zero
pub Lies-expanded : (k t b : ℤ) {s : Interval} → pos 0 <ℤ k → Lies (record { top = t; bottom = b }) s → Lies (record { top = k *ℤ t; bottom = k *ℤ b }) s
Lies-expanded k t b p h = Lies-same (product_above_zero p h.proper) (IsSame-turned (IsSame-cancelled k t b)) h

-- n / b + m / b and n / b - m / b
pub Lies-common_sum : (n m b : ℤ) {s u : Interval} → Lies (record { top = n; bottom = b }) s → Lies (record { top = m; bottom = b }) u → Lies (record { top = n +ℤ m; bottom = b }) (sum s u)
Lies-common_sum n m b {s} {u} h k =
    let x = Var 0 in
    let y = Var 1 in
    let z = Var 2 in
    let same : IsSame (record { top = (n *ℤ b) +ℤ (m *ℤ b); bottom = b *ℤ b }) (record { top = n +ℤ m; bottom = b }) = record { same = ring (n ∷ m ∷ b ∷ []) (Prod (Sum (Prod x z) (Prod y z)) z) (Prod (Sum x y) (Prod z z)) refl } in
    Lies-same h.proper same (Lies-sum h k)

pub Lies-common_difference : (n m b : ℤ) {s u : Interval} → Lies (record { top = n; bottom = b }) s → Lies (record { top = m; bottom = b }) u → Lies (record { top = n -ℤ m; bottom = b }) (difference s u)
Lies-common_difference n m b {s} {u} h k =
    let x = Var 0 in
    let y = Var 1 in
    let z = Var 2 in
    let same : IsSame (record { top = (n *ℤ b) -ℤ (m *ℤ b); bottom = b *ℤ b }) (record { top = n -ℤ m; bottom = b }) = record { same = ring (n ∷ m ∷ b ∷ []) (Prod (Sum (Prod x z) (Neg (Prod y z))) z) (Prod (Sum x (Neg y)) (Prod z z)) refl } in
    Lies-same h.proper same (Lies-difference h k)

-- k times n / b
pub Lies-multiple : (k n b : ℤ) {s : Interval} → pos 0 ≤ℤ k → Lies (record { top = n; bottom = b }) s → Lies (record { top = k *ℤ n; bottom = b }) (scaled k s)
Lies-multiple k n b {s} p h =
    let x = Var 0 in
    let y = Var 1 in
    let z = Var 2 in
    let same : IsSame (record { top = k *ℤ n; bottom = pos 1 *ℤ b }) (record { top = k *ℤ n; bottom = b }) = record { same = ring (k ∷ n ∷ b ∷ []) (Prod (Prod x y) z) (Prod (Prod x y) (Prod (Lit (pos 1)) z)) refl } in
    Lies-same h.proper same (Lies-scaled k p h)

-- n / b * m / e + k / b * l / e, and the difference
pub Lies-turned_sum : (n m k l b e : ℤ) {s u v w : Interval} → Lies (record { top = n; bottom = b }) s → Lies (record { top = m; bottom = e }) u → Lies (record { top = k; bottom = b }) v → Lies (record { top = l; bottom = e }) w → Lies (record { top = (n *ℤ m) +ℤ (k *ℤ l); bottom = b *ℤ e }) (product_sum s u v w)
Lies-turned_sum n m k l b e hn hm hk hl =
    let x = Var 0 in
    let y = Var 1 in
    let z = Var 2 in
    let same : IsSame (record { top = ((n *ℤ m) *ℤ (b *ℤ e)) +ℤ ((k *ℤ l) *ℤ (b *ℤ e)); bottom = (b *ℤ e) *ℤ (b *ℤ e) }) (record { top = (n *ℤ m) +ℤ (k *ℤ l); bottom = b *ℤ e }) = record { same = ring ((n *ℤ m) ∷ (k *ℤ l) ∷ (b *ℤ e) ∷ []) (Prod (Sum (Prod x z) (Prod y z)) z) (Prod (Sum x y) (Prod z z)) refl } in
    Lies-same (product_above_zero hn.proper hm.proper) same (Lies-product_sum hn hm hk hl)

pub Lies-turned_difference : (n m k l b e : ℤ) {s u v w : Interval} → Lies (record { top = n; bottom = b }) s → Lies (record { top = m; bottom = e }) u → Lies (record { top = k; bottom = b }) v → Lies (record { top = l; bottom = e }) w → Lies (record { top = (n *ℤ m) -ℤ (k *ℤ l); bottom = b *ℤ e }) (product_difference s u v w)
Lies-turned_difference n m k l b e hn hm hk hl =
    let x = Var 0 in
    let y = Var 1 in
    let z = Var 2 in
    let same : IsSame (record { top = ((n *ℤ m) *ℤ (b *ℤ e)) -ℤ ((k *ℤ l) *ℤ (b *ℤ e)); bottom = (b *ℤ e) *ℤ (b *ℤ e) }) (record { top = (n *ℤ m) -ℤ (k *ℤ l); bottom = b *ℤ e }) = record { same = ring ((n *ℤ m) ∷ (k *ℤ l) ∷ (b *ℤ e) ∷ []) (Prod (Sum (Prod x z) (Neg (Prod y z))) z) (Prod (Sum x (Neg y)) (Prod z z)) refl } in
    Lies-same (product_above_zero hn.proper hm.proper) same (Lies-product_difference hn hm hk hl)
