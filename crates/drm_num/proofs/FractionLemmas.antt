-- Laws of fractions: one number under several spellings, and orders between them.
use Rattle.std.proofs.Common.{◌≡◌, ℤ, pos, ◌*ℤ◌, ◌≤ℤ◌, ◌<ℤ◌, refl, sym, ap, ◌∙◌, [], ◌∷◌}
use Rattle.drm_num.specs.Fraction.{Fraction, IsProper, IsSame, IsAtMost, plus, times}
use Rattle.drm_num.proofs.Integers.{along, keeps, cancels, trans, le_of_lt_z, product_above_zero}
use Rattle.drm_num.proofs.Ring.{Var, Prod, ring}

pub IsProper-plus : (x y : Fraction) → IsProper x → IsProper y → IsProper (plus x y)
IsProper-plus x y h k = product_above_zero h k

pub IsProper-times : (x y : Fraction) → IsProper x → IsProper y → IsProper (times x y)
IsProper-times x y h k = product_above_zero h k

-- a factor that the top and the bottom share cancels
pub IsSame-cancelled : (k t b : ℤ) → IsSame (record { top = k *ℤ t; bottom = k *ℤ b }) (record { top = t; bottom = b })
IsSame-cancelled k t b =
    let x = Var 0 in
    let y = Var 1 in
    let z = Var 2 in
    record { same = ring (k ∷ t ∷ b ∷ []) (Prod (Prod x y) z) (Prod y (Prod x z)) refl }

pub IsSame-turned : {x y : Fraction} → IsSame x y → IsSame y x
IsSame-turned h = record { same = sym h.same }

move_low : (l n b m d f : ℤ) → n *ℤ d ≡ m *ℤ b → (d *ℤ (l *ℤ b)) ≤ℤ (d *ℤ (f *ℤ n)) → (b *ℤ (l *ℤ d)) ≤ℤ (b *ℤ (f *ℤ m))
move_low l n b m d f e h =
    let x = Var 0 in
    let y = Var 1 in
    let z = Var 2 in
    along
    (ring (d ∷ l ∷ b ∷ []) (Prod x (Prod y z)) (Prod z (Prod y x)) refl)
    (ring (d ∷ f ∷ n ∷ []) (Prod x (Prod y z)) (Prod y (Prod z x)) refl ∙ ap (λ (t : ℤ). f *ℤ t) e ∙ ring (f ∷ m ∷ b ∷ []) (Prod x (Prod y z)) (Prod z (Prod x y)) refl)
    h

move_high : (l n b m d f : ℤ) → n *ℤ d ≡ m *ℤ b → (d *ℤ (f *ℤ n)) ≤ℤ (d *ℤ (l *ℤ b)) → (b *ℤ (f *ℤ m)) ≤ℤ (b *ℤ (l *ℤ d))
move_high l n b m d f e h =
    let x = Var 0 in
    let y = Var 1 in
    let z = Var 2 in
    along
    (ring (d ∷ f ∷ n ∷ []) (Prod x (Prod y z)) (Prod y (Prod z x)) refl ∙ ap (λ (t : ℤ). f *ℤ t) e ∙ ring (f ∷ m ∷ b ∷ []) (Prod x (Prod y z)) (Prod z (Prod x y)) refl)
    (ring (d ∷ l ∷ b ∷ []) (Prod x (Prod y z)) (Prod z (Prod y x)) refl)
    h

-- a bound l / f of n / b is a bound of the same number m / d
pub low_of_same : (f l n b m d : ℤ) → pos 0 <ℤ b → pos 0 <ℤ d → n *ℤ d ≡ m *ℤ b → (l *ℤ b) ≤ℤ (f *ℤ n) → (l *ℤ d) ≤ℤ (f *ℤ m)
low_of_same f l n b m d p q e h = cancels b p (move_low l n b m d f e (keeps d (le_of_lt_z q) h))

pub high_of_same : (f l n b m d : ℤ) → pos 0 <ℤ b → pos 0 <ℤ d → n *ℤ d ≡ m *ℤ b → (f *ℤ n) ≤ℤ (l *ℤ b) → (f *ℤ m) ≤ℤ (l *ℤ d)
high_of_same f l n b m d p q e h = cancels b p (move_high l n b m d f e (keeps d (le_of_lt_z q) h))

-- t / b is at most T / B, which is at most h / f
pub high_through : (f h t b T B : ℤ) → pos 0 <ℤ b → pos 0 <ℤ B → pos 0 ≤ℤ f → (t *ℤ B) ≤ℤ (T *ℤ b) → (f *ℤ T) ≤ℤ (h *ℤ B) → (f *ℤ t) ≤ℤ (h *ℤ b)
high_through f h t b T B p q r e k =
    let x = Var 0 in
    let y = Var 1 in
    let z = Var 2 in
    let first : (f *ℤ (t *ℤ B)) ≤ℤ (f *ℤ (T *ℤ b)) = keeps f r e in
    let second : (b *ℤ (f *ℤ T)) ≤ℤ (b *ℤ (h *ℤ B)) = keeps b (le_of_lt_z p) k in
    cancels B q
    (along
    (ring (f ∷ t ∷ B ∷ []) (Prod x (Prod y z)) (Prod z (Prod x y)) refl)
    (ring (b ∷ h ∷ B ∷ []) (Prod x (Prod y z)) (Prod z (Prod y x)) refl)
    (trans first (along (ring (b ∷ f ∷ T ∷ []) (Prod x (Prod y z)) (Prod y (Prod z x)) refl) refl second)))

-- t / b is at least T / B, which is at least l / f
pub low_through : (f l t b T B : ℤ) → pos 0 <ℤ b → pos 0 <ℤ B → pos 0 ≤ℤ f → (T *ℤ b) ≤ℤ (t *ℤ B) → (l *ℤ B) ≤ℤ (f *ℤ T) → (l *ℤ b) ≤ℤ (f *ℤ t)
low_through f l t b T B p q r e k =
    let x = Var 0 in
    let y = Var 1 in
    let z = Var 2 in
    let first : (f *ℤ (T *ℤ b)) ≤ℤ (f *ℤ (t *ℤ B)) = keeps f r e in
    let second : (b *ℤ (l *ℤ B)) ≤ℤ (b *ℤ (f *ℤ T)) = keeps b (le_of_lt_z p) k in
    cancels B q
    (along
    (ring (b ∷ l ∷ B ∷ []) (Prod x (Prod y z)) (Prod z (Prod y x)) refl)
    (ring (f ∷ t ∷ B ∷ []) (Prod x (Prod y z)) (Prod z (Prod x y)) refl)
    (trans second (along (ring (f ∷ T ∷ b ∷ []) (Prod x (Prod y z)) (Prod z (Prod x y)) refl) refl first)))

pub IsAtMost-trans : {x y z : Fraction} → IsProper x → IsProper y → IsProper z → IsAtMost x y → IsAtMost y z → IsAtMost x z
IsAtMost-trans {x} {y} {z} p q r h k =
    let u = Var 0 in
    let v = Var 1 in
    let w = Var 2 in
    let first : (z.bottom *ℤ (x.top *ℤ y.bottom)) ≤ℤ (z.bottom *ℤ (y.top *ℤ x.bottom)) = keeps z.bottom (le_of_lt_z r) h.at_most in
    let second : (x.bottom *ℤ (y.top *ℤ z.bottom)) ≤ℤ (x.bottom *ℤ (z.top *ℤ y.bottom)) = keeps x.bottom (le_of_lt_z p) k.at_most in
    record {
      at_most = cancels y.bottom q
          (along
          (ring (z.bottom ∷ x.top ∷ y.bottom ∷ []) (Prod u (Prod v w)) (Prod w (Prod v u)) refl)
          (ring (x.bottom ∷ z.top ∷ y.bottom ∷ []) (Prod u (Prod v w)) (Prod w (Prod v u)) refl)
          (trans first (along (ring (x.bottom ∷ y.top ∷ z.bottom ∷ []) (Prod u (Prod v w)) (Prod w (Prod v u)) refl) refl second)));
    }
