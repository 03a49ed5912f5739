-- Which cells a set has after an insert, and at first; there is one least cell of a kind.
use Rattle.std.proofs.Common.{◌≡◌, ℕ, zero, suc, ◌<◌, ◌⊎◌, ◌↔◌, inl, inr, refl, ap, Bool, true, false, List, [], ◌∷◌, length, replicate, arith}
use Rattle.std.specs.Prelude.{slice_set, Some}
use Rattle.std.proofs.lemmas.Bool.{cases_lt}
use Rattle.drm_grid.specs.CellSet.{Has, IsLeast}

-- an insert adds exactly the cell
pub Has-slice_set : (set : List Bool) (cell c : ℕ) → cell < length set → Has (slice_set set cell true) c ↔ ((c ≡ cell) ⊎ Has set c)
Has-slice_set [] cell c h = absurd (omega arith)
Has-slice_set (x ∷ xs) zero zero h = (λ _. inl refl, λ _. refl)
Has-slice_set (x ∷ xs) zero (suc c) h = (λ has. inr has, λ s. elim s [ inl e ↦ absurd (omega arith) | inr has ↦ has ])
Has-slice_set (x ∷ xs) (suc cell) zero h = (λ has. inr has, λ s. elim s [ inl e ↦ absurd (omega arith) | inr has ↦ has ])
Has-slice_set (x ∷ xs) (suc cell) (suc c) h =
    let below : cell < length xs = omega arith in
    let rest = Has-slice_set xs cell c below in (
      λ has. elim (rest.0 has) [ inl e ↦ inl (ap suc e) | inr had ↦ inr had ],
      λ s. rest.1 (elim s [ inl e ↦ inl (omega arith) | inr had ↦ inr had ]),
    )

-- a new set has no cell
pub Has-replicate : (cells c : ℕ) → ¬ Has (replicate cells false) c
Has-replicate zero c has = absurd (cc)
Has-replicate (suc cells) zero has = absurd (cc)
Has-replicate (suc cells) (suc c) has = Has-replicate cells c has

-- there is one least number of a kind
pub least_is_one : (Is : ℕ → Type 0) (x y : ℕ) → IsLeast Is (Some x) → IsLeast Is (Some y) → x ≡ y
least_is_one Is x y (is_x, below_x) (is_y, below_y) = elim (cases_lt x y) [
  | inl less ↦ absurd (below_y x less is_x)
  | inr rest ↦ elim (cases_lt y x) [
    | inl more ↦ absurd (below_x y more is_y)
    | inr same ↦ omega arith
  ]
]
