-- Cells of several kinds are taken out one kind after the other.
use Rattle.std.proofs.Common.{◌≡◌, ◌⊎◌, inl, inr, ℕ, zero, suc, [], ◌∷◌, ap, ◌+◌, ◌≤◌, ◌<◌, ◌↔◌, Bool, true, false, Some, replicate, slice_set, List, length, refl, ◌∙◌, subst, sym, arith}
use Rattle.std.proofs.lemmas.Bool.{cases_lt, cases_eq}
use Rattle.std.proofs.lemmas.List.{length-set, length-replicate, get_or-replicate}
use Rattle.std.proofs.lemmas.Option.{slice_get_within, slice_get-get_or}
use Rattle.drm_grid.specs.CellSet.{Has, IsMissing}
use Rattle.drm_sweep.specs.Taken.{TakesOut, HasNone, Among}

-- a cell of a set is below its size
pub Has-below : (set : List Bool) (cell : ℕ) → Has set cell → cell < length set
Has-below set cell has = slice_get_within set cell true has

pub one_then_other : (A B : ℕ → Type 0) (s t u : List Bool) → TakesOut A s t → TakesOut B t u → TakesOut (λ cell. A cell ⊎ B cell) s u
one_then_other A B s t u first second = record {
  size = second.size ∙ first.size;
  kept = λ cell has.
      let (has_t, not_b) = second.kept cell has in
      let (has_s, not_a) = first.kept cell has_t in
      (has_s, λ is. elim is [ inl a ↦ not_a a | inr b ↦ not_b b ]);
  gone = λ cell has. elim (first.gone cell has) [
    | inl has_t ↦ elim (second.gone cell has_t) [ inl has_u ↦ inl has_u | inr b ↦ inr (inr b) ]
    | inr a ↦ inr (inl a)
  ];
}

-- the same cells under another name
pub same_kind : (A B : ℕ → Type 0) (s t : List Bool) → ((cell : ℕ) → Has s cell → A cell ↔ B cell) → TakesOut A s t → TakesOut B s t
same_kind A B s t same taken = record {
  size = taken.size;
  kept = λ cell has.
      let (had, not_a) = taken.kept cell has in
      (had, λ b. not_a ((same cell had).1 b));
  gone = λ cell has. elim (taken.gone cell has) [ inl left ↦ inl left | inr a ↦ inr ((same cell has).0 a) ];
}

-- a set that has no cell of the kind stays
pub nothing_taken : (Is : ℕ → Type 0) (s : List Bool) → HasNone Is s → TakesOut Is s s
nothing_taken Is s none = record { size = refl; kept = λ cell has. (has, none cell has); gone = λ cell has. inl has }

-- and a set that stays has none
pub stays_without : (Is : ℕ → Type 0) (s : List Bool) → TakesOut Is s s → HasNone Is s
stays_without Is s taken = λ cell has. (taken.kept cell has).1

-- no kind, and one kind more
pub none_taken : (Is : ℕ → ℕ → Type 0) (a : ℕ) (s : List Bool) → TakesOut (Among a a Is) s s
none_taken Is a s = record {
  size = refl;
  kept = λ cell has. (has, λ (j, from, below, is). absurd (omega arith));
  gone = λ cell has. inl has;
}

pub one_more_taken : (Is : ℕ → ℕ → Type 0) (a b : ℕ) (s t u : List Bool) → a ≤ b → TakesOut (Among a b Is) s t → TakesOut (Is b) t u → TakesOut (Among a (b + 1) Is) s u
one_more_taken Is a b s t u ordered before now =
    same_kind (λ cell. Among a b Is cell ⊎ Is b cell) (Among a (b + 1) Is) s u
    (λ cell has. (
      (λ either. elim either [
        | inl (j, from, below, is) ↦ (j, from, omega arith, is)
        | inr is ↦ (b, ordered, omega arith, is)
      ]),
      (λ (j, from, below, is). elim (cases_lt j b) [
        | inl less ↦ inl (j, from, less, is)
        | inr more ↦ (let last : j ≡ b = omega arith in inr (subst (λ (k : ℕ). Is k cell) last is))
      ]),
    ))
    (one_then_other (Among a b Is) (Is b) s t u before now)

-- what is left is what was there and is not of the kind
pub left_exactly : (Is : ℕ → Type 0) (s t : List Bool) (cell : ℕ) → TakesOut Is s t → Has t cell ↔ (Has s cell × (¬ Is cell))
left_exactly Is s t cell taken = (
  taken.kept cell,
  λ (has, is_not). elim (taken.gone cell has) [ inl left ↦ left | inr is ↦ absurd (is_not is) ],
)

-- ---- one cell

-- a set from which a cell was taken out
pub Has-removed : (set : List Bool) (at c : ℕ) → at < length set → Has (slice_set set at false) c ↔ (Has set c × (c ≡ at → ⊥))
Has-removed [] at c h = absurd (omega arith)
Has-removed (x ∷ xs) zero zero h = ((λ has. absurd (cc)), (λ (has, other). absurd (other refl)))
Has-removed (x ∷ xs) zero (suc c) h = ((λ has. (has, λ e. absurd (omega arith))), (λ (has, other). has))
Has-removed (x ∷ xs) (suc at) zero h = ((λ has. (has, λ e. absurd (omega arith))), (λ (has, other). has))
Has-removed (x ∷ xs) (suc at) (suc c) h =
    let below : at < length xs = omega arith in
    let rest = Has-removed xs at c below in (
      (λ has. let both = rest.0 has in (both.0, λ e. both.1 (omega arith))),
      (λ (has, other). rest.1 (has, λ e. other (ap suc e))),
    )

-- the cell is of the kind, and is taken out
pub taken_at : (Is : ℕ → Type 0) (at : ℕ) (s : List Bool) → at < length s → Is at → TakesOut (λ cell. (cell ≡ at) × Is cell) s (slice_set s at false)
taken_at Is at s below is = record {
  size = length-set s at false;
  kept = λ cell has. let both = (Has-removed s at cell below).0 has in (both.0, λ (same, _). both.1 same);
  gone = λ cell has. elim (cases_eq cell at) [
    | inl same ↦ inr (same, subst Is (sym same) is)
    | inr other ↦ inl ((Has-removed s at cell below).1 (has, other))
  ];
}

-- the cell is not of the kind, and the set stays
pub not_taken_at : (Is : ℕ → Type 0) (at : ℕ) (s : List Bool) → (Is at → ⊥) → TakesOut (λ cell. (cell ≡ at) × Is cell) s s
not_taken_at Is at s is_not = record {
  size = refl;
  kept = λ cell has. (has, λ (same, is). is_not (subst Is same is));
  gone = λ cell has. inl has;
}

-- ---- what went

pub Has-full : (n cell : ℕ) → cell < n → Has (replicate n true) cell
Has-full n cell below = slice_get-get_or (replicate n true) cell false (omega (arith, length-replicate n true)) ∙ ap Some (get_or-replicate n cell true false below)

-- what went from a full set are all cells of the kind
pub went_exactly : (Is : ℕ → Type 0) (n cell : ℕ) (full left swept now : List Bool) → (Is cell → cell < n) → full ≡ replicate n true → swept ≡ replicate n true
    → TakesOut Is full left → Has now cell ↔ IsMissing swept left cell → Has now cell ↔ Is cell
went_exactly Is n cell full left swept now within is_full is_swept taken missing = (
  (λ has.
      let (had, not_left) = missing.0 has in
      let below : cell < n = let b = Has-below (replicate n true) cell (subst (λ (set : List Bool). Has set cell) is_swept had) in omega (arith, length-replicate n true) in
      elim (taken.gone cell (subst (λ (set : List Bool). Has set cell) (sym is_full) (Has-full n cell below))) [
        | inl left_has ↦ absurd (not_left left_has)
        | inr is ↦ is
      ]),
  (λ is. missing.1 (subst (λ (set : List Bool). Has set cell) (sym is_swept) (Has-full n cell (within is)), λ left_has. (taken.kept cell left_has).1 is)),
)
