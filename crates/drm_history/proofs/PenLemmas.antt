-- The pens of the entries to come.
use Rattle.std.proofs.Common.{◌≡◌, ℕ, zero, suc, ◌+◌, ◌<◌, ◌≤◌, ◌⊎◌, inl, inr, List, [], ◌∷◌, ◌++◌, length, refl, ap, sym, ◌∙◌, subst, arith, get_or, set, Some, slice_get}
use Rattle.std.proofs.lemmas.Option.{slice_get-get_or}
use Rattle.logbook.specs.Pages.{Book, nib, may_write}
use Rattle.logbook.specs.declared.tokens.Pen.{Pen}
use Rattle.drm_history.specs.Rules.{AreReady}
use Rattle.drm_num.proofs.Lists.{slice_get-push_cases}

-- the pen at a place is that of the entry with this number
pub pen_there : (book : Book) (from n : ℕ) (pens : List Pen) (pen d : Pen) → AreReady book from pens → from ≤ n → n < length pens → pen ≡ get_or pens n d
    → (pen.book ≡ book) × (pen.nib ≡ nib may_write (n + 2) 0)
pen_there book from n pens pen d ready le below is =
    subst (λ (p : Pen). (p.book ≡ book) × (p.nib ≡ nib may_write (n + 2) 0)) (sym is) (ready n (get_or pens n d) le (slice_get-get_or pens n d below))

-- where an element comes from after one was replaced
slice_get-set_cases : {X : Type 0} (xs : List X) (n i : ℕ) (y x : X) → slice_get (set xs n y) i ≡ Some x → ((i ≡ n) × (y ≡ x)) ⊎ (slice_get xs i ≡ Some x)
slice_get-set_cases [] n i y x is = inr is
slice_get-set_cases (z ∷ xs) zero zero y x is = inl (refl, cc)
slice_get-set_cases (z ∷ xs) zero (suc i) y x is = inr is
slice_get-set_cases (z ∷ xs) (suc n) zero y x is = inr is
slice_get-set_cases (z ∷ xs) (suc n) (suc i) y x is =
    elim (slice_get-set_cases xs n i y x is) [
      | inl new ↦ inl (omega (arith, new.0), new.1)
      | inr old ↦ inr old
    ]

-- the pens after the one that was used
pub rest_ready : (book : Book) (from to n : ℕ) (pens : List Pen) (pen : Pen) → AreReady book from pens → from ≡ n → to ≡ n + 1 → AreReady book to (set pens n pen)
rest_ready book from to n pens pen ready from_is to_is i other le is =
    elim (slice_get-set_cases pens n i pen other is) [
      | inl new ↦ absurd (let here : i ≡ n = new.0 in omega arith)
      | inr old ↦ ready i other (omega arith) old
    ]

-- the pens with one that was used and came back
pub again_ready : (book : Book) (from n : ℕ) (pens : List Pen) (pen : Pen) → AreReady book from pens → pen.book ≡ book → pen.nib ≡ nib may_write (n + 2) 0 → AreReady book from (set pens n pen)
again_ready book from n pens pen ready of_book of_nib i other le is =
    elim (slice_get-set_cases pens n i pen other is) [
      | inl new ↦
          let at : n ≡ i = sym new.0 in
          subst (λ (p : Pen). (p.book ≡ book) × (p.nib ≡ nib may_write (i + 2) 0)) new.1
          (of_book, of_nib ∙ ap (λ (k : ℕ). nib may_write (k + 2) 0) at)
      | inr old ↦ ready i other le old
    ]

-- one more pen
pub ready_push : (book : Book) (pens : List Pen) (pen : Pen) → AreReady book 0 pens → pen.book ≡ book → pen.nib ≡ nib may_write (length pens + 2) 0 → AreReady book 0 (pens ++ pen ∷ [])
ready_push book pens pen ready of_book of_nib i other le is =
    elim (slice_get-push_cases pens pen other i is) [
      | inl before ↦ ready i other le before.1
      | inr last ↦
          subst (λ (p : Pen). (p.book ≡ book) × (p.nib ≡ nib may_write (i + 2) 0)) last.1
          (of_book, of_nib ∙ ap (λ (k : ℕ). nib may_write (k + 2) 0) (sym last.0))
    ]
