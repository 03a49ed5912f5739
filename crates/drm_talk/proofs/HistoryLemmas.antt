-- What one more entry does to a history.
use Rattle.std.proofs.Common.{◌≡◌, ℕ, inl, inr, List, [], ◌∷◌, ◌++◌, take, refl, sym, ◌∙◌, subst, arith, Option}
use Rattle.std.specs.Prelude.{if◌then◌else◌, ◌==◌}
use Rattle.std.proofs.lemmas.List.{take-append-le, take_all}
use Rattle.drm_num.proofs.Lists.{slice_get-push_cases}
use Rattle.drm_shape.specs.declared.Shape.{Shape}
use Rattle.drm_talk.specs.declared.Entry.{Entry}
use Rattle.drm_talk.specs.History.{shape_after, MayFollow, LegalHistoriesGoOn}

-- the slot of the new entry holds the entry's shape, and the others what they held
pub shape_after-push : (before : Option Shape) (slot : ℕ) (history : List Entry) (entry : Entry) → shape_after before slot (history ++ entry ∷ []) ≡ (if entry.slot == slot then entry.shape else shape_after before slot history)
shape_after-push before slot [] entry = refl
shape_after-push before slot (first ∷ history) entry = shape_after-push (if first.slot == slot then first.shape else before) slot history entry

-- a history stays legal where the next entry may follow
pub legal-push : LegalHistoriesGoOn
legal-push history next legal may n entry is =
    elim (slice_get-push_cases history next entry n is) [
      | inl before ↦
          let same : take n (history ++ next ∷ []) ≡ take n history = take-append-le n history (next ∷ []) (omega arith) in
          subst (λ (front : List Entry). MayFollow front entry n) (sym same) (legal n entry before.1)
      | inr last ↦
          let front : take n (history ++ next ∷ []) ≡ history =
          take-append-le n history (next ∷ []) (omega arith) ∙ take_all n history (omega arith) in
          subst (λ (h : List Entry). MayFollow h entry n) (sym front)
          (subst (λ (e : Entry). MayFollow history e n) last.1
          (subst (λ (m : ℕ). MayFollow history next m) (sym last.0) may))
    ]
