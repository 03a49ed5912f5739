-- The table of slots follows the journal.
use Rattle.std.proofs.Common.{◌≡◌, ℕ, zero, suc, ◌<◌, ◌≤◌, List, [], ◌∷◌, ◌++◌, length, set, refl, ap, sym, ◌∙◌, subst, arith, Bool, true, false, Option, None, Some, IfSome, get_or}
use Rattle.std.proofs.lemmas.Bool.{eqb-true, eq-eqb}
use Rattle.std.proofs.lemmas.List.{get_or-set_same, get_or-set_other, get_or_past}
use Rattle.std.specs.Prelude.{◌==◌, if◌then◌else◌}
use Rattle.drm_shape.specs.declared.Shape.{Shape}
use Rattle.drm_shape.specs.Validity.{IsValid}
use Rattle.drm_talk.specs.declared.Entry.{Entry}
use Rattle.drm_talk.specs.Limits.{slots}
use Rattle.drm_talk.specs.History.{shape_in}
use Rattle.drm_talk.proofs.HistoryLemmas.{shape_after-push}
use Rattle.drm_state.specs.Scene.{IsTable}

-- a place of a list that is lengthened with nothing
pub empty_push : (table : List (Option Shape)) (slot : ℕ) → get_or (table ++ None ∷ []) slot None ≡ get_or table slot None
empty_push [] zero = refl
empty_push [] (suc slot) = refl
empty_push (first ∷ table) zero = refl
empty_push (first ∷ table) (suc slot) = empty_push table slot

-- a slot past the table's end holds nothing
pub none_past : (journal : List Entry) (table : List (Option Shape)) (slot : ℕ) → IsTable journal table → length table ≤ slot → shape_in journal slot ≡ None
none_past journal table slot kept past = sym (kept.held slot) ∙ get_or_past table slot None past

-- a table with more empty places follows the journal all the same
pub longer_table : (journal : List Entry) (old new : List (Option Shape)) → IsTable journal old → ((slot : ℕ) → get_or new slot None ≡ get_or old slot None) → IsTable journal new
longer_table journal old new kept same = record { held = λ slot. same slot ∙ kept.held slot; standing = kept.standing }

-- one more entry, and its shape in its slot of the table
pub table_push : (journal : List Entry) (table : List (Option Shape)) (entry : Entry) → IsTable journal table → entry.slot < length table → entry.slot < slots → IfSome entry.shape IsValid → IsTable (journal ++ entry ∷ []) (set table entry.slot entry.shape)
table_push journal table entry kept in_table below valid = record {
  held = λ slot. holds slot (entry.slot == slot) refl;
  standing = λ slot shape is. stands slot shape (entry.slot == slot) refl is;
}
  where
    after : (slot : ℕ) (b : Bool) → (entry.slot == slot) ≡ b → shape_in (journal ++ entry ∷ []) slot ≡ (if b then entry.shape else shape_in journal slot)
    after slot b same = shape_after-push None slot journal entry ∙ ap (λ b. if b then entry.shape else shape_in journal slot) same

    holds : (slot : ℕ) (b : Bool) → (entry.slot == slot) ≡ b → get_or (set table entry.slot entry.shape) slot None ≡ shape_in (journal ++ entry ∷ []) slot
    holds slot true same =
        let at : entry.slot ≡ slot = eqb-true entry.slot slot same in
        subst (λ (s : ℕ). get_or (set table entry.slot entry.shape) s None ≡ entry.shape) at (get_or-set_same table entry.slot entry.shape None in_table)
        ∙ sym (after slot true same)
    holds slot false other =
        get_or-set_other table entry.slot slot entry.shape None (λ at. let yes = eq-eqb entry.slot slot (sym at) in cc)
        ∙ kept.held slot
        ∙ sym (after slot false other)

    stands : (slot : ℕ) (shape : Shape) (b : Bool) → (entry.slot == slot) ≡ b → shape_in (journal ++ entry ∷ []) slot ≡ Some shape → (slot < slots) × IsValid shape
    stands slot shape true same is =
        let at : entry.slot ≡ slot = eqb-true entry.slot slot same in
        let put : entry.shape ≡ Some shape = sym (after slot true same) ∙ is in
        (omega arith, subst (λ (o : Option Shape). IfSome o IsValid) put valid)
    stands slot shape false other is = kept.standing slot shape (sym (after slot false other) ∙ is)
