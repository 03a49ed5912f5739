-- A table of slots, as the entries go on.
use Rattle.std.proofs.Common.{◌≡◌, ℕ, zero, suc, ◌+◌, ◌<◌, ◌≢◌, inl, inr, List, [], ◌∷◌, length, set, drop, refl, ap, sym, ◌∙◌, subst, arith, Bool, Option, None, IfSome, get_or, get_or-set_same, get_or-set_other}
use Rattle.std.specs.Prelude.{if◌then◌else◌}
use Rattle.std.proofs.lemmas.Bool.Decides.{eqb_tells}
use Rattle.std.proofs.lemmas.List.{at_drop_more}
use Rattle.drm_shape.specs.declared.Shape.{Shape}
use Rattle.drm_shape.specs.Validity.{IsValid}
use Rattle.drm_talk.specs.declared.Entry.{Entry}
use Rattle.drm_talk.specs.History.{shape_after, shape_in}

-- the table holds, slot by slot, what becomes of it by the entries from i on
pub record IsOnTheWay (entries : List Entry) (i : ℕ) (table : List (Option Shape)) : Type 0 where
  pub long : length table ≡ 1024
  pub becomes : (slot : ℕ) → shape_after (get_or table slot None) slot (drop i entries) ≡ shape_in entries slot
  pub valid : (k : ℕ) (d : Option Shape) → k < length table → IfSome (get_or table k d) IsValid

-- one more entry
pub next_entry : (entries : List Entry) (i : ℕ) (table : List (Option Shape)) (d : Entry) → i < length entries → IsOnTheWay entries i table
    → (get_or entries i d).slot < 1024 → IfSome (get_or entries i d).shape IsValid
    → IsOnTheWay entries (i + 1) (set table (get_or entries i d).slot (get_or entries i d).shape)
next_entry entries i table d below way slot_in valid = record {
  long = length_of table (get_or entries i d).slot (get_or entries i d).shape ∙ way.long;
  becomes = λ slot.
      let step = at_drop_more (shape_after (get_or table slot None) slot) entries i d below in
      elim (eqb_tells (get_or entries i d).slot slot) [
        | inl is ↦
            let at : (get_or entries i d).slot ≡ slot = is.1 in
            let here : get_or (set table (get_or entries i d).slot (get_or entries i d).shape) slot None ≡ (get_or entries i d).shape =
            subst (λ (s : ℕ). get_or (set table (get_or entries i d).slot (get_or entries i d).shape) s None ≡ (get_or entries i d).shape) at
            (get_or-set_same table (get_or entries i d).slot (get_or entries i d).shape None (omega (arith, way.long))) in
            let folded : shape_after (get_or table slot None) slot (get_or entries i d ∷ drop (i + 1) entries) ≡ shape_after (get_or entries i d).shape slot (drop (i + 1) entries) =
            ap (λ (b : Bool). shape_after (if b then (get_or entries i d).shape else get_or table slot None) slot (drop (i + 1) entries)) is.0 in
            ap (λ (o : Option Shape). shape_after o slot (drop (i + 1) entries)) here ∙ (sym folded ∙ (sym step ∙ way.becomes slot))
        | inr is ↦
            let apart : slot ≢ (get_or entries i d).slot = λ e. is.1 (sym e) in
            let there : get_or (set table (get_or entries i d).slot (get_or entries i d).shape) slot None ≡ get_or table slot None =
            get_or-set_other table (get_or entries i d).slot slot (get_or entries i d).shape None apart in
            let folded : shape_after (get_or table slot None) slot (get_or entries i d ∷ drop (i + 1) entries) ≡ shape_after (get_or table slot None) slot (drop (i + 1) entries) =
            ap (λ (b : Bool). shape_after (if b then (get_or entries i d).shape else get_or table slot None) slot (drop (i + 1) entries)) is.0 in
            ap (λ (o : Option Shape). shape_after o slot (drop (i + 1) entries)) there ∙ (sym folded ∙ (sym step ∙ way.becomes slot))
      ];
  valid = set_valid table (get_or entries i d).slot (get_or entries i d).shape way.valid valid;
}
  where
    length_of : (table : List (Option Shape)) (n : ℕ) (o : Option Shape) → length (set table n o) ≡ length table
    length_of [] n o = refl
    length_of (x ∷ xs) zero o = refl
    length_of (x ∷ xs) (suc n) o = let rest = length_of xs n o in omega arith

    set_valid : (table : List (Option Shape)) (n : ℕ) (o : Option Shape) → ((k : ℕ) (d : Option Shape) → k < length table → IfSome (get_or table k d) IsValid) → IfSome o IsValid
        → (k : ℕ) (d : Option Shape) → k < length (set table n o) → IfSome (get_or (set table n o) k d) IsValid
    set_valid [] n o all new k d lt = absurd (omega arith)
    set_valid (x ∷ xs) zero o all new zero d lt = new
    set_valid (x ∷ xs) zero o all new (suc k) d lt = all (suc k) d (omega arith)
    set_valid (x ∷ xs) (suc n) o all new zero d lt = all zero d (omega arith)
    set_valid (x ∷ xs) (suc n) o all new (suc k) d lt = set_valid xs n o (λ j e b. all (suc j) e (omega arith)) new k d (omega arith)
