-- What the answers to edits and reads tell.
use Rattle.std.proofs.Common.{◌≡◌, ℕ, ◌+◌, ◌<◌, ◌≤◌, ◌⊎◌, inl, inr, Bool, true, false, ltb, ◌||◌, List, [], ◌∷◌, ◌++◌, length, refl, sym, ◌∙◌, ap, subst, arith, append_assoc, append-nil, length-append, Option, Some, None, Result, Ok, Err, IfOk, OnErr, ltb-true, ltb-false}
use Rattle.std.specs.Prelude.{is_some, IsNone}
use Rattle.std.specs.Result.{result_err}
use Rattle.drm_shape.specs.declared.Shape.{Shape}
use Rattle.drm_talk.specs.declared.Entry.{Entry}
use Rattle.drm_talk.specs.Front.{Begins}
use Rattle.drm_talk.specs.History.{shape_in}
use Rattle.drm_talk.specs.Limits.{slots, full}
use Rattle.drm_num.specs.FirstBroken.{unless, first_of}
use Rattle.drm_share.specs.Seen.{Seen, ReadsOn}
use Rattle.drm_share.specs.Answers.{EditAnswers}
use Rattle.drm_share.specs.Refusal.{refusal}
use Rattle.drm_share.specs.declared.fault.EditFault.{EditFault}

pub begins_self : (front : List Entry) → Begins front front
begins_self front = ([], sym (append-nil front))

pub begins_trans : (xs ys zs : List Entry) → Begins xs ys → Begins ys zs → Begins xs zs
begins_trans xs ys zs p q = (p.0 ++ q.0, q.1 ∙ (ap (λ (w : List Entry). w ++ q.0) p.1 ∙ append_assoc xs p.0 q.0))

-- nothing is read
pub reads_self : (seen : Seen) → ReadsOn seen seen
reads_self seen = record { caller = refl; begins = begins_self seen.front; own = refl }

-- one read after another
pub reads_trans : (one two three : Seen) → ReadsOn one two → ReadsOn two three → ReadsOn one three
reads_trans one two three p q = record {
  caller = q.caller ∙ p.caller;
  begins = begins_trans one.front two.front three.front p.begins q.begins;
  own = q.own ∙ p.own;
}

-- which of three rules is told
first_told : (x y z f : EditFault) (a b c : Bool) → first_of (unless a x ∷ unless b y ∷ unless c z ∷ []) ≡ Some f
    → ((a ≡ false) × (x ≡ f)) ⊎ (((a ≡ true) × (b ≡ false) × (y ≡ f)) ⊎ ((a ≡ true) × (b ≡ true) × (c ≡ false) × (z ≡ f)))
first_told x y z f false b c is = inl (refl, cc)
first_told x y z f true false c is = inr (inl (refl, refl, cc))
first_told x y z f true true false is = inr (inr (refl, refl, refl, cc))
first_told x y z f true true true is = absurd (cc)

-- neither holds
neither : (a b : Bool) → (a || b) ≡ false → (a ≡ false) × (b ≡ false)
neither true b is = absurd (cc)
neither false b is = (refl, is)

-- what has no value
nothing : {A : Type 0} (o : Option A) → is_some o ≡ false → o ≡ None
nothing None is = refl
nothing (Some x) is = absurd (cc)

-- the edit was accepted
pub accepted : (caller n slot : ℕ) (front history later now : List Entry) (entry : Entry) (own : List ℕ) (content : Option Shape) (r : Result ℕ EditFault)
    → slot < slots → entry.caller ≡ caller → entry.slot ≡ slot → entry.shape ≡ content
    → Begins front history → r ≡ Ok n → IfOk r (λ m. (later ≡ history ++ entry ∷ []) × (m ≡ length later)) → now ≡ later
    → EditAnswers (record { caller = caller; front = front; own = own }) (record { caller = caller; front = now; own = own ++ n ∷ [] }) slot content (Ok n)
accepted caller n slot front history later now entry own content r below caller_is slot_is shape_is begins r_is told now_is =
    let both = told_of (λ (m : ℕ). (later ≡ history ++ entry ∷ []) × (m ≡ length later)) r n r_is told in
    let ends : now ≡ history ++ entry ∷ [] = now_is ∙ both.0 in
    let long : length now ≡ length history + 1 = ap length ends ∙ length-append history (entry ∷ []) in
    let short : length history ≡ length front + length begins.0 = ap length begins.1 ∙ length-append front begins.0 in (
      below,
      record {
        caller = refl;
        begins = (begins.0 ++ entry ∷ [], ends ∙ (ap (λ (w : List Entry). w ++ entry ∷ []) begins.1 ∙ append_assoc front begins.0 (entry ∷ [])));
        number = both.1 ∙ ap length (sym now_is);
        grown = omega arith;
        last = (history, entry, ends, caller_is, slot_is, shape_is);
        own = refl;
      },
    )
  where
    told_of : (P : ℕ → Type 0) (r : Result ℕ EditFault) (n : ℕ) → r ≡ Ok n → IfOk r P → P n
    told_of P (Ok m) n is p = let same : m ≡ n = cc is in subst P same p
    told_of P (Err e) n is p = absurd (cc is)

-- the edit was refused
pub refused : (caller slot : ℕ) (front history later now : List Entry) (entry : Entry) (own : List ℕ) (content : Option Shape) (r : Result ℕ EditFault) (f : EditFault)
    → slot < slots → entry.slot ≡ slot → entry.shape ≡ content → length history ≤ full
    → Begins front history → r ≡ Err f → result_err r ≡ refusal history entry → OnErr r (later ≡ history) → now ≡ later
    → EditAnswers (record { caller = caller; front = front; own = own }) (record { caller = caller; front = now; own = own }) slot content (Err f)
refused caller slot front history later now entry own content r f below slot_is shape_is within begins r_is told stays now_is =
    let same : now ≡ history = now_is ∙ kept_of (later ≡ history) r f r_is stays in
    let before : Seen = record { caller = caller; front = front; own = own } in
    let after : Seen = record { caller = caller; front = now; own = own } in
    let reads : ReadsOn before after =
    record { caller = refl; begins = subst (λ (h : List Entry). Begins front h) (sym same) begins; own = refl } in
    let long : length now ≡ length history = ap length same in
    let why : refusal history entry ≡ Some f = sym told ∙ ap result_err r_is in
    elim (first_told _ _ _ f (ltb entry.slot slots) (ltb (length history) full) (is_some entry.shape || is_some (shape_in history entry.slot)) why) [
      | inl slot_told ↦ absurd (let over : slots ≤ entry.slot = ltb-false _ _ slot_told.0 in omega (arith, slot_is))
      | inr rest ↦ elim rest [
        | inl full_told ↦
            let over : full ≤ length history = ltb-false _ _ full_told.1 in
            subst (λ (e : EditFault). EditAnswers before after slot content (Err e)) full_told.2
            (below, reads, sym long, omega arith)
        | inr empty_told ↦
            let room : length history < full = ltb-true _ _ empty_told.1 in
            let none = neither (is_some entry.shape) (is_some (shape_in history entry.slot)) empty_told.2 in
            let deletes : IsNone content = subst (λ (o : Option Shape). IsNone o) shape_is none.0 in
            let bare : shape_in history entry.slot ≡ None = nothing _ none.1 in
            let lacks : shape_in now slot ≡ None = ap (λ (h : List Entry). shape_in h slot) same ∙ (ap (shape_in history) (sym slot_is) ∙ bare) in
            subst (λ (e : EditFault). EditAnswers before after slot content (Err e)) empty_told.3
            (below, reads, sym long, (omega arith, lacks), deletes)
      ]
    ]
  where
    kept_of : (P : Type 0) (r : Result ℕ EditFault) (f : EditFault) → r ≡ Err f → OnErr r P → P
    kept_of P (Ok m) f is p = absurd (cc is)
    kept_of P (Err e) f is p = p
