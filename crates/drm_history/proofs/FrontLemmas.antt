-- Beginnings of one history.
use Rattle.std.proofs.Common.{◌≡◌, ℕ, ◌<◌, ◌≤◌, Bool, true, false, MatchBool, List, [], ◌∷◌, ◌++◌, length, refl, ap, sym, ◌∙◌, arith, append_assoc, length-append, Some, slice_get, leb, leb-true, leb-false}
use mathlib.Core.List.{IsPrefix}
use Rattle.drm_talk.specs.declared.Entry.{Entry}
use Rattle.drm_talk.specs.Front.{Begins}
use Rattle.drm_talk.specs.History.{IsLegal}
use Rattle.drm_talk.specs.Limits.{full}

-- a beginning as long as the whole is the whole
pub prefix_whole : {A : Type 0} (xs ys : List A) → IsPrefix xs ys → length ys ≤ length xs → xs ≡ ys
prefix_whole [] [] p le = refl
prefix_whole [] (y ∷ ys) p le = absurd (omega arith)
prefix_whole (x ∷ xs) [] p le = absurd (cc (p.1))
prefix_whole (x ∷ xs) (y ∷ ys) p le =
    let rest = prefix_whole xs ys (p.0, cc (p.1)) (omega arith) in cc (p.1, rest)

pub prefix_length : {A : Type 0} (xs ys : List A) → IsPrefix xs ys → length xs ≤ length ys
prefix_length xs ys p = omega (arith, sym (ap length p.1) ∙ length-append xs p.0)

pub prefix_trans : {A : Type 0} (xs ys zs : List A) → IsPrefix xs ys → IsPrefix ys zs → IsPrefix xs zs
prefix_trans xs ys zs p q = (p.0 ++ q.0, sym (append_assoc xs p.0 q.0) ∙ (ap (λ w. w ++ q.0) p.1 ∙ q.1))

-- of two beginnings of one list the shorter begins the longer
pub prefix_shorter : {A : Type 0} (xs ys zs : List A) → IsPrefix xs zs → IsPrefix ys zs → length xs ≤ length ys → IsPrefix xs ys
prefix_shorter [] ys zs p q le = (ys, refl)
prefix_shorter (x ∷ xs) [] zs p q le = absurd (omega arith)
prefix_shorter (x ∷ xs) (y ∷ ys) [] p q le = absurd (cc (p.1))
prefix_shorter (x ∷ xs) (y ∷ ys) (z ∷ zs) p q le =
    let heads : x ≡ y = cc (p.1, q.1) in
    let rest = prefix_shorter xs ys zs (p.0, cc (p.1)) (q.0, cc (q.1)) (omega arith) in
    (rest.0, cc (heads, rest.1))

-- the two words for a beginning
pub begins_from_prefix : (front history : List Entry) → IsPrefix front history → Begins front history
begins_from_prefix front history p = (p.0, sym p.1)

-- which of two beginnings of one history begins the other
pub shorter_begins : (m n : ℕ) (xs ys both : List Entry) → m ≡ length xs → n ≡ length ys → IsPrefix xs both → IsPrefix ys both
    → (b : Bool) → leb m n ≡ b → MatchBool b (Begins xs ys) (Begins ys xs × (length ys < length xs))
shorter_begins m n xs ys both m_is n_is p q true is =
    let le : m ≤ n = leb-true m n is in
    begins_from_prefix xs ys (prefix_shorter xs ys both p q (omega arith))
shorter_begins m n xs ys both m_is n_is p q false is =
    let lt : n < m = leb-false m n is in
    (begins_from_prefix ys xs (prefix_shorter ys xs both q p (omega arith)), omega arith)

-- a legal history has at most as many entries as there is room for
pub legal_within : (history : List Entry) → IsLegal history → length history ≤ full
legal_within [] legal = omega arith
legal_within (entry ∷ entries) legal = let last = last_there entry entries in omega (arith, (legal (length entries) last.0 last.1).room)
  where
    last_there : (entry : Entry) (entries : List Entry) → (last : Entry) × (slice_get (entry ∷ entries) (length entries) ≡ Some last)
    last_there entry [] = (entry, refl)
    last_there entry (next ∷ entries) = last_there next entries
