-- The numbers of a caller's own edits, as its history goes on.
use Rattle.std.proofs.Common.{◌≡◌, ℕ, suc, ◌+◌, ◌≤◌, inl, inr, Bool, true, false, cond, eqb, List, [], ◌∷◌, ◌++◌, length, refl, sym, ◌∙◌, ap, subst, arith, length-append, eq-eqb}
use Rattle.std.specs.Prelude.{if◌then◌else◌}
use Rattle.std.proofs.lemmas.List.Sums.{sum_by-append}
use Rattle.drm_talk.specs.declared.Entry.{Entry}
use Rattle.drm_talk.specs.Front.{Begins}
use Rattle.drm_talk.specs.History.{made_by}
use Rattle.drm_share.specs.Own.{numbers_from, numbers_of, AreSome, AreOwn}

-- some of a list are some of a longer one
some_more : (xs ys zs : List ℕ) → AreSome xs ys → AreSome xs (ys ++ zs)
some_more [] ys zs some = tt
some_more (x ∷ xs) [] zs some = absurd some
some_more (x ∷ xs) (y ∷ ys) zs some = elim some [
  | inl here ↦ inl (here.0, some_more xs ys zs here.1)
  | inr later ↦ inr (some_more (x ∷ xs) ys zs later)
]

-- some of a list, and one more of a list with one more
some_push : (xs ys : List ℕ) (x : ℕ) → AreSome xs ys → AreSome (xs ++ x ∷ []) (ys ++ x ∷ [])
some_push [] [] x some = inl (refl, tt)
some_push [] (y ∷ ys) x some = inr (some_push [] ys x tt)
some_push (z ∷ xs) [] x some = absurd some
some_push (z ∷ xs) (y ∷ ys) x some = elim some [
  | inl here ↦ inl (here.0, some_push xs ys x here.1)
  | inr later ↦ inr (some_push (z ∷ xs) ys x later)
]

-- some are no more than all
pub some_few : (xs ys : List ℕ) → AreSome xs ys → length xs ≤ length ys
some_few [] ys some = omega arith
some_few (x ∷ xs) [] some = absurd some
some_few (x ∷ xs) (y ∷ ys) some = elim some [
  | inl here ↦ let rest = some_few xs ys here.1 in omega arith
  | inr later ↦ let rest = some_few (x ∷ xs) ys later in omega arith
]

-- some that are as many as all are all
pub some_all : (xs ys : List ℕ) → AreSome xs ys → length ys ≤ length xs → xs ≡ ys
some_all [] [] some many = refl
some_all [] (y ∷ ys) some many = absurd (omega arith)
some_all (x ∷ xs) [] some many = absurd some
some_all (x ∷ xs) (y ∷ ys) some many = elim some [
  | inl here ↦ let rest = some_all xs ys here.1 (omega arith) in cc (here.0, rest)
  | inr later ↦ absurd (let few = some_few (x ∷ xs) ys later in omega arith)
]

-- the numbers in a list that goes on
numbers_append : (caller n : ℕ) (xs ys : List Entry) → numbers_from caller n (xs ++ ys) ≡ numbers_from caller n xs ++ numbers_from caller (n + length xs) ys
numbers_append caller n [] ys = ap (λ (k : ℕ). numbers_from caller k ys) (omega arith)
numbers_append caller n (x ∷ xs) ys =
    let at : numbers_from caller (n + 1 + length xs) ys ≡ numbers_from caller (n + suc (length xs)) ys = ap (λ (k : ℕ). numbers_from caller k ys) (omega arith) in
    let rest : numbers_from caller (n + 1) (xs ++ ys) ≡ numbers_from caller (n + 1) xs ++ numbers_from caller (n + suc (length xs)) ys =
    numbers_append caller (n + 1) xs ys ∙ ap (λ (ks : List ℕ). numbers_from caller (n + 1) xs ++ ks) at in
    by_test (eqb x.caller caller) n (numbers_from caller (n + 1) (xs ++ ys)) (numbers_from caller (n + 1) xs) (numbers_from caller (n + suc (length xs)) ys) rest
  where
    by_test : (b : Bool) (n : ℕ) (all front back : List ℕ) → all ≡ front ++ back → (if b then n ∷ all else all) ≡ (if b then n ∷ front else front) ++ back
    by_test true n all front back is = ap (λ (ks : List ℕ). n ∷ ks) is
    by_test false n all front back is = is

-- own edits stay own edits when the history goes on
pub own_more : (front history : List Entry) (caller : ℕ) (own : List ℕ) → AreOwn front caller own → Begins front history → AreOwn history caller own
own_more front history caller own are begins = record {
  stand =
      let longer : numbers_of caller history ≡ numbers_of caller front ++ numbers_from caller (1 + length front) begins.0 =
      ap (numbers_of caller) begins.1 ∙ numbers_append caller 1 front begins.0 in
      subst (λ (ks : List ℕ). AreSome own ks) (sym longer) (some_more own (numbers_of caller front) _ are.stand);
}

-- the caller's next edit, which is the last entry
pub own_push : (history : List Entry) (entry : Entry) (caller n : ℕ) (own : List ℕ) → AreOwn history caller own → entry.caller ≡ caller → n ≡ length (history ++ entry ∷ [])
    → AreOwn (history ++ entry ∷ []) caller (own ++ n ∷ [])
own_push history entry caller n own are is n_is = record {
  stand =
      let mine : eqb entry.caller caller ≡ true = eq-eqb _ _ is in
      let number : 1 + length history ≡ n = omega (arith, n_is, length-append history (entry ∷ [])) in
      let last : numbers_from caller (1 + length history) (entry ∷ []) ≡ n ∷ [] = rw mine (ap (λ (k : ℕ). k ∷ []) number) in
      let longer : numbers_of caller (history ++ entry ∷ []) ≡ numbers_of caller history ++ n ∷ [] =
      numbers_append caller 1 history (entry ∷ []) ∙ ap (λ (ks : List ℕ). numbers_of caller history ++ ks) last in
      subst (λ (ks : List ℕ). AreSome (own ++ n ∷ []) ks) (sym longer) (some_push own (numbers_of caller history) n are.stand);
}

-- how many entries of the caller a list has, the first of them apart
pub made_cons : (caller : ℕ) (entry : Entry) (entries : List Entry) → made_by caller (entry ∷ entries) ≡ cond (eqb entry.caller caller) 1 0 + made_by caller entries
made_cons caller entry entries =
    let parts = sum_by-append (λ (e : Entry). cond (eqb e.caller caller) 1 0) (entry ∷ []) entries in omega (arith, parts)

-- the numbers of the caller's entries are as many as these
pub numbers_many : (caller n : ℕ) (history : List Entry) → length (numbers_from caller n history) ≡ made_by caller history
numbers_many caller n [] = refl
numbers_many caller n (entry ∷ entries) =
    let rest = numbers_many caller (n + 1) entries in
    let parts = made_cons caller entry entries in
    by_test (eqb entry.caller caller) n (numbers_from caller (n + 1) entries) (made_by caller entries) rest ∙ sym parts
  where
    by_test : (b : Bool) (n : ℕ) (all : List ℕ) (m : ℕ) → length all ≡ m → length (if b then n ∷ all else all) ≡ cond b 1 0 + m
    by_test true n all m is = omega (arith, is)
    by_test false n all m is = omega (arith, is)
