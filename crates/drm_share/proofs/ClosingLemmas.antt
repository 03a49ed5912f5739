-- Own edits that are together as many as the history has entries are all of it.
use Rattle.std.proofs.Common.{◌≡◌, ℕ, zero, suc, ◌+◌, ◌<◌, ◌≤◌, inl, inr, true, cond, eqb, List, [], ◌∷◌, ◌++◌, map, length, take, refl, sym, ◌∙◌, ap, arith, get_or, Some, slice_get}
use Rattle.std.specs.Prelude.{All, is_some}
use Rattle.std.specs.List.{range_with_len, sum_by}
use Rattle.std.proofs.lemmas.Bool.Decides.{eqb_tells}
use Rattle.std.proofs.lemmas.List.{length-map}
use Rattle.std.proofs.lemmas.List.Sums.{sum_by-append}
use Rattle.drm_num.proofs.Lists.{range_push}
use Rattle.drm_talk.specs.declared.Entry.{Entry}
use Rattle.drm_talk.specs.History.{made_by}
use Rattle.drm_share.specs.Own.{numbers_of, AreOwn}
use Rattle.drm_share.specs.Seen.{Seen, fresh}
use Rattle.drm_share.specs.Closing.{AreOneEach}
use Rattle.drm_share.proofs.OwnLemmas.{some_few, some_all, numbers_many, made_cons}

-- what holds of each element, and of one more
pub all_push : {X : Type 0} (P : X → Type 0) (xs : List X) (x : X) → All P xs → P x → All P (xs ++ x ∷ [])
all_push P [] x all last zero d below = last
all_push P [] x all last (suc i) d below = absurd (omega arith)
all_push P (y ∷ ys) x all last zero d below = all zero d (omega arith)
all_push P (y ∷ ys) x all last (suc i) d below = all_push P ys x (λ j e b. all (suc j) e (omega arith)) last i d (omega arith)

-- how long a range is
pub range_long : (a n : ℕ) → length (range_with_len a n) ≡ n
range_long a zero = refl
range_long a (suc n) = let rest = range_long (a + 1) n in omega arith

-- one more new pass
pub fresh_push : (n : ℕ) → map fresh (range_with_len 0 (suc n)) ≡ map fresh (range_with_len 0 n) ++ fresh n ∷ []
fresh_push n = ap (map fresh) (range_push 0 n) ∙ pushed (range_with_len 0 n) (0 + n) ∙ ap (λ (k : ℕ). map fresh (range_with_len 0 n) ++ fresh k ∷ []) (omega arith)
  where
    pushed : (ks : List ℕ) (k : ℕ) → map fresh (ks ++ k ∷ []) ≡ map fresh ks ++ fresh k ∷ []
    pushed [] k = refl
    pushed (j ∷ ks) k = ap (λ (xs : List Seen). fresh j ∷ xs) (pushed ks k)

-- how many new passes there are
pub fresh_long : (n : ℕ) → length (map fresh (range_with_len 0 n)) ≡ n
fresh_long n = length-map (range_with_len 0 n) fresh ∙ range_long 0 n

-- new passes are one for each caller
pub fresh_one_each : (n : ℕ) → AreOneEach n (map fresh (range_with_len 0 n))
fresh_one_each n = callers (range_with_len 0 n)
  where
    callers : (ks : List ℕ) → map (λ (seen : Seen). seen.caller) (map fresh ks) ≡ ks
    callers [] = refl
    callers (k ∷ ks) = ap (λ (js : List ℕ). k ∷ js) (callers ks)

-- how many passes there are
pub one_each_many : (n : ℕ) (passes : List Seen) → AreOneEach n passes → length passes ≡ n
one_each_many n passes each = sym (length-map passes (λ (seen : Seen). seen.caller)) ∙ (ap length each ∙ range_long 0 n)

-- passes that stayed those of their callers are one for each caller, as they were
pub same_callers : (n : ℕ) (before after : List Seen) → length after ≡ length before
    → ((i : ℕ) (d : Seen) → i < length before → (get_or after i d).caller ≡ (get_or before i d).caller) → AreOneEach n before → AreOneEach n after
same_callers n before after long same each = callers before after long same ∙ each
  where
    callers : (xs ys : List Seen) → length ys ≡ length xs → ((i : ℕ) (d : Seen) → i < length xs → (get_or ys i d).caller ≡ (get_or xs i d).caller)
        → map (λ (seen : Seen). seen.caller) ys ≡ map (λ (seen : Seen). seen.caller) xs
    callers [] [] long same = refl
    callers [] (y ∷ ys) long same = absurd (omega arith)
    callers (x ∷ xs) [] long same = absurd (omega arith)
    callers (x ∷ xs) (y ∷ ys) long same =
        let first : y.caller ≡ x.caller = same 0 x (omega arith) in
        let rest = callers xs ys (omega arith) (λ i d below. same (suc i) d (omega arith)) in cc (first, rest)

-- how many own edits there are, the first pass apart
abbrev own_count : List Seen → ℕ
own_count [] = 0
own_count (seen ∷ passes) = length seen.own + own_count passes

own_count_is : (passes : List Seen) → sum_by (λ (seen : Seen). length seen.own) passes ≡ own_count passes
own_count_is [] = refl
own_count_is (seen ∷ passes) =
    let parts = sum_by-append (λ (s : Seen). length s.own) (seen ∷ []) passes in
    let rest = own_count_is passes in omega (arith, parts)

-- how many entries n callers from k on have
abbrev made_within : ℕ → ℕ → List Entry → ℕ
made_within k zero history = 0
made_within k (suc n) history = made_by k history + made_within (k + 1) n history

-- whether the caller is one of n from k on, as a number
abbrev among : ℕ → ℕ → ℕ → ℕ
among k zero caller = 0
among k (suc n) caller = cond (eqb caller k) 1 0 + among (k + 1) n caller

among_none : (k n caller : ℕ) → caller < k → among k n caller ≡ 0
among_none k zero caller below = refl
among_none k (suc n) caller below =
    let rest = among_none (k + 1) n caller (omega arith) in
    elim (eqb_tells caller k) [
      | inl is ↦ absurd (let same : caller ≡ k = is.1 in omega arith)
      | inr is ↦ rw is.0 (omega arith)
    ]

among_once : (k n caller : ℕ) → among k n caller ≤ 1
among_once k zero caller = omega arith
among_once k (suc n) caller =
    elim (eqb_tells caller k) [
      | inl is ↦
          let same : caller ≡ k = is.1 in
          let rest = among_none (k + 1) n caller (omega arith) in rw is.0 (omega arith)
      | inr is ↦ let rest = among_once (k + 1) n caller in rw is.0 (omega arith)
    ]

made_within_cons : (k n : ℕ) (entry : Entry) (entries : List Entry) → made_within k n (entry ∷ entries) ≡ among k n entry.caller + made_within k n entries
made_within_cons k zero entry entries = refl
made_within_cons k (suc n) entry entries =
    let first = made_cons k entry entries in
    let rest = made_within_cons (k + 1) n entry entries in omega (arith, first)

-- several callers have no more entries than there are
made_within_few : (k n : ℕ) (history : List Entry) → made_within k n history ≤ length history
made_within_few k n [] = none k n
  where
    none : (k n : ℕ) → made_within k n [] ≤ 0
    none k zero = omega arith
    none k (suc n) = let rest = none (k + 1) n in omega arith
made_within_few k n (entry ∷ entries) =
    let parts = made_within_cons k n entry entries in
    let once = among_once k n entry.caller in
    let rest = made_within_few k n entries in omega arith

all_rest : (P : Seen → Type 0) (seen : Seen) (passes : List Seen) → All P (seen ∷ passes) → All P passes
all_rest P seen passes all i d below = all (suc i) d (omega arith)

pub all_cons : (P : Seen → Type 0) (seen : Seen) (passes : List Seen) → P seen → All P passes → All P (seen ∷ passes)
all_cons P seen passes first rest zero d below = first
all_cons P seen passes first rest (suc i) d below = rest i d (omega arith)

-- the passes of callers from k on have made no more than these have entries
own_few : (history : List Entry) (k : ℕ) (passes : List Seen) → map (λ (seen : Seen). seen.caller) passes ≡ range_with_len k (length passes)
    → All (λ seen. AreOwn history seen.caller seen.own) passes → own_count passes ≤ made_within k (length passes) history
own_few history k [] order own = omega arith
own_few history k (seen ∷ passes) order own =
    let mine : AreOwn history seen.caller seen.own = own 0 seen (omega arith) in
    let at : seen.caller ≡ k = cc order in
    let few = some_few seen.own (numbers_of seen.caller history) mine.stand in
    let many : length (numbers_of seen.caller history) ≡ made_by k history = numbers_many seen.caller 1 history ∙ ap (λ (c : ℕ). made_by c history) at in
    let rest = own_few history (k + 1) passes (cc order) (all_rest (λ s. AreOwn history s.caller s.own) seen passes own) in
    omega arith

own_all : (history : List Entry) (k : ℕ) (passes : List Seen) → map (λ (seen : Seen). seen.caller) passes ≡ range_with_len k (length passes)
    → All (λ seen. AreOwn history seen.caller seen.own) passes → made_within k (length passes) history ≤ own_count passes
    → All (λ seen. seen.own ≡ numbers_of seen.caller history) passes
own_all history k [] order own enough = λ i d below. absurd (omega arith)
own_all history k (seen ∷ passes) order own enough =
    let mine : AreOwn history seen.caller seen.own = own 0 seen (omega arith) in
    let at : seen.caller ≡ k = cc order in
    let tail : map (λ (s : Seen). s.caller) passes ≡ range_with_len (k + 1) (length passes) = cc order in
    let own_rest = all_rest (λ s. AreOwn history s.caller s.own) seen passes own in
    let few = some_few seen.own (numbers_of seen.caller history) mine.stand in
    let many : length (numbers_of seen.caller history) ≡ made_by k history = numbers_many seen.caller 1 history ∙ ap (λ (c : ℕ). made_by c history) at in
    let few_rest = own_few history (k + 1) passes tail own_rest in
    all_cons (λ s. s.own ≡ numbers_of s.caller history) seen passes
    (some_all seen.own (numbers_of seen.caller history) mine.stand (omega arith))
    (own_all history (k + 1) passes tail own_rest (omega arith))

-- own edits of one pass for each caller, together as many as the history has entries, are each exactly the caller's entries
pub own_exact : (history : List Entry) (n : ℕ) (passes : List Seen) → AreOneEach n passes → All (λ seen. AreOwn history seen.caller seen.own) passes
    → sum_by (λ (seen : Seen). length seen.own) passes ≡ length history → All (λ seen. seen.own ≡ numbers_of seen.caller history) passes
own_exact history n passes each own total =
    let order : map (λ (seen : Seen). seen.caller) passes ≡ range_with_len 0 (length passes) =
    each ∙ ap (range_with_len 0) (sym (one_each_many n passes each)) in
    let count = own_count_is passes in
    let few = made_within_few 0 (length passes) history in
    own_all history 0 passes order own (omega arith)
