-- Each step on word 0 of the book keeps the rule.
use Rattle.std.proofs.Common.{◌≡◌, ℕ, zero, suc, ◌+◌, ◌<◌, ◌≤◌, ◌≢◌, eqb, Bool, true, false, List, [], ◌∷◌, ◌++◌, length, refl, ap, sym, ◌∙◌, subst, arith, inl, inr, None, get_or-set_same, get_or-set_other, length-append, append-nil, eqb-true, true≢false}
use Rattle.std.specs.Prelude.{slice_set}
use Rattle.std.proofs.Math.ListN.{set, length-set}
use Rattle.std.proofs.lemmas.List.{set-get_or, get_or_append_left}
use Rattle.std.proofs.lemmas.Bool.Decides.{eqb_tells, leb_tells}
use prog.Atomic.{either}
use Rattle.logbook.specs.Pages.{Cell, cell, keeps, gives, adds, nib, no_nib, may_write, may_make, step, Moves, Goes}
use Rattle.drm_talk.specs.declared.Entry.{Entry}
use Rattle.drm_talk.specs.History.{MayFollow, LegalHistoriesGoOn}
use Rattle.drm_history.specs.Rules.{IsKept, Adds, Looks, Makes}
use Rattle.drm_history.proofs.FrontLemmas.{prefix_whole}

abbrev pub shown : List Entry → List Entry
shown log = []

abbrev pub moved : List Entry → List Entry → ℕ → Type 0
moved xs ys n = Unit {0}

-- a word that is at home is one of the book's
pub home_within : (cells : List Cell) (k : ℕ) → (cell cells k).1 ≡ true → k < length cells
home_within [] k home = absurd (cc)
home_within (c ∷ cells) zero home = omega arith
home_within (c ∷ cells) (suc k) home = let rest = home_within cells k home in omega arith

-- writing 0 for 0 changes no word
stays : (n : ℕ) (b : Bool) → eqb n 0 ≡ b → either (eqb n 0) 0 n ≡ n
stays n true is = let zero_is : n ≡ 0 = eqb-true n 0 is in rw is (sym zero_is)
stays n false is = rw is refl

-- the word 0 as it was
pub unchanged : (cells : List Cell) (log : List Entry) → IsKept cells log → slice_set cells 0 (either (eqb (cell cells 0).0 0) 0 (cell cells 0).0, true) ≡ cells
unchanged cells log kept =
    let home : (cell cells 0).1 ≡ true = ap (λ (c : Cell). c.1) kept.head in
    let same : ◌≡◌ {A = Cell} (either (eqb (cell cells 0).0 0) 0 (cell cells 0).0, true) (cell cells 0) =
    cc (stays (cell cells 0).0 (eqb (cell cells 0).0 0) refl) in
    ap (λ (c : Cell). slice_set cells 0 c) same ∙ set-get_or cells 0 (0, false)

-- the next entry, with its word
brought : LegalHistoriesGoOn → (cells : List Cell) (log : List Entry) (entry : Entry) (n : ℕ) → IsKept cells log → n ≡ length log → n + 2 < length cells → MayFollow log entry (length log)
    → IsKept (slice_set cells (n + 2) (0, true)) (log ++ entry ∷ [])
brought go_on cells log entry n kept n_is within may =
    let other : (k : ℕ) → k ≢ n + 2 → cell (slice_set cells (n + 2) (0, true)) k ≡ cell cells k =
    λ k apart. get_or-set_other cells (n + 2) k (0, true) (0, false) apart in
    let long : length (slice_set cells (n + 2) (0, true)) ≡ length cells = length-set cells (n + 2) (0, true) in
    let first : 0 ≢ n + 2 = omega arith in
    record {
      head = other 0 first ∙ (kept.head ∙ ap (λ (m : ℕ). (m, true)) (sym long));
      homes = λ i below. elim (eqb_tells i n) [
        | inl t ↦
            let is : i ≡ n = t.1 in
            subst (λ (j : ℕ). (cell (slice_set cells (n + 2) (0, true)) (j + 2)).1 ≡ true) (sym is)
            (ap (λ (c : Cell). c.1) (get_or-set_same cells (n + 2) (0, true) (0, false) within))
        | inr f ↦
            let apart : i ≢ n = f.1 in
            let apart_words : i + 2 ≢ n + 2 = omega arith in
            let before : i < length log = omega (arith, length-append log (entry ∷ [])) in
            ap (λ (c : Cell). c.1) (other (i + 2) apart_words) ∙ kept.homes i before
      ];
      legal = go_on log entry kept.legal may;
    }

-- while the word of an entry is not at home, the entry does not stand
seen_all : (cells : List Cell) (log : List Entry) (n : ℕ) → IsKept cells log → (cell cells (n + 2)).1 ≡ false → length log ≤ n
seen_all cells log n kept away =
    elim (leb_tells (length log) n) [
      | inl t ↦ t.1
      | inr f ↦ absurd (true≢false (sym (kept.homes n f.1) ∙ away))
    ]

-- whoever has the pen of the next word and has seen all before it may add the entry
pub adds_moves : LegalHistoriesGoOn → (v : List Entry) (entry : Entry) (n : ℕ) → n ≡ length v → MayFollow v entry (length v)
    → Moves IsKept shown moved 0 (v, (nib may_write (n + 2) 0, None)) (λ m. either (eqb m 0) 0 m) (Adds (step 0 0 0 entry) (v, (nib may_write (n + 2) 0, None)))
adds_moves go_on v entry n n_is may cells log kept pre away =
    let out = away refl in
    let shown_all = seen_all cells log n kept out.1 in
    let all : length log ≤ length v = omega arith in
    let same : v ≡ log = prefix_whole v log pre all in
    let may' : MayFollow log entry (length log) = subst (λ (h : List Entry). MayFollow h entry (length h)) same may in
    let n_log : n ≡ length log = n_is ∙ ap length same in
    let next = brought go_on cells log entry n kept n_log out.0 may' in
    let home : (cell cells 0).1 ≡ true = ap (λ (c : Cell). c.1) kept.head in (
      home_within cells 0 home,
      home,
      (
        gives,
        entry ∷ [],
        None,
        refl,
        subst (λ (cs : List Cell). IsKept (slice_set cs (n + 2) (0, true)) (log ++ entry ∷ [])) (sym (unchanged cells log kept)) next,
        inl (refl, refl),
        (ap (λ (h : List Entry). h ++ entry ∷ []) (sym same), next.legal),
      ),
    )

-- whoever has the pen of a word learns that the history is not longer than that
pub looks_moves : (v : List Entry) (ask : Entry) (n : ℕ)
    → Moves IsKept shown moved 0 (v, (nib may_write (n + 2) 0, None)) (λ m. either (eqb m 0) 0 m) (Looks (step 0 0 0 ask) (v, (nib may_write (n + 2) 0, None)))
looks_moves v ask n cells log kept pre away =
    let out = away refl in
    let all : length log ≤ n = seen_all cells log n kept out.1 in
    let none : length (log ++ []) ≡ length log = ap length (append-nil log) in
    let home : (cell cells 0).1 ≡ true = ap (λ (c : Cell). c.1) kept.head in (
      home_within cells 0 home,
      home,
      (
        keeps,
        [],
        None,
        tt,
        subst (λ (cs : List Cell). IsKept cs (log ++ [])) (sym (unchanged cells log kept))
            (subst (λ (h : List Entry). IsKept cells h) (sym (append-nil log)) kept),
        inl (refl, refl),
        (omega arith, refl),
      ),
    )

-- one more word: the first is the new number, and the others are as they were
longer : (cells : List Cell) (log : List Entry) (key : ℕ) → IsKept cells log → (cell cells 0).0 ≡ key
    → IsKept (slice_set cells 0 (key + 1, true) ++ (0, false) ∷ []) log
longer cells log key kept key_is =
    let home : (cell cells 0).1 ≡ true = ap (λ (c : Cell). c.1) kept.head in
    let there : 0 < length cells = home_within cells 0 home in
    let size : (cell cells 0).0 ≡ length cells = ap (λ (c : Cell). c.0) kept.head in
    let same : length (slice_set cells 0 (key + 1, true)) ≡ length cells = length-set cells 0 (key + 1, true) in
    let long : length (slice_set cells 0 (key + 1, true) ++ (0, false) ∷ []) ≡ key + 1 =
    omega (arith, length-append (slice_set cells 0 (key + 1, true)) ((0, false) ∷ [])) in
    let front : (k : ℕ) → k < length cells → cell (slice_set cells 0 (key + 1, true) ++ (0, false) ∷ []) k ≡ cell (slice_set cells 0 (key + 1, true)) k =
    λ k below. get_or_append_left (slice_set cells 0 (key + 1, true)) ((0, false) ∷ []) (0, false) k (omega arith) in
    record {
      head = front 0 there ∙ (get_or-set_same cells 0 (key + 1, true) (0, false) there ∙ ap (λ (m : ℕ). (m, true)) (sym long));
      homes = λ i below.
          let old = kept.homes i below in
          let apart : i + 2 ≢ 0 = omega arith in
          ap (λ (c : Cell). c.1) (front (i + 2) (home_within cells (i + 2) old) ∙ get_or-set_other cells 0 (i + 2) (key + 1, true) (0, false) apart) ∙ old;
      legal = kept.legal;
    }

makes_goes : (cells : List Cell) (log v : List Entry) (ask : Entry) (key : ℕ) → IsKept cells log
    → (b : Bool) → eqb (cell cells 0).0 key ≡ b
    → Goes IsKept shown moved 0 (v, (no_nib, None)) (λ m. either (eqb m key) (key + 1) m) (Makes (step 0 key (key + 1) ask) (v, (no_nib, None))) cells log
makes_goes cells log v ask key kept true is =
    let key_is : (cell cells 0).0 ≡ key = eqb-true (cell cells 0).0 key is in
    let size : length cells ≡ key = sym (ap (λ (c : Cell). c.0) kept.head) ∙ key_is in (
      adds,
      [],
      None,
      tt,
      rw is (subst (λ (h : List Entry). IsKept (slice_set cells 0 (key + 1, true) ++ (0, false) ∷ []) h) (sym (append-nil log)) (longer cells log key kept key_is)),
      inl (refl, refl),
      rw is (ap (λ (k : ℕ). nib may_make k 0) size),
    )
makes_goes cells log v ask key kept false is =
    let same : slice_set cells 0 ((cell cells 0).0, true) ≡ cells =
    let home : (cell cells 0).1 ≡ true = ap (λ (c : Cell). c.1) kept.head in
    let whole : ◌≡◌ {A = Cell} ((cell cells 0).0, true) (cell cells 0) = cc in
    ap (λ (c : Cell). slice_set cells 0 c) whole ∙ set-get_or cells 0 (0, false) in (
      keeps,
      [],
      None,
      tt,
      rw is (subst (λ (cs : List Cell). IsKept cs (log ++ [])) (sym same) (subst (λ (h : List Entry). IsKept cells h) (sym (append-nil log)) kept)),
      inl (refl, refl),
      rw is tt,
    )

-- where word 0 holds the expected number, a word with that key may be made
pub makes_moves : (v : List Entry) (ask : Entry) (key : ℕ)
    → Moves IsKept shown moved 0 (v, (no_nib, None)) (λ m. either (eqb m key) (key + 1) m) (Makes (step 0 key (key + 1) ask) (v, (no_nib, None)))
makes_moves v ask key cells log kept pre away =
    let home : (cell cells 0).1 ≡ true = ap (λ (c : Cell). c.1) kept.head in
    (home_within cells 0 home, home, makes_goes cells log v ask key kept (eqb (cell cells 0).0 key) refl)
