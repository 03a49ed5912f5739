-- The words of a generator, one more and many more.
use Rattle.std.proofs.Common.{◌≡◌, ℕ, zero, suc, ◌+◌, [], ◌∷◌, ◌++◌, length, drop, refl, ap, add-one, zero-add, suc-add}
use Rattle.rand_core.specs.Steps.{first_words}
use Rattle.drm_road.specs.Words.{after_words}

pub length-first_words : {S : Type 0} (step : S → ℕ × S) (k : ℕ) (s : S) → length (first_words step k s) ≡ k
unfolding first_words
length-first_words step zero s = refl
length-first_words step (suc k) s = ap suc (length-first_words step k (step s).1)

words_suc : {S : Type 0} (step : S → ℕ × S) (k : ℕ) (s : S) → first_words step (suc k) s ≡ first_words step k s ++ (step (after_words step k s)).0 ∷ []
unfolding first_words after_words
words_suc step zero s = refl
words_suc step (suc k) s = ap (λ rest. (step s).0 ∷ rest) (words_suc step k (step s).1)

-- one word more
pub words_more : {S : Type 0} (step : S → ℕ × S) (k : ℕ) (s : S) → first_words step (k + 1) s ≡ first_words step k s ++ (step (after_words step k s)).0 ∷ []
words_more step k s = rw add-one (words_suc step k s)

after_suc : {S : Type 0} (step : S → ℕ × S) (k : ℕ) (s : S) → after_words step (suc k) s ≡ (step (after_words step k s)).1
unfolding after_words
after_suc step zero s = refl
after_suc step (suc k) s = after_suc step k (step s).1

-- the state after one word more
pub after_more : {S : Type 0} (step : S → ℕ × S) (k : ℕ) (s : S) → after_words step (k + 1) s ≡ (step (after_words step k s)).1
after_more step k s = rw add-one (after_suc step k s)

-- the state after many words more
pub after_add : {S : Type 0} (step : S → ℕ × S) (m n : ℕ) (s : S) → after_words step (m + n) s ≡ after_words step n (after_words step m s)
unfolding after_words
after_add step zero n s = rw (zero-add n) refl
after_add step (suc m) n s = rw (suc-add m n) (after_add step m n (step s).1)

-- the words behind the first m
pub words_behind : {S : Type 0} (step : S → ℕ × S) (m n : ℕ) (s : S) → drop m (first_words step (m + n) s) ≡ first_words step n (after_words step m s)
unfolding first_words after_words
words_behind step zero n s = rw (zero-add n) refl
words_behind step (suc m) n s = rw (suc-add m n) (words_behind step m n (step s).1)
