-- The words of a generator, and the generator that is left after them.
use Rattle.std.specs.Prelude.{ℕ, zero, suc}

-- the state after k words
unfoldable pub after_words : {S : Type 0} → (S → ℕ × S) → ℕ → S → S
after_words step zero s = s
after_words step (suc k) s = after_words step k (step s).1
