-- The words of a line, taken from its front.
use Rattle.std.proofs.Common.{◌≡◌, ◌≢◌, ℕ, Bool, true, false, true≢false, eqb, ltb, Option, None, Some, MatchOption, not, List, [], ◌∷◌, ◌++◌, length, take, drop, refl, sym, ap, subst, inl, inr, ◌∙◌, arith}
use Rattle.std.specs.Prelude.{All}
use Rattle.std.specs.List.{AllByRecursion, onto_first}
use Rattle.std.specs.Option.{is_some}
use Rattle.std.specs.Cmp.Lexicographic.{pointwise}
use Rattle.std.proofs.lemmas.Bool.{ltb-true}
use Rattle.std.proofs.lemmas.List.Elements.{All-weaker, recursion_from_All}
use Rattle.std.proofs.lemmas.List.Splits.{slice_split_none, slice_split_at, length-slice_split}
use Rattle.std.proofs.lemmas.Slice.Eq.{bytes_eq-Decides}
use borrow.Author.Tests.{true-eqb}
use Rattle.drm_script.specs.Words.{Lacks, words_in, first_line, behind_line, is_plain}
use Rattle.drm_script.specs.Left.{Left, line_left, left_behind, IsEnd}
use Rattle.drm_script.specs.Reader.{starts}
use Rattle.drm_script.proofs.TestLemmas.{false_from_ne, false_from_not, parts_true}

no_test : (byte : ℕ) (bytes : List ℕ) → Lacks byte bytes → All (λ (other : ℕ). eqb other byte ≡ false) bytes
no_test byte bytes lacks = All-weaker (λ (other : ℕ). other ≢ byte) (λ (other : ℕ). eqb other byte ≡ false) (λ other differs. false_from_ne other byte differs) bytes lacks

-- a line has a word, though it may be empty
pub some_words : (line : List ℕ) → words_in line ≡ [] → ⊥
some_words line none = omega (arith, ap length none, length-slice_split (λ byte. eqb byte 32) line)

-- a line without a blank is one word
pub one_word : (line : List ℕ) → Lacks 32 line → words_in line ≡ line ∷ []
one_word line lacks = slice_split_none (λ byte. eqb byte 32) line (no_test 32 line lacks)

-- the word up to the first blank, and those behind it
pub first_word : (line word rest : List ℕ) → Lacks 32 word → line ≡ word ++ 32 ∷ rest → words_in line ≡ word ∷ words_in rest
first_word line word rest lacks is = ap words_in is ∙ slice_split_at (λ byte. eqb byte 32) word 32 rest (no_test 32 word lacks) refl

-- ---- the first word of some bytes

-- behind the first line feed
pub no_feed : (bytes : List ℕ) → Lacks 10 bytes → behind_line bytes ≡ None
no_feed bytes lacks = by_bytes bytes (recursion_from_All (λ (b : ℕ). b ≢ 10) bytes lacks) where
  by_bytes : (bs : List ℕ) → AllByRecursion (λ (b : ℕ). b ≢ 10) bs → behind_line bs ≡ None
  by_bytes [] h = refl
  by_bytes (b ∷ bs) h = rw (false_from_ne b 10 h.0) (by_bytes bs h.1)

pub first_feed : (bytes line rest : List ℕ) → Lacks 10 line → bytes ≡ line ++ 10 ∷ rest → Some rest ≡ behind_line bytes
first_feed bytes line rest lacks text = sym (ap behind_line text ∙ by_bytes line (recursion_from_All (λ (b : ℕ). b ≢ 10) line lacks)) where
  by_bytes : (bs : List ℕ) → AllByRecursion (λ (b : ℕ). b ≢ 10) bs → behind_line (bs ++ 10 ∷ rest) ≡ Some rest
  by_bytes [] h = refl
  by_bytes (b ∷ bs) h = rw (false_from_ne b 10 h.0) (by_bytes bs h.1)

-- a word that ends before some bytes is the first one, and what is behind it is left
pub word_ends : (word rest : List ℕ) → is_plain word ≡ true → IsEnd rest → ((line_left (word ++ rest)).words ≡ word ∷ (left_behind rest).words) × ((line_left (word ++ rest)).behind ≡ (left_behind rest).behind)
word_ends [] [] plain end = (refl, refl)
word_ends [] (b ∷ rest) plain (inl is) = subst (λ (x : ℕ). ((line_left (x ∷ rest)).words ≡ [] ∷ (left_behind (x ∷ rest)).words) × ((line_left (x ∷ rest)).behind ≡ (left_behind (x ∷ rest)).behind)) (sym is) (refl, refl)
word_ends [] (b ∷ rest) plain (inr is) = subst (λ (x : ℕ). ((line_left (x ∷ rest)).words ≡ [] ∷ (left_behind (x ∷ rest)).words) × ((line_left (x ∷ rest)).behind ≡ (left_behind (x ∷ rest)).behind)) (sym is) (refl, refl)
word_ends (a ∷ word) rest plain end =
    let p = parts_true (ltb 32 a) (is_plain word) plain in let above = ltb-true 32 a p.0 in
    let h = word_ends word rest p.1 end in
    rw (false_from_ne a 10 (λ is. omega (arith, above, is)), false_from_ne a 32 (λ is. omega (arith, above, is))) (ap (onto_first a) h.0, h.1)

-- the first word of some bytes, and what stands behind it
pub record FirstWord (bytes : List ℕ) : Type 0 where
  pub word : List ℕ
  pub rest : List ℕ
  pub text : bytes ≡ word ++ rest
  pub end : IsEnd rest
  pub others : List (List ℕ)
  pub words : (line_left bytes).words ≡ word ∷ others

pub first_word_of : (bytes : List ℕ) → FirstWord bytes
first_word_of [] = record { word = []; rest = []; text = refl; end = tt; others = []; words = refl }
first_word_of (b ∷ bs) = by_byte (eqb b 10) (eqb b 32) refl refl (first_word_of bs) where
  by_byte : (feed blank : Bool) → eqb b 10 ≡ feed → eqb b 32 ≡ blank → FirstWord bs → FirstWord (b ∷ bs)
  by_byte true blank is_feed is_blank h = record { word = []; rest = b ∷ bs; text = refl; end = inr (true-eqb b 10 (sym is_feed)); others = []; words = rw is_feed refl }
  by_byte false true is_feed is_blank h = record { word = []; rest = b ∷ bs; text = refl; end = inl (true-eqb b 32 (sym is_blank)); others = (line_left bs).words; words = rw (is_feed, is_blank) refl }
  by_byte false false is_feed is_blank h = record { word = b ∷ h.word; rest = h.rest; text = ap (λ (t : List ℕ). b ∷ t) h.text; end = h.end; others = h.others; words = rw (is_feed, is_blank) (ap (onto_first b) h.words) }

-- no word is left where none stands at the front
pub none_left : {T : Type 0} (front : Option T) (bytes : T → List ℕ) (none : Bool) (left : Left) → MatchOption front (left.words ≡ []) (λ x. left ≡ line_left (bytes x)) → is_some front ≡ not none → (none ≡ true → left.words ≡ []) × (left.words ≡ [] → none ≡ true)
none_left None bytes true left h e = (λ t. h, λ n. refl)
none_left None bytes false left h e = absurd cc
none_left (Some x) bytes true left h e = absurd cc
none_left (Some x) bytes false left h e = (λ t. absurd cc, λ n. absurd (some_words (first_line (bytes x)) (sym (ap (λ (l : Left). l.words) h) ∙ n)))

-- ---- taking a word that is known

-- where the first word is this one, a word ends behind it
pub starts_with_word : (word bytes : List ℕ) → starts word (line_left bytes).words ≡ true → (rest : List ℕ) × (bytes ≡ word ++ rest) × IsEnd rest
starts_with_word word bytes h =
    let f = first_word_of bytes in
    let same : f.word ≡ word = (bytes_eq-Decides f.word word).0 (sym (ap (starts word) f.words) ∙ h) in
    (f.rest, f.text ∙ ap (λ (w : List ℕ). w ++ f.rest) same, f.end)

take_front : (word rest : List ℕ) → take (length word) (word ++ rest) ≡ word
take_front [] rest = refl
take_front (b ∷ word) rest = ap (λ (t : List ℕ). b ∷ t) (take_front word rest)

front : (word rest : List ℕ) → pointwise eqb (take (length word) (word ++ rest)) word ≡ true
front word rest = rw (take_front word rest) ((bytes_eq-Decides word word).1 refl)

pub not_in_front : (word bytes : List ℕ) → pointwise eqb (take (length word) bytes) word ≡ false → false ≡ starts word (line_left bytes).words
not_in_front word bytes differs = false_from_not _ (λ h.
    let p = starts_with_word word bytes h in
    true≢false (sym (ap (λ (b : List ℕ). pointwise eqb (take (length word) b) word) p.1 ∙ front word p.0) ∙ differs))

pub goes_on : (word bytes rest : List ℕ) → bytes ≡ word ++ rest → (IsEnd rest → ⊥) → false ≡ starts word (line_left bytes).words
goes_on word bytes rest text none = false_from_not _ (λ h.
    let p = starts_with_word word bytes h in
    none (subst IsEnd (append_left word p.0 rest (sym p.1 ∙ text)) p.2)) where
      append_left : (w a b : List ℕ) → w ++ a ≡ w ++ b → a ≡ b
      append_left [] a b e = e
      append_left (x ∷ w) a b e = append_left w a b cc

pub is_taken : (word bytes rest : List ℕ) → is_plain word ≡ true → bytes ≡ word ++ rest → IsEnd rest → (true ≡ starts word (line_left bytes).words) × ((left_behind rest).words ≡ drop 1 (line_left bytes).words) × ((left_behind rest).behind ≡ (line_left bytes).behind)
is_taken word bytes rest plain text end =
    let h = word_ends word rest plain end in
    rw (text, h.0, h.1) (sym ((bytes_eq-Decides word word).1 refl), refl, refl)
