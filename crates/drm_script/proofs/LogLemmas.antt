-- Logs: bytes are the text of one list of lines, and of none where something else stands behind some lines.
use Rattle.std.proofs.Common.{◌≡◌, ℕ, ◌+◌, ◌<◌, ◌≤◌, List, [], ◌∷◌, ◌++◌, length, flat_map, Option, Some, sym, subst, refl, ◌∙◌, ap, arith}
use Rattle.std.specs.List.{All}
use Rattle.std.proofs.lemmas.List.{append-nil}
use Rattle.std.proofs.lemmas.List.Elements.{All-head}
use Rattle.std.proofs.lemmas.List.Sums.{sum_by-cons, sum_by-append, sum_by_push}
use Rattle.drm_talk.specs.declared.Line.{Line}
use Rattle.drm_script.specs.declared.words.WordFault.{WordFault}
use Rattle.drm_script.specs.declared.words.WordFault.TheVariants.{Bad, Memory}
use Rattle.drm_script.specs.Limits.{line_limit, ask_limit}
use Rattle.drm_script.specs.Words.{words_in, first_line, lines_in}
use Rattle.drm_script.specs.Front.{BeginsWithNone}
use Rattle.drm_script.specs.Reader.{Fails}
use Rattle.drm_script.specs.Reading.{line_in}
use Rattle.drm_script.specs.Log.{line_text, line_words, IsLogLine, is_ask, asks_in, IsLog, IsBadAfter, AreGoodLines, IsTooLong, BeginsWithNoLine}
use Rattle.drm_script.proofs.CountLemmas.{one_if, some_lines, lines_of_texts}
use Rattle.drm_script.proofs.RowLemmas.{ahead, none_read}
use Rattle.drm_script.proofs.ActLemmas.{line_laws, lines_are_texts}

-- where no line is read, none stands there
pub no_line_read : (joints : ℕ) (e : WordFault) (bytes : List ℕ) → Fails e (line_in joints (words_in (first_line bytes))) → e ≡ Bad → BeginsWithNone line_text (IsLogLine joints) bytes
no_line_read joints Bad bytes h is = none_read line_words (IsLogLine joints) (line_in joints) (line_laws joints) bytes h
no_line_read joints Memory bytes h is = absurd cc

-- nothing is the text of no line
pub no_more : (joints : ℕ) (lines : List Line) → All (IsLogLine joints) lines → [] ≡ flat_map line_text lines → lines ≡ []
no_more joints [] h e = refl
no_more joints (x ∷ xs) h e = absurd (omega (arith, ap length e, (lines_are_texts joints).some x (flat_map line_text xs)))

pub log_one_way : (joints : ℕ) (bytes : List ℕ) (xs ys : List Line) → IsLog joints bytes xs → IsLog joints bytes ys → xs ≡ ys
log_one_way joints bytes xs ys h k =
    let p = ahead line_text (IsLogLine joints) (lines_are_texts joints) xs ys [] h.in_grammar k.in_grammar (append-nil (flat_map line_text xs) ∙ sym h.text ∙ k.text) in
    sym (p.1 ∙ ap (λ (zs : List Line). xs ++ zs) (no_more joints p.0 p.3 p.2) ∙ append-nil xs)

-- ---- how many lines there are, and how many asks among them

pub lines_before : (joints : ℕ) (bytes : List ℕ) (lines : List Line) (rest : List ℕ) → bytes ≡ flat_map line_text lines ++ rest → All (IsLogLine joints) lines → lines_in bytes ≡ length lines + lines_in rest
lines_before joints bytes lines rest text in_grammar = ap lines_in text ∙ lines_of_texts line_words (IsLogLine joints) (line_laws joints).row lines rest in_grammar

lines_of_log : (joints : ℕ) (bytes : List ℕ) (lines : List Line) → IsLog joints bytes lines → lines_in bytes ≡ length lines
lines_of_log joints bytes lines h = omega (arith, lines_before joints bytes lines [] (h.text ∙ sym (append-nil (flat_map line_text lines))) h.in_grammar)

-- the place of a line that is there is no greater than the number of lines
pub place_fits : (joints : ℕ) (bytes : List ℕ) (lines : List Line) (rest : List ℕ) → bytes ≡ flat_map line_text lines ++ rest → All (IsLogLine joints) lines → lines_in bytes ≤ line_limit → ¬ (length rest ≡ 0) → length lines + 1 ≤ line_limit
place_fits joints bytes lines rest text in_grammar few some = omega (arith, few, lines_before joints bytes lines rest text in_grammar, some_lines rest some)

abbrev ask_of : Line → ℕ
ask_of line = one_if (is_ask line.act)

pub one_more_ask : (lines : List Line) (line : Line) → asks_in (lines ++ line ∷ []) ≡ asks_in lines + one_if (is_ask line.act)
one_more_ask lines line = sum_by_push ask_of lines line

asks_before : (lines : List Line) (line : Line) (others : List Line) → asks_in (lines ++ line ∷ []) ≤ asks_in (lines ++ line ∷ others)
asks_before lines line others = omega (arith, sum_by_push ask_of lines line, sum_by-append ask_of lines (line ∷ others), sum_by-cons ask_of line others)

-- ---- where reading stops

pub too_long : (joints n : ℕ) (bytes : List ℕ) → n ≡ lines_in bytes → line_limit < n → IsTooLong joints n bytes
too_long joints n bytes count many = record {
  count = count;
  many = many;
  no_log = λ others h. omega (arith, count, many, lines_of_log joints bytes others h, h.few);
}

stops : (joints : ℕ) (lines zs : List Line) (rest : List ℕ) → All (IsLogLine joints) zs → asks_in (lines ++ zs) ≤ ask_limit → (rest ≡ [] → ⊥) → BeginsWithNoLine joints lines rest → rest ≡ flat_map line_text zs → ⊥
stops joints lines [] rest h few some bad e = some e
stops joints lines (z ∷ zs) rest h few some bad e = bad z (flat_map line_text zs) (All-head (IsLogLine joints) z zs h) (omega (arith, few, asks_before lines z zs)) e

-- what stands behind some lines and begins with no line that may stand there is the first bad line
pub bad_after : (joints : ℕ) (bytes : List ℕ) (lines : List Line) (rest : List ℕ) → bytes ≡ flat_map line_text lines ++ rest → All (IsLogLine joints) lines → asks_in lines ≤ ask_limit → lines_in bytes ≤ line_limit → (rest ≡ [] → ⊥) → BeginsWithNoLine joints lines rest → IsBadAfter joints lines (length lines + 1) bytes
bad_after joints bytes lines rest text in_grammar asks few some bad = record {
  rest = rest;
  before = record {
    front = flat_map line_text lines;
    log = record { text = refl; in_grammar = in_grammar; asks = asks; few = omega (arith, few, lines_before joints bytes lines rest text in_grammar) };
    text = text;
  };
  place = refl;
  some_left = some;
  bad = bad;
  few = few;
  no_log = λ others h.
      let p = ahead line_text (IsLogLine joints) (lines_are_texts joints) lines others rest in_grammar h.in_grammar (sym text ∙ h.text) in
      stops joints lines p.0 rest p.3 (omega (arith, h.asks, ap asks_in p.1)) some bad p.2;
}

-- the lines that were found are those before it
pub good_before : (joints : ℕ) (bytes : List ℕ) (lines found : List Line) (bad : Option ℕ) → found ≡ lines → bad ≡ Some (length lines + 1) → IsBadAfter joints lines (length lines + 1) bytes → AreGoodLines joints bytes found bad
good_before joints bytes lines found bad same place is =
    subst (λ (x : Option ℕ). AreGoodLines joints bytes found x) (sym place) (subst (λ (ls : List Line). IsBadAfter joints ls (length lines + 1) bytes) (sym same) is)

-- no line stands there; or an ask, and there are as many as may be
pub none_there : (joints : ℕ) (lines : List Line) (rest : List ℕ) → BeginsWithNone line_text (IsLogLine joints) rest → BeginsWithNoLine joints lines rest
none_there joints lines rest none = λ line more fits asks e. none line more fits e

pub one_ask_too_many : (joints : ℕ) (lines : List Line) (rest : List ℕ) (line : Line) (after : List ℕ) → IsLogLine joints line → rest ≡ line_text line ++ after → ask_limit < asks_in lines + one_if (is_ask line.act) → BeginsWithNoLine joints lines rest
one_ask_too_many joints lines rest line after fits text many = λ other more other_fits asks e.
    let same = (lines_are_texts joints).one_way line other after more fits other_fits (sym text ∙ e) in
    omega (arith, many, asks, one_more_ask lines other, ap (λ (l : Line). one_if (is_ask l.act)) same.0)

pub some_left : (rest : List ℕ) → ¬ (length rest ≡ 0) → rest ≡ [] → ⊥
some_left rest some is = some (ap length is)

-- where nothing is left the log is read
pub whole_log : (joints : ℕ) (bytes : List ℕ) (lines : List Line) (rest : List ℕ) → bytes ≡ flat_map line_text lines ++ rest → All (IsLogLine joints) lines → asks_in lines ≤ ask_limit → lines_in bytes ≤ line_limit → length rest ≡ 0 → IsLog joints bytes lines
whole_log joints bytes lines [] text in_grammar asks few none = record {
  text = text ∙ append-nil (flat_map line_text lines);
  in_grammar = in_grammar;
  asks = asks;
  few = omega (arith, few, lines_before joints bytes lines [] text in_grammar);
}
whole_log joints bytes lines (b ∷ rest) text in_grammar asks few none = absurd (omega (arith, none))
