-- Logs that are refused: the first line that is not in the grammar or not served.
use Rattle.std.proofs.Common.{◌≡◌, ◌≢◌, ℕ, zero, suc, ◌<◌, ◌≤◌, Option, None, Some, List, [], ◌∷◌, ◌++◌, length, take, drop, flat_map, refl, ap, sym, ◌∙◌, subst, arith, append_assoc, length-append, append-nil, true≢false, Result, Ok, Err}
use Rattle.std.specs.List.{All, join_with_byte}
use Rattle.std.specs.Prelude.{slice_get, is_ok, if◌then◌else◌}
use Rattle.std.proofs.lemmas.List.{length-take}
use Rattle.std.proofs.lemmas.List.Concat.{flat_map-append}
use Rattle.std.proofs.lemmas.List.Elements.{All-take, All-same}
use Rattle.std.proofs.lemmas.List.Sums.{sum_by-append}
use Rattle.std.proofs.lemmas.Option.{none-some, same_Some, slice_get_within, get_or_from_slice_get}
use Rattle.drm_talk.specs.declared.Line.{Line}
use Rattle.drm_script.specs.Limits.{line_limit}
use Rattle.drm_script.specs.Words.{lines_in}
use Rattle.drm_script.specs.Log.{line_text, line_words, IsLogLine, is_ask, IsLog, BeginsWithLog, AreGoodLines}
use Rattle.drm_tool.specs.Served.{IsServed, IsFirstUnserved}
use Rattle.drm_tool.specs.Headline.{IsServedLog, BeginsWithUnserved, IsFirstRefused}

-- ---- a log begins with the logs of its first lines

-- a list is what stands before one of its elements, that element, and what stands behind it
split_at : (lines : List Line) (n : ℕ) (line : Line) → slice_get lines n ≡ Some line → lines ≡ take n lines ++ line ∷ drop (suc n) lines
split_at [] n line is = absurd (none-some line is)
split_at (x ∷ xs) zero line is = ap (λ (l : Line). l ∷ xs) (same_Some x line is)
split_at (x ∷ xs) (suc n) line is = ap (λ (ls : List Line). x ∷ ls) (split_at xs n line is)

element : (P : Line → Type 0) (lines : List Line) (n : ℕ) (line : Line) → slice_get lines n ≡ Some line → All P lines → P line
element P lines n line is all = subst P (get_or_from_slice_get lines n line line is) (all n line (slice_get_within lines n line is))

abbrev ask_of : Line → ℕ
ask_of line = if is_ask line.act then 1 else 0

shorter : (joints : ℕ) (bytes : List ℕ) (xs : List Line) (line : Line) (ys : List Line) (rest : List ℕ) → All (IsLogLine joints) xs → BeginsWithLog joints bytes (xs ++ line ∷ ys) rest → BeginsWithLog joints bytes xs (line_text line ++ (flat_map line_text ys ++ rest))
shorter joints bytes xs line ys rest in_grammar h =
    let texts = flat_map line_text in
    record {
      front = texts xs;
      log = record {
        text = refl;
        in_grammar = in_grammar;
        asks = omega (arith, h.log.asks, sum_by-append ask_of xs (line ∷ ys));
        few = omega (arith, h.log.few, length-append xs (line ∷ ys));
      };
      text =
          h.text ∙ ap (λ (t : List ℕ). t ++ rest) (h.log.text ∙ flat_map-append line_text xs (line ∷ ys))
          ∙ append_assoc (texts xs) (line_text line ++ texts ys) rest
          ∙ ap (λ (t : List ℕ). texts xs ++ t) (append_assoc (line_text line) (texts ys) rest);
    }

-- a line has a text
some_text : (line : Line) (more : List ℕ) → line_text line ++ more ≢ []
some_text line more none = omega (arith, ap length none, length-append (line_text line) more, length-append (join_with_byte 32 (line_words line)) (10 ∷ []))

-- ---- the lines that were found

begins : (joints : ℕ) (bytes : List ℕ) (lines : List Line) (bad : Option ℕ) → AreGoodLines joints bytes lines bad → (rest : List ℕ) × BeginsWithLog joints bytes lines rest
begins joints bytes lines None good = ([], record { front = bytes; log = good; text = sym (append-nil bytes) })
begins joints bytes lines (Some i) good = (good.rest, good.before)

pub few_lines : (joints : ℕ) (bytes : List ℕ) (lines : List Line) (bad : Option ℕ) → AreGoodLines joints bytes lines bad → length lines ≤ line_limit
few_lines joints bytes lines bad good = (begins joints bytes lines bad good).1.log.few

-- where lines were found there are no more than may be
pub read_few : {X E : Type 0} (r : Result X E) (x : X) (e : E) (bytes : List ℕ) → r ≡ Ok x → (line_limit < lines_in bytes → r ≡ Err e) → lines_in bytes ≤ line_limit
read_few r x e bytes is first =
    let few : ¬ (line_limit < lines_in bytes) = λ many. true≢false (sym (ap is_ok is) ∙ ap is_ok (first many)) in
    omega (arith, few)

-- ---- the first line that is refused

-- no bytes are two logs
abbrev OneWay : Type 0
OneWay = (joints : ℕ) (bytes : List ℕ) (lines others : List Line) → IsLog joints bytes lines → IsLog joints bytes others → lines ≡ others

none_served : OneWay → (joints : ℕ) (bytes : List ℕ) (lines : List Line) (bad : Option ℕ) (i : ℕ) → AreGoodLines joints bytes lines bad → IsFirstUnserved lines i → (others : List Line) → IsServedLog joints bytes others → ⊥
none_served one_way joints bytes lines None i good first others is =
    first.unserved (element IsServed lines first.before first.line first.at (All-same IsServed lines others (one_way joints bytes lines others good is.log) is.served))
none_served one_way joints bytes lines (Some k) i good first others is = good.no_log others is.log

-- it is the first of the lines found that is not served
pub unserved_refused : OneWay → (joints : ℕ) (bytes : List ℕ) (lines : List Line) (bad : Option ℕ) (i : ℕ) → lines_in bytes ≤ line_limit → AreGoodLines joints bytes lines bad → IsFirstUnserved lines i → IsFirstRefused (λ before rest. BeginsWithUnserved joints rest) joints i bytes
unserved_refused one_way joints bytes lines bad i few good first =
    let found = begins joints bytes lines bad good in
    let n = first.before in
    let line = first.line in
    let after = drop (suc n) lines in
    let more = flat_map line_text after ++ found.0 in
    let whole = subst (λ (ls : List Line). BeginsWithLog joints bytes ls found.0) (split_at lines n line first.at) found.1 in
    let in_grammar = found.1.log.in_grammar in
    record {
      lines = take n lines;
      rest = line_text line ++ more;
      before = shorter joints bytes (take n lines) line after found.0 (All-take (IsLogLine joints) n lines in_grammar) whole;
      served = first.served;
      place = omega (arith, first.place, length-take n lines, slice_get_within lines n line first.at);
      some_left = some_text line more;
      refused = record {
        line = line;
        more = more;
        begins = record { fits = element (IsLogLine joints) lines n line first.at in_grammar; text = refl };
        unserved = first.unserved;
      };
      few = few;
      no_log = none_served one_way joints bytes lines bad i good first;
    }
