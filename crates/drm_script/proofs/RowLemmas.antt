-- Lines and their words: bytes are cut at line feeds and blanks in one way, so that lines whose words are read back are told apart.
use Rattle.std.proofs.Common.{◌≡◌, ◌≢◌, ℕ, ◌+◌, ◌<◌, ◌≤◌, Bool, true, false, cond, eqb, ltb, Option, None, Some, List, [], ◌∷◌, ◌++◌, length, flat_map, Result, Ok, Err, lit≤, refl, sym, ap, ap₂, subst, ◌∙◌, arith, append_assoc, length-append}
use Rattle.std.specs.List.{AllByRecursion, All, join_with_byte}
use Rattle.std.proofs.lemmas.Bool.{ltb-true}
use Rattle.std.proofs.lemmas.List.Elements.{All-from_recursion, All-head, All-tail}
use borrow.Author.Tests.{true-eqb, false-eqb}
use Rattle.std.proofs.lemmas.List.Splits.{join_with_byte-slice_split}
use Rattle.std.proofs.lemmas.List.{flat_map_more}
use Rattle.drm_script.specs.declared.words.WordFault.{WordFault}
use Rattle.drm_script.specs.declared.words.WordFault.TheVariants.{Bad}
use Rattle.drm_script.specs.Words.{words_in, line_of, is_plain, first_line, behind_line}
use Rattle.drm_script.specs.Front.{BeginsWith, BeginsWithNone}
use Rattle.drm_script.proofs.TestLemmas.{parts_true}
use Rattle.drm_script.proofs.ReaderLemmas.{ok_is, ok_err}
use Rattle.drm_script.proofs.WordLemmas.{one_word, first_word}

abbrev pub ArePlain : List (List ℕ) → Type 0
ArePlain ws = AllByRecursion (λ v. is_plain v ≡ true) ws

-- the words of a line
abbrev pub IsRow : List (List ℕ) → Type 0
IsRow [] = ⊥
IsRow (w ∷ ws) = ArePlain (w ∷ ws)

-- ---- bytes are cut at the first byte c in one way

abbrev LacksFeed : List ℕ → Type 0
LacksFeed bytes = AllByRecursion (λ (b : ℕ). b ≢ 10) bytes

plain_lacks : (c : ℕ) (w : List ℕ) → c ≤ 32 → is_plain w ≡ true → AllByRecursion (λ (b : ℕ). b ≢ c) w
plain_lacks c [] low h = tt
plain_lacks c (b ∷ w) low h =
    let p = parts_true (ltb 32 b) (is_plain w) h in
    (λ is. omega (arith, ltb-true 32 b p.0, is), plain_lacks c w low p.1)

same_tail : (a b : ℕ) (x y : List ℕ) → a ∷ x ≡ b ∷ y → (a ≡ b) × (x ≡ y)
same_tail a b x y e = (cc, cc)

cut : (c : ℕ) (v w x y : List ℕ) → AllByRecursion (λ (b : ℕ). b ≢ c) v → AllByRecursion (λ (b : ℕ). b ≢ c) w → v ++ c ∷ x ≡ w ++ c ∷ y → (v ≡ w) × (x ≡ y)
cut c [] [] x y hv hw e = (λ _. [], (same_tail c c x y e).1)
cut c [] (b ∷ w) x y hv hw e = absurd (hw.0 (sym (same_tail c b x (w ++ c ∷ y) e).0))
cut c (a ∷ v) [] x y hv hw e = absurd (hv.0 (same_tail a c (v ++ c ∷ x) y e).0)
cut c (a ∷ v) (b ∷ w) x y hv hw e =
    let parts = same_tail a b (v ++ c ∷ x) (w ++ c ∷ y) e in
    let rest = cut c v w x y hv.1 hw.1 parts.1 in
    (ap (λ (h : ℕ). h ∷ v) parts.0 ∙ ap (λ (t : List ℕ). b ∷ t) rest.0, rest.1)

present : (c : ℕ) (v x : List ℕ) → AllByRecursion (λ (b : ℕ). b ≢ c) (v ++ c ∷ x) → ⊥
present c [] x h = h.0 (λ _. c)
present c (a ∷ v) x h = present c v x h.1

-- ---- words to bytes

pub joined_lacks : (ws : List (List ℕ)) → IsRow ws → AllByRecursion (λ (b : ℕ). b ≢ 10) (join_with_byte 32 ws)
joined_lacks [] h = absurd h
joined_lacks (w ∷ []) h = plain_lacks 10 w (lit≤ tt) h.0
joined_lacks (w ∷ v ∷ ws) h = both_lack w (join_with_byte 32 (v ∷ ws)) (plain_lacks 10 w (lit≤ tt) h.0) (joined_lacks (v ∷ ws) h.1) where
  both_lack : (x y : List ℕ) → AllByRecursion (λ (b : ℕ). b ≢ 10) x → AllByRecursion (λ (b : ℕ). b ≢ 10) y → AllByRecursion (λ (b : ℕ). b ≢ 10) (x ++ 32 ∷ y)
  both_lack [] y hx hy = (λ is. omega arith, hy)
  both_lack (a ∷ x) y hx hy = (hx.0, both_lack x y hx.1 hy)

words_back : (ws : List (List ℕ)) → IsRow ws → words_in (join_with_byte 32 ws) ≡ ws
words_back [] h = absurd h
words_back (w ∷ []) h = one_word w (All-from_recursion (λ (b : ℕ). b ≢ 32) w (plain_lacks 32 w (lit≤ tt) h.0))
words_back (w ∷ v ∷ ws) h =
    first_word (w ++ 32 ∷ join_with_byte 32 (v ∷ ws)) w (join_with_byte 32 (v ∷ ws)) (All-from_recursion (λ (b : ℕ). b ≢ 32) w (plain_lacks 32 w (lit≤ tt) h.0)) refl
    ∙ ap (λ (vs : List (List ℕ)). w ∷ vs) (words_back (v ∷ ws) h.1)

-- the words of a line, and what stands behind it
cut_row : (line rest : List ℕ) (ws : List (List ℕ)) (more : List ℕ) → LacksFeed line → IsRow ws → line ++ 10 ∷ rest ≡ line_of ws ++ more → (words_in line ≡ ws) × (rest ≡ more)
cut_row line rest ws more lacks row e =
    let p = cut 10 line (join_with_byte 32 ws) rest more lacks (joined_lacks ws row) (e ∙ append_assoc (join_with_byte 32 ws) (10 ∷ []) more) in
    (ap words_in p.0 ∙ words_back ws row, p.1)

row_text : (line rest : List ℕ) (ws : List (List ℕ)) → words_in line ≡ ws → line ++ 10 ∷ rest ≡ line_of ws ++ rest
row_text line rest ws is =
    let text : line ≡ join_with_byte 32 ws = sym (join_with_byte-slice_split 32 line) ∙ ap (join_with_byte 32) is in
    ap (λ (x : List ℕ). x ++ 10 ∷ rest) text ∙ sym (append_assoc (join_with_byte 32 ws) (10 ∷ []) rest)

no_row : (bytes : List ℕ) (ws : List (List ℕ)) (more : List ℕ) → LacksFeed bytes → bytes ≡ line_of ws ++ more → ⊥
no_row bytes ws more lacks e =
    present 10 (join_with_byte 32 ws) more (subst LacksFeed (e ∙ append_assoc (join_with_byte 32 ws) (10 ∷ []) more) lacks)

-- ---- the first line of some bytes

abbrev FirstLine : List ℕ → List ℕ → Option (List ℕ) → Type 0
FirstLine bytes line None = (bytes ≡ line) × LacksFeed line
FirstLine bytes line (Some rest) = (bytes ≡ line ++ 10 ∷ rest) × LacksFeed line

first_cut : (bytes : List ℕ) → FirstLine bytes (first_line bytes) (behind_line bytes)
first_cut [] = (refl, tt)
first_cut (b ∷ bs) = by_feed (eqb b 10) refl (first_cut bs) where
  one_more_byte : (line : List ℕ) (behind : Option (List ℕ)) → b ≢ 10 → FirstLine bs line behind → FirstLine (b ∷ bs) (b ∷ line) behind
  one_more_byte line None other h = (ap (λ (t : List ℕ). b ∷ t) h.0, (other, h.1))
  one_more_byte line (Some rest) other h = (ap (λ (t : List ℕ). b ∷ t) h.0, (other, h.1))

  by_feed : (feed : Bool) → eqb b 10 ≡ feed → FirstLine bs (first_line bs) (behind_line bs) → FirstLine (b ∷ bs) (cond feed [] (b ∷ first_line bs)) (cond feed (Some bs) (behind_line bs))
  by_feed true is h = (ap (λ (x : ℕ). x ∷ bs) (true-eqb b 10 (sym is)), tt)
  by_feed false is h = one_more_byte (first_line bs) (behind_line bs) (false-eqb b 10 (sym is)) h

-- ---- values whose words are read back

pub record AreReadBack {X : Type 0} (words_of : X → List (List ℕ)) (Fits : X → Type 0) (read : List (List ℕ) → Result X WordFault) : Type 0 where
  pub again : (x : X) → Fits x → read (words_of x) ≡ Ok x
  pub row : (x : X) → Fits x → IsRow (words_of x)

abbrev pub text_by : {X : Type 0} → (X → List (List ℕ)) → X → List ℕ
text_by words_of x = line_of (words_of x)

-- what begins with no line
pub none_cut : {X : Type 0} (words_of : X → List (List ℕ)) (Fits : X → Type 0) (bytes : List ℕ) → behind_line bytes ≡ None → BeginsWithNone (text_by words_of) Fits bytes
none_cut words_of Fits bytes none x more fits e =
    let h = subst (FirstLine bytes (first_line bytes)) none (first_cut bytes) in
    no_row bytes (words_of x) more (subst LacksFeed (sym h.0) h.1) e

-- a line in front is the one whose words are read
read_there : {X : Type 0} (words_of : X → List (List ℕ)) (Fits : X → Type 0) (read : List (List ℕ) → Result X WordFault) → AreReadBack words_of Fits read → (bytes : List ℕ) (x : X) (more : List ℕ) → Fits x → bytes ≡ text_by words_of x ++ more → read (words_in (first_line bytes)) ≡ Ok x
read_there words_of Fits read laws bytes x more fits e = by_behind (behind_line bytes) (first_cut bytes) where
  by_behind : (behind : Option (List ℕ)) → FirstLine bytes (first_line bytes) behind → read (words_in (first_line bytes)) ≡ Ok x
  by_behind None h = absurd (no_row bytes (words_of x) more (subst LacksFeed (sym h.0) h.1) e)
  by_behind (Some rest) h =
      let p = cut_row (first_line bytes) rest (words_of x) more h.1 (laws.row x fits) (sym h.0 ∙ e) in
      ap read p.0 ∙ laws.again x fits

pub none_read : {X : Type 0} (words_of : X → List (List ℕ)) (Fits : X → Type 0) (read : List (List ℕ) → Result X WordFault) → AreReadBack words_of Fits read → (bytes : List ℕ) → read (words_in (first_line bytes)) ≡ Err Bad → BeginsWithNone (text_by words_of) Fits bytes
none_read words_of Fits read laws bytes none x more fits e =
    ok_err x Bad (sym (read_there words_of Fits read laws bytes x more fits e) ∙ none)

pub other_read : {X : Type 0} (words_of : X → List (List ℕ)) (Fits : X → Type 0) (read : List (List ℕ) → Result X WordFault) → AreReadBack words_of Fits read → (bytes : List ℕ) (y : X) → read (words_in (first_line bytes)) ≡ Ok y → (Fits y → ⊥) → BeginsWithNone (text_by words_of) Fits bytes
other_read words_of Fits read laws bytes y found wrong x more fits e =
    wrong (subst Fits (ok_is x y (sym (read_there words_of Fits read laws bytes x more fits e) ∙ found)) fits)

-- what begins with a line
pub is_read : {X : Type 0} (words_of : X → List (List ℕ)) (Fits : X → Type 0) (bytes rest : List ℕ) (x : X) → behind_line bytes ≡ Some rest → words_in (first_line bytes) ≡ words_of x → Fits x → BeginsWith (text_by words_of) Fits bytes x rest
is_read words_of Fits bytes rest x some is fits =
    let h = subst (FirstLine bytes (first_line bytes)) some (first_cut bytes) in
    record { fits = fits; text = h.0 ∙ row_text (first_line bytes) rest (words_of x) is }

-- ---- lists of lines

-- a text is that of one value, and no text begins another
pub record AreTexts {X : Type 0} (text_of : X → List ℕ) (Fits : X → Type 0) : Type 0 where
  pub one_way : (x y : X) (more others : List ℕ) → Fits x → Fits y → text_of x ++ more ≡ text_of y ++ others → (x ≡ y) × (more ≡ others)
  pub some : (x : X) (more : List ℕ) → length more < length (text_of x ++ more)

pub are_texts : {X : Type 0} (words_of : X → List (List ℕ)) (Fits : X → Type 0) (read : List (List ℕ) → Result X WordFault) → AreReadBack words_of Fits read → AreTexts (text_by words_of) Fits
are_texts words_of Fits read laws = record {
  one_way = λ x y more others fx fy e.
      let line = join_with_byte 32 (words_of x) in
      let lacks = joined_lacks (words_of x) (laws.row x fx) in
      let p = cut_row line more (words_of y) others lacks (laws.row y fy) (sym (append_assoc line (10 ∷ []) more) ∙ e) in
      let same = sym (words_back (words_of x) (laws.row x fx)) ∙ p.0 in
      (ok_is x y (sym (laws.again x fx) ∙ ap read same ∙ laws.again y fy), p.1);
  some = λ x more. omega (arith, length-append (text_by words_of x) more, length-append (join_with_byte 32 (words_of x)) (10 ∷ []));
}

-- lines that are the front of other ones
pub ahead : {X : Type 0} (text_of : X → List ℕ) (Fits : X → Type 0) → AreTexts text_of Fits → (xs ys : List X) (rest : List ℕ) → All Fits xs → All Fits ys → flat_map text_of xs ++ rest ≡ flat_map text_of ys → (zs : List X) × (ys ≡ xs ++ zs) × (rest ≡ flat_map text_of zs) × All Fits zs
ahead text_of Fits laws [] ys rest hx hy e = (ys, refl, e, hy)
ahead text_of Fits laws (x ∷ xs) [] rest hx hy e =
    absurd (omega (arith, ap length e, length-append (text_of x ++ flat_map text_of xs) rest, laws.some x (flat_map text_of xs)))
ahead {X = X} text_of Fits laws (x ∷ xs) (y ∷ ys) rest hx hy e =
    let p = laws.one_way x y (flat_map text_of xs ++ rest) (flat_map text_of ys) (All-head Fits x xs hx) (All-head Fits y ys hy) (sym (append_assoc (text_of x) (flat_map text_of xs) rest) ∙ e) in
    let q = ahead text_of Fits laws xs ys rest (All-tail Fits x xs hx) (All-tail Fits y ys hy) p.1 in
    (q.0, ap₂ (λ (z : X) (zs : List X). z ∷ zs) (sym p.0) q.1, q.2, q.3)

-- one more line
pub one_more : {X : Type 0} (text_of : X → List ℕ) (bytes : List ℕ) (xs : List X) (rest : List ℕ) (x : X) (after : List ℕ) → bytes ≡ flat_map text_of xs ++ rest → rest ≡ text_of x ++ after → bytes ≡ flat_map text_of (xs ++ x ∷ []) ++ after
one_more text_of bytes xs rest x after e f =
    e ∙ ap (λ (t : List ℕ). flat_map text_of xs ++ t) f
    ∙ sym (append_assoc (flat_map text_of xs) (text_of x) after)
    ∙ ap (λ (t : List ℕ). t ++ after) (flat_map_more text_of [] xs x)

few : {X : Type 0} (text_of : X → List ℕ) (Fits : X → Type 0) → AreTexts text_of Fits → (xs : List X) → length xs ≤ length (flat_map text_of xs)
few text_of Fits laws [] = omega arith
few text_of Fits laws (x ∷ xs) = omega (arith, few text_of Fits laws xs, laws.some x (flat_map text_of xs))

-- there are no more lines than bytes
pub lines_fit : {X : Type 0} (text_of : X → List ℕ) (Fits : X → Type 0) → AreTexts text_of Fits → (bytes : List ℕ) (xs : List X) (rest : List ℕ) → bytes ≡ flat_map text_of xs ++ rest → length xs + length rest ≤ length bytes
lines_fit text_of Fits laws bytes xs rest e = omega (arith, ap length e, length-append (flat_map text_of xs) rest, few text_of Fits laws xs)
