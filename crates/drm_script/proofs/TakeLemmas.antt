-- Numbers at the front of some bytes, and the words that they are.
use Rattle.std.proofs.Common.{◌≡◌, ◌≢◌, ℕ, ◌^◌, ◌<◌, ◌≤◌, Bool, true, false, cond, ltb, eqb, List, [], ◌∷◌, ◌++◌, length, take, drop, Ok, Err, decimal, refl, sym, ap, subst, ◌∙◌, arith, suc, zero, get_or, pos, negsuc, inl, inr, take-append-drop, lit≤, ◌*◌, ◌+◌}
use Rattle.std.specs.Fmt.{signed_decimal}
use Rattle.std.specs.Char.{digit_value}
use Rattle.std.specs.Str.Parse.{AllDigits, digits_value}
use Rattle.std.specs.Int.{w32}
use Rattle.std.specs.Int.RustNames.{FitsSigned}
use Rattle.std.proofs.lemmas.Bool.{lt-ltb, ltb-true}
use Rattle.std.proofs.lemmas.Bool.Decides.{nat_tests}
use Rattle.std.proofs.lemmas.Fmt.{decimal_nonempty}
use Rattle.std.proofs.lemmas.Str.Parse.{digit_at}
use borrow.Author.Tests.{true-eqb}
use Rattle.drm_script.specs.declared.words.WordFault.TheVariants.{Bad}
use Rattle.drm_script.specs.Words.{is_plain}
use Rattle.drm_script.specs.Left.{IsEnd, line_left, left_behind}
use Rattle.drm_script.specs.Numbers.{digits_ahead, behind_digits, signed_ahead, behind_signed, BeginsWithNoDigit}
use Rattle.drm_script.specs.Reader.{unsigned_at, signed_at}
use Rattle.drm_script.proofs.TestLemmas.{false_from_ne, both_true}
use Rattle.drm_script.proofs.NumberLemmas.{digits_of_decimal, great_value}
use Rattle.drm_script.proofs.WordLemmas.{word_ends, first_word_of}
use Rattle.drm_script.proofs.FieldLemmas.{unsigned_none, unsigned_some, signed_none, signed_some}
use lib.IntN.{ℤ}

-- ---- a spelling of a number is plain

plain_from_digits : (ds : List ℕ) → ((i : ℕ) → i < length ds → 32 < get_or ds i 0) → is_plain ds ≡ true
plain_from_digits [] h = refl
plain_from_digits (d ∷ ds) h = both_true (ltb 32 d) (is_plain ds) (lt-ltb 32 d (h 0 (omega arith))) (plain_from_digits ds (λ i inside. h (suc i) (omega arith)))

pub plain_decimal : (n : ℕ) → n < 2 ^ 64 → is_plain (decimal n) ≡ true
plain_decimal n small = plain_from_digits (decimal n) (λ i inside. omega (arith, digit_at (decimal n) i (digits_of_decimal n small) inside))

pub plain_signed : (z : ℤ) → FitsSigned w32 z → is_plain (signed_decimal z) ≡ true
plain_signed (pos n) fits = plain_decimal n (omega (arith, fits.sfits))
plain_signed (negsuc n) fits = plain_decimal (suc n) (omega (arith, fits.sfits))

-- ---- the digits at the front

not_below : (a b : ℕ) → b ≤ a → ltb a b ≡ false
not_below a b h = grind (arith, nat_tests)

pub all_digits : (bytes : List ℕ) → AllDigits 10 (digits_ahead bytes)
all_digits [] = tt
all_digits (b ∷ bs) = by_digit (ltb (digit_value b) 10) refl (all_digits bs) where
  by_digit : (digit : Bool) → ltb (digit_value b) 10 ≡ digit → AllDigits 10 (digits_ahead bs) → AllDigits 10 (cond digit (b ∷ digits_ahead bs) [])
  by_digit true is h = (ltb-true (digit_value b) 10 is, h)
  by_digit false is h = tt

pub digits_joined : (bytes : List ℕ) → bytes ≡ digits_ahead bytes ++ behind_digits bytes
digits_joined [] = refl
digits_joined (b ∷ bs) = by_digit (ltb (digit_value b) 10) (digits_joined bs) where
  by_digit : (digit : Bool) → bs ≡ digits_ahead bs ++ behind_digits bs → b ∷ bs ≡ cond digit (b ∷ digits_ahead bs) [] ++ cond digit (behind_digits bs) (b ∷ bs)
  by_digit true h = ap (λ (t : List ℕ). b ∷ t) h
  by_digit false h = refl

pub digits_alone : (ds rest : List ℕ) → AllDigits 10 ds → BeginsWithNoDigit rest → (digits_ahead (ds ++ rest) ≡ ds) × (behind_digits (ds ++ rest) ≡ rest)
digits_alone [] [] digits none = (refl, refl)
digits_alone [] (b ∷ rest) digits none = rw (not_below (digit_value b) 10 none) (refl, refl)
digits_alone (d ∷ ds) rest digits none =
    let h = digits_alone ds rest digits.1 none in
    rw (lt-ltb (digit_value d) 10 digits.0) (ap (λ (t : List ℕ). d ∷ t) h.0, h.1)

-- some bytes of the front are all of its digits
pub digits_end : (bytes : List ℕ) (i : ℕ) → AllDigits 10 (take i bytes) → BeginsWithNoDigit (drop i bytes) → (take i bytes ≡ digits_ahead bytes) × (drop i bytes ≡ behind_digits bytes)
digits_end bytes i digits none =
    let h = digits_alone (take i bytes) (drop i bytes) digits none in let whole = take-append-drop i bytes in
    (sym h.0 ∙ ap digits_ahead whole, sym h.1 ∙ ap behind_digits whole)

-- or some of its digits
ahead_more : (bytes : List ℕ) (i : ℕ) → AllDigits 10 (take i bytes) → i < length bytes → digit_value (get_or bytes i 0) < 10 → (take i (digits_ahead bytes) ≡ take i bytes) × (get_or (digits_ahead bytes) i 0 ≡ get_or bytes i 0) × (i < length (digits_ahead bytes))
ahead_more [] i digits inside digit = absurd (omega arith)
ahead_more (b ∷ bs) zero digits inside digit = rw (lt-ltb (digit_value b) 10 digit) (refl, refl, omega arith)
ahead_more (b ∷ bs) (suc i) digits inside digit =
    let h = ahead_more bs i digits.1 (omega arith) digit in
    rw (lt-ltb (digit_value b) 10 digits.0) (ap (λ (t : List ℕ). b ∷ t) h.0, h.1, omega (arith, h.2))

pub great_ahead : (bytes : List ℕ) (i n bound : ℕ) → AllDigits 10 (take i bytes) → i < length bytes → digit_value (get_or bytes i 0) < 10 → n ≡ digits_value 10 (take i bytes) → bound ≤ n * 10 + digit_value (get_or bytes i 0) → bound ≤ digits_value 10 (digits_ahead bytes)
great_ahead bytes i n bound digits inside digit is great =
    let h = ahead_more bytes i digits inside digit in
    great_value (digits_ahead bytes) i n bound h.2 (is ∙ ap (digits_value 10) (sym h.0)) (subst (λ (b : ℕ). bound ≤ n * 10 + digit_value b) (sym h.1) great)

-- ---- with a sign

pub plain_front : (bytes : List ℕ) → ((digits : List ℕ) → bytes ≡ 45 ∷ digits → ⊥) → (signed_ahead bytes ≡ digits_ahead bytes) × (behind_signed bytes ≡ behind_digits bytes)
plain_front [] other = (refl, refl)
plain_front (b ∷ bs) other = rw (false_from_ne b 45 (λ is. other bs (ap (λ (x : ℕ). x ∷ bs) is))) (refl, refl)

pub minus_front : (bytes digits : List ℕ) → bytes ≡ 45 ∷ digits → (signed_ahead bytes ≡ 45 ∷ digits_ahead digits) × (behind_signed bytes ≡ behind_digits digits)
minus_front bytes digits is = (ap signed_ahead is, ap behind_signed is)

pub no_minus_ahead : (bytes digits : List ℕ) → digits_ahead bytes ≡ 45 ∷ digits → ⊥
no_minus_ahead bytes digits is = let h = subst (AllDigits 10) is (all_digits bytes) in omega (arith, h.0)

signed_joined : (bytes : List ℕ) → bytes ≡ signed_ahead bytes ++ behind_signed bytes
signed_joined [] = refl
signed_joined (b ∷ bs) = by_minus (eqb b 45) refl where
  by_minus : (minus : Bool) → eqb b 45 ≡ minus → b ∷ bs ≡ cond minus (45 ∷ digits_ahead bs) (digits_ahead (b ∷ bs)) ++ cond minus (behind_digits bs) (behind_digits (b ∷ bs))
  by_minus true is = ap (λ (x : ℕ). x ∷ bs) (true-eqb b 45 (sym is)) ∙ ap (λ (t : List ℕ). 45 ∷ t) (digits_joined bs)
  by_minus false is = digits_joined (b ∷ bs)

signed_alone : (z : ℤ) (rest : List ℕ) → FitsSigned w32 z → BeginsWithNoDigit rest → (signed_ahead (signed_decimal z ++ rest) ≡ signed_decimal z) × (behind_signed (signed_decimal z ++ rest) ≡ rest)
signed_alone (pos n) rest fits none =
    let small : n < 2 ^ 64 = omega (arith, fits.sfits) in
    let h = digits_alone (decimal n) rest (digits_of_decimal n small) none in
    let p = plain_front (decimal n ++ rest) (λ digits is. omega (arith, ap length (sym h.0 ∙ ap digits_ahead is), decimal_nonempty n small)) in
    (p.0 ∙ h.0, p.1 ∙ h.1)
signed_alone (negsuc n) rest fits none =
    let h = digits_alone (decimal (suc n)) rest (digits_of_decimal (suc n) (omega (arith, fits.sfits))) none in
    (ap (λ (t : List ℕ). 45 ∷ t) h.0, h.1)

-- ---- numbers as words

end_no_digit : (rest : List ℕ) → IsEnd rest → BeginsWithNoDigit rest
end_no_digit [] end = tt
end_no_digit (b ∷ rest) (inl is) = subst (λ (x : ℕ). 10 ≤ digit_value x) (sym is) (lit≤ tt)
end_no_digit (b ∷ rest) (inr is) = subst (λ (x : ℕ). 10 ≤ digit_value x) (sym is) (lit≤ tt)

pub unsigned_not : (limit : ℕ) (bytes : List ℕ) → limit ≤ 2 ^ 64 → ((n : ℕ) → n < limit → digits_ahead bytes ≢ decimal n) → unsigned_at limit (line_left bytes).words ≡ Err Bad
unsigned_not limit bytes fits none =
    let f = first_word_of bytes in
    unsigned_none limit (line_left bytes).words f.word f.others f.words (λ n below is.
    let h = digits_alone (decimal n) f.rest (digits_of_decimal n (omega arith)) (end_no_digit f.rest f.end) in
    none n below (ap digits_ahead (f.text ∙ ap (λ (w : List ℕ). w ++ f.rest) is) ∙ h.0))

pub unsigned_goes_on : (limit : ℕ) (bytes rest : List ℕ) → limit ≤ 2 ^ 64 → rest ≡ behind_digits bytes → (IsEnd rest → ⊥) → unsigned_at limit (line_left bytes).words ≡ Err Bad
unsigned_goes_on limit bytes rest fits behind none =
    let f = first_word_of bytes in
    unsigned_none limit (line_left bytes).words f.word f.others f.words (λ n below is.
    let h = digits_alone (decimal n) f.rest (digits_of_decimal n (omega arith)) (end_no_digit f.rest f.end) in
    none (subst IsEnd (sym (behind ∙ ap behind_digits (f.text ∙ ap (λ (w : List ℕ). w ++ f.rest) is) ∙ h.1)) f.end))

pub unsigned_found : (limit n : ℕ) (bytes rest : List ℕ) → limit ≤ 2 ^ 64 → n < limit → digits_ahead bytes ≡ decimal n → rest ≡ behind_digits bytes → IsEnd rest → (unsigned_at limit (line_left bytes).words ≡ Ok (n, (left_behind rest).words)) × ((left_behind rest).behind ≡ (line_left bytes).behind)
unsigned_found limit n bytes rest fits below is behind end =
    let text : bytes ≡ decimal n ++ rest = digits_joined bytes ∙ ap (λ (w : List ℕ). w ++ behind_digits bytes) is ∙ ap (λ (t : List ℕ). decimal n ++ t) (sym behind) in
    let h = word_ends (decimal n) rest (plain_decimal n (omega arith)) end in
    (unsigned_some limit (line_left bytes).words (decimal n) (left_behind rest).words n fits (ap (λ (b : List ℕ). (line_left b).words) text ∙ h.0) below refl, sym (ap (λ (b : List ℕ). (line_left b).behind) text ∙ h.1))

pub signed_not : (bytes : List ℕ) → ((z : ℤ) → FitsSigned w32 z → signed_ahead bytes ≢ signed_decimal z) → signed_at (line_left bytes).words ≡ Err Bad
signed_not bytes none =
    let f = first_word_of bytes in
    signed_none (line_left bytes).words f.word f.others f.words (λ z fits is.
    let h = signed_alone z f.rest fits (end_no_digit f.rest f.end) in
    none z fits (ap signed_ahead (f.text ∙ ap (λ (w : List ℕ). w ++ f.rest) is) ∙ h.0))

pub signed_goes_on : (bytes rest : List ℕ) → rest ≡ behind_signed bytes → (IsEnd rest → ⊥) → signed_at (line_left bytes).words ≡ Err Bad
signed_goes_on bytes rest behind none =
    let f = first_word_of bytes in
    signed_none (line_left bytes).words f.word f.others f.words (λ z fits is.
    let h = signed_alone z f.rest fits (end_no_digit f.rest f.end) in
    none (subst IsEnd (sym (behind ∙ ap behind_signed (f.text ∙ ap (λ (w : List ℕ). w ++ f.rest) is) ∙ h.1)) f.end))

pub signed_found : (z : ℤ) (bytes rest : List ℕ) → FitsSigned w32 z → signed_ahead bytes ≡ signed_decimal z → rest ≡ behind_signed bytes → IsEnd rest → (signed_at (line_left bytes).words ≡ Ok (z, (left_behind rest).words)) × ((left_behind rest).behind ≡ (line_left bytes).behind)
signed_found z bytes rest fits is behind end =
    let text : bytes ≡ signed_decimal z ++ rest = signed_joined bytes ∙ ap (λ (w : List ℕ). w ++ behind_signed bytes) is ∙ ap (λ (t : List ℕ). signed_decimal z ++ t) (sym behind) in
    let h = word_ends (signed_decimal z) rest (plain_signed z fits) end in
    (signed_some (line_left bytes).words (signed_decimal z) (left_behind rest).words z (ap (λ (b : List ℕ). (line_left b).words) text ∙ h.0) fits refl, sym (ap (λ (b : List ℕ). (line_left b).behind) text ∙ h.1))
