-- Decimals: a word of digits with no zero too many at its front is the spelling of its value, and only of that.
use Rattle.std.proofs.Common.{◌≡◌, ℕ, ◌+◌, ◌^◌, ◌<◌, ◌≤◌, List, [], ◌∷◌, ◌++◌, length, get_or, decimal, suc, sym, ◌∙◌, ap, arith, subst, inl, inr, take, drop, zero, refl, ◌≢◌, ◌*◌, ◌-◌, Option, None, Some, MatchOption, lit≤, true, false, eqb, true≢false, take-append-drop, ap₂, ◌-ℤ◌, to_z, of_z, to_z-of_z, w64}
use Rattle.std.specs.Fmt.{signed_decimal}
use Rattle.std.specs.Int.{w32}
use Rattle.std.specs.Int.RustNames.{FitsSigned}
use Rattle.std.specs.Char.{digit_value}
use Rattle.std.specs.Str.Parse.{AllDigits, digits_value}
use Rattle.std.proofs.lemmas.Bool.{cases_eq}
use Rattle.std.proofs.lemmas.Int.Digits.{digits_value_more}
use Rattle.std.proofs.lemmas.Fmt.{decimal-digits_value, digits_decimal, digits_value-decimal, decimal_nonempty, first_decimal, decimal_digit, decimal_injective}
use Rattle.std.proofs.lemmas.Str.Parse.{IsNumeralModel, numerals_by_value, tells_digits, digits_value-take-le, digit_at}
use Rattle.std.specs.Cmp.Lexicographic.{pointwise}
use Rattle.std.proofs.lemmas.Slice.Eq.{bytes_eq-Decides}
use Rattle.std.proofs.lemmas.Int.{ints}
use lib.IntN.{ℤ, pos, negsuc}

own : IsNumeralModel (AllDigits 10) (digits_value 10)
own = numerals_by_value (AllDigits 10) tells_digits

pub digits_of_decimal : (n : ℕ) → n < 2 ^ 64 → AllDigits 10 (decimal n)
digits_of_decimal n small = digits_decimal own n small

pub value_of_decimal : (n : ℕ) → n < 2 ^ 64 → digits_value 10 (decimal n) ≡ n
value_of_decimal n small = digits_value-decimal own n small

-- the spelling of a number has no zero at its front, unless the zero is all
pub plain_decimal : (n : ℕ) → n < 2 ^ 64 → get_or (decimal n) 0 0 ≡ 48 → length (decimal n) ≡ 1
plain_decimal n small zero_first = elim (cases_eq n 0) [
  | inl is ↦ ap (λ m. length (decimal m)) is ∙ ap length (decimal_digit 0 (omega arith))
  | inr other ↦ absurd (omega (arith, first_decimal n (omega arith) small))
]

-- a word that is the spelling of a number has these three properties
pub spelled_some : (word : List ℕ) (n : ℕ) → n < 2 ^ 64 → word ≡ decimal n → 0 < length word
spelled_some word n small is = omega (arith, ap length is, decimal_nonempty n small)

pub spelled_plain : (word : List ℕ) (n : ℕ) → n < 2 ^ 64 → word ≡ decimal n → 1 < length word → get_or word 0 0 ≡ 48 → ⊥
spelled_plain word n small is long zero_first =
    let first : get_or (decimal n) 0 0 ≡ 48 = sym (ap (λ (w : List ℕ). get_or w 0 0) is) ∙ zero_first in
    omega (arith, ap length is, plain_decimal n small first)

pub spelled_digits : (word : List ℕ) (n : ℕ) → n < 2 ^ 64 → word ≡ decimal n → AllDigits 10 word
spelled_digits word n small is = subst (λ (w : List ℕ). AllDigits 10 w) (sym is) (digits_of_decimal n small)

pub spelled_value : (word : List ℕ) (n : ℕ) → n < 2 ^ 64 → word ≡ decimal n → digits_value 10 word ≡ n
spelled_value word n small is = ap (digits_value 10) is ∙ value_of_decimal n small

-- and a word with these properties is the spelling of its value
pub spelling : (word : List ℕ) (n : ℕ) → n < 2 ^ 64 → 0 < length word → (1 < length word → get_or word 0 0 ≡ 48 → ⊥) → AllDigits 10 word → n ≡ digits_value 10 word → word ≡ decimal n
spelling word n small some plain digits is =
    let one : get_or word 0 0 ≡ 48 → length word ≡ 1 = λ zero_first. elim (cases_eq (length word) 1) [
      | inl one ↦ one
      | inr other ↦ absurd (plain (omega arith) zero_first)
    ] in
    sym (ap decimal is ∙ decimal-digits_value own word digits some one (omega arith))

-- what a word means for its value
pub number_of_word : (word : List ℕ) (found : Option ℕ) → 0 < length word → (1 < length word → get_or word 0 0 ≡ 48 → ⊥) → MatchOption found (AllDigits 10 word → 2 ^ 32 ≤ digits_value 10 word) (λ n. AllDigits 10 word × (n ≡ digits_value 10 word) × (n < 2 ^ 32)) → MatchOption found ((n : ℕ) → n < 2 ^ 32 → word ≢ decimal n) (λ n. (n < 2 ^ 32) × (word ≡ decimal n))
number_of_word word None some plain great = λ n small is. omega (arith, great (spelled_digits word n (omega arith) is), spelled_value word n (omega arith) is)
number_of_word word (Some n) some plain h = (h.2, spelling word n (omega (arith, h.2)) some plain h.0 h.1)

-- the digits of a word, one by one
pub digit_below : (ds : List ℕ) (i : ℕ) → AllDigits 10 ds → i < length ds → digit_value (get_or ds i 0) < 10
digit_below [] i h inside = absurd (omega arith)
digit_below (c ∷ cs) zero h inside = h.0
digit_below (c ∷ cs) (suc i) h inside = digit_below cs i h.1 (omega arith)

-- the value of some digits of a word is no more than that of all
pub great_value : (word : List ℕ) (i n bound : ℕ) → i < length word → n ≡ digits_value 10 (take i word) → bound ≤ n * 10 + digit_value (get_or word i 0) → bound ≤ digits_value 10 word
great_value word i n bound inside is great = omega (arith, digits_value_more 10 word i inside, digits_value-take-le 10 word (i + 1) (lit≤ tt))

-- a spelling begins with a digit
pub first_digit : (n : ℕ) → n < 2 ^ 64 → 48 ≤ get_or (decimal n) 0 0
first_digit n small = omega (arith, digit_at (decimal n) 0 (digits_of_decimal n small) (decimal_nonempty n small))

-- a word with a minus sign at its front spells a number below 0, and a word without one spells none
pub below_zero : (word digits : List ℕ) (z : ℤ) → FitsSigned w32 z → word ≡ 45 ∷ digits → word ≡ signed_decimal z → (m : ℕ) × (z ≡ negsuc m) × (digits ≡ decimal (suc m))
below_zero word digits (pos n) fits minus is =
    absurd (omega (arith, first_digit n (omega (arith, fits.sfits)), ap (λ (w : List ℕ). get_or w 0 0) (sym minus ∙ is)))
below_zero word digits (negsuc m) fits minus is = (m, refl, ap (λ (w : List ℕ). drop 1 w) (sym minus ∙ is))

pub from_zero : (word : List ℕ) (z : ℤ) → ((digits : List ℕ) → word ≡ 45 ∷ digits → ⊥) → word ≡ signed_decimal z → (m : ℕ) × (z ≡ pos m) × (word ≡ decimal m)
from_zero word (pos m) plain is = (m, refl, is)
from_zero word (negsuc m) plain is = absurd (plain (decimal (suc m)) is)

pub plain_number : (word : List ℕ) (n : ℕ) (found : Option ℤ) → n < 2 ^ 32 → ((digits : List ℕ) → word ≡ 45 ∷ digits → ⊥) → word ≡ decimal n → MatchOption found (¬ (FitsSigned w32 (pos n))) (λ z. z ≡ pos n) → MatchOption found ((z : ℤ) → FitsSigned w32 z → word ≢ signed_decimal z) (λ z. word ≡ signed_decimal z)
plain_number word n None small plain spelled great = λ z fits is.
    let m = from_zero word z plain is in
    let h : FitsSigned w32 (pos m.0) = subst (λ (y : ℤ). FitsSigned w32 y) m.1 fits in
    let same : m.0 ≡ n = decimal_injective m.0 n (omega (arith, h.sfits)) (omega arith) (sym m.2 ∙ spelled) in
    great (record { sfits = omega (arith, h.sfits, same) })
plain_number word n (Some z) small plain spelled is = spelled ∙ ap signed_decimal (sym is)

-- a minus sign stands before no zero, and before no word that is no number
pub no_minus_zero : (word digits : List ℕ) → word ≡ 45 ∷ digits → digits ≡ decimal 0 → (z : ℤ) → FitsSigned w32 z → word ≡ signed_decimal z → ⊥
no_minus_zero word digits minus zero_is z fits is =
    let m = below_zero word digits z fits minus is in
    let h : FitsSigned w32 (negsuc m.0) = subst (λ (y : ℤ). FitsSigned w32 y) m.1 fits in
    omega (arith, decimal_injective (suc m.0) 0 (omega (arith, h.sfits)) (omega arith) (sym m.2 ∙ zero_is))

pub no_minus_word : (word digits : List ℕ) → word ≡ 45 ∷ digits → ((n : ℕ) → n < 2 ^ 32 → digits ≡ decimal n → ⊥) → (z : ℤ) → FitsSigned w32 z → word ≡ signed_decimal z → ⊥
no_minus_word word digits minus none z fits is =
    let m = below_zero word digits z fits minus is in
    let h : FitsSigned w32 (negsuc m.0) = subst (λ (y : ℤ). FitsSigned w32 y) m.1 fits in
    none (suc m.0) (omega (arith, h.sfits)) m.2

pub minus_number : (word digits : List ℕ) (n : ℕ) (y : ℤ) (found : Option ℤ) → 0 < n → n < 2 ^ 32 → y ≡ negsuc (n - 1) → word ≡ 45 ∷ digits → digits ≡ decimal n → MatchOption found (¬ (FitsSigned w32 y)) (λ z. z ≡ y) → MatchOption found ((z : ℤ) → FitsSigned w32 z → word ≢ signed_decimal z) (λ z. word ≡ signed_decimal z)
minus_number word digits n y None above small y_is minus spelled great = λ z fits is.
    let m = below_zero word digits z fits minus is in
    let h : FitsSigned w32 (negsuc m.0) = subst (λ (x : ℤ). FitsSigned w32 x) m.1 fits in
    let same : suc m.0 ≡ n = decimal_injective (suc m.0) n (omega (arith, h.sfits)) (omega arith) (sym m.2 ∙ spelled) in
    let e : negsuc m.0 ≡ y = ap (λ (k : ℕ). negsuc k) (omega (arith, same)) ∙ sym y_is in
    great (subst (λ (x : ℤ). FitsSigned w32 x) e h)
minus_number word digits n y (Some z) above small y_is minus spelled is =
    let e : n ≡ suc (n - 1) = omega arith in
    minus ∙ ap (λ (w : List ℕ). 45 ∷ w) (spelled ∙ ap decimal e) ∙ ap signed_decimal (sym (is ∙ y_is))

-- what the code computes of a negative number
pub negated : (n : ℕ) (f : ℤ) → 0 < n → n < 2 ^ 32 → f ≡ pos n → to_z w64 (of_z w64 (pos 0 -ℤ to_z w64 (of_z w64 f))) ≡ negsuc (n - 1)
negated n f above small is =
    let fits : FitsSigned w64 (pos n) = record { sfits = omega arith } in
    let inner : to_z w64 (of_z w64 f) ≡ pos n = ap (λ (x : ℤ). to_z w64 (of_z w64 x)) is ∙ to_z-of_z fits in
    let outer : pos 0 -ℤ to_z w64 (of_z w64 f) ≡ negsuc (n - 1) = ap (λ (x : ℤ). pos 0 -ℤ x) inner ∙ omega (arith, ints) in
    let fits_below : FitsSigned w64 (negsuc (n - 1)) = record { sfits = omega arith } in
    ap (λ (x : ℤ). to_z w64 (of_z w64 x)) outer ∙ to_z-of_z fits_below

-- a minus sign at the front
pub no_minus : (word : List ℕ) → pointwise eqb (take 1 word) (45 ∷ []) ≡ false → (digits : List ℕ) → word ≡ 45 ∷ digits → ⊥
no_minus word h digits e = true≢false (sym (ap (λ (w : List ℕ). pointwise eqb (take 1 w) (45 ∷ [])) e) ∙ h)

pub with_front : (front word rest : List ℕ) → pointwise eqb (take (length front) word) front ≡ true → rest ≡ drop (length front) word → word ≡ front ++ rest
with_front front word rest h is =
    sym (take-append-drop (length front) word) ∙ ap₂ (λ (a b : List ℕ). a ++ b) ((bytes_eq-Decides (take (length front) word) front).0 h) (sym is)
