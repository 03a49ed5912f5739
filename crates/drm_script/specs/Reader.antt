-- Reading values from words, one after another.
use Rattle.std.specs.Prelude.{ℕ, zero, suc, ℤ, pos, negsuc, ◌≡◌, ◌-◌, ◌^◌, ◌==◌, ◌&&◌, nat_lt, Bool, false, if◌then◌else◌, List, [], ◌∷◌, ◌++◌, drop, slice_index, Result, Ok, Err, decimal}
use Rattle.std.specs.Fmt.{signed_decimal}
use Rattle.std.specs.Str.{bytes_eq}
use Rattle.std.specs.Str.Parse.{digits_value}
use Rattle.drm_script.specs.Limits.{slot_limit, number_limit, wide_limit}
use Rattle.drm_script.specs.declared.words.WordFault.{WordFault}
use Rattle.drm_script.specs.declared.words.WordFault.TheVariants.{Bad, Memory}

infixl 10 ◌>>=◌
abbrev pub ◌>>=◌ : {A B F : Type 0} → Result A F → (A → Result B F) → Result B F
(Ok x) >>= f = f x
(Err e) >>= f = Err e

-- the call failed because reading fails, or for want of memory
abbrev pub Fails : {Y : Type 0} → WordFault → Result Y WordFault → Type 0
Fails Memory read = Unit {0}
Fails Bad read = read ≡ Err Bad

-- what the call returned, seen by view, is what is read
abbrev pub Gives : {X Y : Type 0} → (X → Y) → Result X WordFault → Result Y WordFault → Type 0
Gives view (Ok x) read = read ≡ Ok (view x)
Gives view (Err e) read = Fails e read

-- the word is the first of these
abbrev pub starts : List ℕ → List (List ℕ) → Bool
starts word [] = false
starts word (w ∷ ws) = bytes_eq w word

-- the value, where no word is left
abbrev pub ended : {X : Type 0} → X × List (List ℕ) → Result X WordFault
ended (x, []) = Ok x
ended (x, w ∷ ws) = Err Bad

-- a number below the limit: the word is the spelling of its value
unfoldable pub unsigned_at : ℕ → List (List ℕ) → Result (ℕ × List (List ℕ)) WordFault
unsigned_at limit [] = Err Bad
unsigned_at limit (w ∷ ws) =
    if bytes_eq (decimal (digits_value 10 w)) w && nat_lt (digits_value 10 w) limit then Ok (digits_value 10 w, ws) else Err Bad

-- the value of a word of digits, with or without a minus sign at its front
abbrev pub signed_value : List ℕ → ℤ
signed_value w = if slice_index w 0 == 45 then negsuc (digits_value 10 (drop 1 w) - 1) else pos (digits_value 10 w)

-- the number is from -2^31 to 2^31 - 1
abbrev pub fits_32 : ℤ → Bool
fits_32 (pos n) = nat_lt n (2 ^ 31)
fits_32 (negsuc n) = nat_lt n (2 ^ 31)

-- a number of 32 bits with a sign: the word is the spelling of its value
unfoldable pub signed_at : List (List ℕ) → Result (ℤ × List (List ℕ)) WordFault
signed_at [] = Err Bad
signed_at (w ∷ ws) =
    if bytes_eq (signed_decimal (signed_value w)) w && fits_32 (signed_value w) then Ok (signed_value w, ws) else Err Bad

-- what reads a value at the front of some words, and leaves the words behind it
abbrev pub Reads : Type 0 → Type 0
Reads X = List (List ℕ) → Result (X × List (List ℕ)) WordFault

-- the number of a slot; a length of a route, or a label; and any other number
abbrev pub slot_at : Reads ℕ
slot_at ws = unsigned_at slot_limit ws

abbrev pub wide_at : Reads ℕ
wide_at ws = unsigned_at wide_limit ws

abbrev pub number_at : Reads ℕ
number_at ws = unsigned_at number_limit ws

-- one value, and another behind it
abbrev pub pair_at : {X Y : Type 0} → Reads X → Reads Y → Reads (X × Y)
pair_at first second ws = do
  x ← first ws
  y ← second x.1
  Ok ((x.0, y.0), y.1)

-- what is made of one value
abbrev pub made_at : {X Y : Type 0} → Reads X → (X → Y) → Reads Y
made_at read make ws = do
  x ← read ws
  Ok (make x.0, x.1)

-- so many values, behind those that were read
abbrev pub many_at : {X : Type 0} → Reads X → ℕ → List X → Reads (List X)
many_at read zero front ws = Ok (front, ws)
many_at read (suc n) front ws = do
  x ← read ws
  many_at read n (front ++ x.0 ∷ []) x.1

-- how many values there are, which is below the limit, and then these
abbrev pub counted_at : {X : Type 0} → ℕ → Reads X → Reads (List X)
counted_at limit read ws = do
  n ← unsigned_at limit ws
  many_at read n.0 [] n.1

-- what is made of the last value of a line
abbrev pub last_of : {X Y : Type 0} → Reads X → (X → Y) → List (List ℕ) → Result Y WordFault
last_of read make ws = do
  x ← read ws
  ended (make x.0, x.1)

-- the values up to the end of a line, of which there are at most so many, behind those that were read
abbrev pub all_of : {X : Type 0} → Reads X → ℕ → List X → List (List ℕ) → Result (List X) WordFault
all_of read n front [] = Ok front
all_of read zero front (w ∷ ws) = Err Bad
all_of read (suc n) front (w ∷ ws) = do
  x ← read (w ∷ ws)
  all_of read n (front ++ x.0 ∷ []) x.1

-- what is made of one value and of the rest of a line
abbrev pub then_of : {X Y Z : Type 0} → Reads X → (List (List ℕ) → Result Y WordFault) → (X → Y → Z) → List (List ℕ) → Result Z WordFault
then_of first rest make ws = do
  x ← first ws
  y ← rest x.1
  Ok (make x.0 y)
