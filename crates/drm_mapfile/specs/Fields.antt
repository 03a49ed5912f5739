-- Reading the fields of a file from left to right, with the first fault and its place.
use Rattle.std.specs.Prelude.{◌≡◌, ℕ, zero, suc, ◌-◌, nat_lt, ℤ, Bool, if◌then◌else◌, List, [], ◌∷◌, ◌++◌, length, take, drop, Result, Ok, Err}
use Rattle.std.specs.Int.{Width, w16, byte_len, from_be_bytes, cast_signed}
use Rattle.drm_mapfile.specs.declared.fault.FileFault.{FileFault}
use Rattle.drm_mapfile.specs.declared.fault.FileFault.TheVariants.{Magic, Version, Short, Field, Excess, Memory}

infixl 10 ◌>>=◌
abbrev pub ◌>>=◌ : {A B F : Type 0} → Result A F → (A → Result B F) → Result B F
(Ok x) >>= f = f x
(Err e) >>= f = Err e

-- the call failed because reading fails, or for want of memory
abbrev pub Fails : {Y : Type 0} → FileFault → Result Y FileFault → Type 0
Fails Memory read = Unit {0}
Fails Magic read = read ≡ Err Magic
Fails (Version v) read = read ≡ Err (Version v)
Fails (Short p) read = read ≡ Err (Short p)
Fails (Field p) read = read ≡ Err (Field p)
Fails (Excess p) read = read ≡ Err (Excess p)

-- what the call returned, seen by view, is what is read
abbrev pub Gives : {X Y : Type 0} → (X → Y) → Result X FileFault → Result Y FileFault → Type 0
Gives view (Ok x) read = read ≡ Ok (view x)
Gives view (Err e) read = Fails e read

-- a field is a value and the bytes behind it; `total` is the length of the file, so what stands at these bytes stands
-- at the place total - length bytes

-- a byte
abbrev pub byte_at : ℕ → List ℕ → Result (ℕ × List ℕ) FileFault
byte_at total [] = Err (Short total)
byte_at total (byte ∷ bytes) = Ok (byte, bytes)

-- a number of several bytes, the greatest first
abbrev pub number_at : Width → ℕ → List ℕ → Result (ℕ × List ℕ) FileFault
number_at w total bytes =
    if nat_lt (length bytes) (byte_len w) then Err (Short total) else Ok (from_be_bytes w (take (byte_len w) bytes), drop (byte_len w) bytes)

-- a number of two bytes with a sign, in two's complement
abbrev pub signed_at : ℕ → List ℕ → Result (ℤ × List ℕ) FileFault
signed_at total bytes = do
  n ← number_at w16 total bytes
  Ok (cast_signed w16 n.0, n.1)

-- what was read at these bytes, where it keeps its rule
abbrev pub kept : {X : Type 0} → ℕ → List ℕ → (X → Bool) → X × List ℕ → Result (X × List ℕ) FileFault
kept total bytes keeps x = if keeps x.0 then Ok x else Err (Field (total - length bytes))

-- a field with a rule
abbrev pub byte_field : ℕ → (ℕ → Bool) → List ℕ → Result (ℕ × List ℕ) FileFault
byte_field total keeps bytes = byte_at total bytes >>= kept total bytes keeps

abbrev pub number_field : Width → ℕ → (ℕ → Bool) → List ℕ → Result (ℕ × List ℕ) FileFault
number_field w total keeps bytes = number_at w total bytes >>= kept total bytes keeps

abbrev pub signed_field : ℕ → (ℤ → Bool) → List ℕ → Result (ℤ × List ℕ) FileFault
signed_field total keeps bytes = signed_at total bytes >>= kept total bytes keeps

-- so many values, one after another; each is read knowing those before it
unfoldable pub many : {X S F : Type 0} → (List X → S → Result (X × S) F) → ℕ → List X → S → Result (List X × S) F
many read zero front s = Ok (front, s)
many read (suc n) front s = do
  x ← read front s
  many read n (front ++ x.0 ∷ []) x.1
