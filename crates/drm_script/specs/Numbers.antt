-- The number at the front of some bytes.
use Rattle.std.specs.Prelude.{ℕ, ◌==◌, ◌≤◌, nat_lt, if◌then◌else◌, List, [], ◌∷◌}
use Rattle.std.specs.Char.{digit_value}

-- the digits at the front
abbrev pub digits_ahead : List ℕ → List ℕ
digits_ahead [] = []
digits_ahead (byte ∷ bytes) = if nat_lt (digit_value byte) 10 then byte ∷ digits_ahead bytes else []

-- the bytes behind them
abbrev pub behind_digits : List ℕ → List ℕ
behind_digits [] = []
behind_digits (byte ∷ bytes) = if nat_lt (digit_value byte) 10 then behind_digits bytes else byte ∷ bytes

-- the digits at the front, with a minus sign before them if one stands there
abbrev pub signed_ahead : List ℕ → List ℕ
signed_ahead [] = []
signed_ahead (byte ∷ bytes) = if byte == 45 then 45 ∷ digits_ahead bytes else digits_ahead (byte ∷ bytes)

-- the bytes behind these
abbrev pub behind_signed : List ℕ → List ℕ
behind_signed [] = []
behind_signed (byte ∷ bytes) = if byte == 45 then behind_digits bytes else behind_digits (byte ∷ bytes)

-- no digit stands in front
abbrev pub BeginsWithNoDigit : List ℕ → Type 0
BeginsWithNoDigit [] = Unit {0}
BeginsWithNoDigit (byte ∷ bytes) = 10 ≤ digit_value byte
