-- The fields of JSON objects: what stands under a key, and which whole number it is.
use Rattle.std.specs.Prelude.{ℕ, ◌^◌, ◌&&◌, nat_lt, nat_le, ℤ, pos, neg_ℤ, int_le, int_lt, Bool, if◌then◌else◌, List, codes, Option, Some, None, option_and_then, Result, ok_or}
use Rattle.serde_json.specs.Data.{Data}
use Rattle.serde_json.specs.Find.{get, as_number, as_u64, as_i64}
use Rattle.drm_robot.specs.declared.fault.FieldName.{FieldName}
use Rattle.drm_robot.specs.declared.fault.FieldName.TheVariants.{Links, Len, Radius, Lo, Hi, Side, Cells, Seed, Draws, Near}
use Rattle.drm_robot.specs.declared.fault.RobotFault.{RobotFault}
use Rattle.drm_robot.specs.declared.fault.RobotFault.TheVariants.{Field}

-- the key of a field
abbrev pub key_of : FieldName → List ℕ
key_of Links = codes "links"
key_of Len = codes "len"
key_of Radius = codes "radius"
key_of Lo = codes "lo"
key_of Hi = codes "hi"
key_of Side = codes "side"
key_of Cells = codes "cells"
key_of Seed = codes "seed"
key_of Draws = codes "draws"
key_of Near = codes "near"

-- the value, where it passes the test
abbrev pub where_ : {X : Type 0} → (X → Bool) → Option X → Option X
where_ passes None = None
where_ passes (Some x) = if passes x then Some x else None

-- the whole number below the limit that a JSON value is
abbrev pub below_of : ℕ → Data → Option ℕ
below_of limit value = where_ (λ n. nat_lt n limit) (option_and_then as_u64 (as_number value))

-- the whole number of 32 bits, with its sign, that a JSON value is
abbrev pub signed_of : Data → Option ℤ
signed_of value = where_ (λ z. int_le (neg_ℤ (pos (2 ^ 31))) z && int_lt z (pos (2 ^ 31))) (option_and_then as_i64 (as_number value))

-- the whole number from 1 to the greatest one that a JSON value is
abbrev pub from_one_of : ℕ → Data → Option ℕ
from_one_of most value = where_ (λ n. nat_le 1 n && nat_le n most) (option_and_then as_u64 (as_number value))

-- what the value under the field's key is, or the fault of the field where it is missing or not of its kind
abbrev pub field : {X : Type 0} → FieldName → (Data → Option X) → Data → Result X RobotFault
field name kind value = ok_or (option_and_then kind (get (key_of name) value)) (Field name)
