-- Sets of the configurations that were met, kept under keys of one length.
use Rattle.std.specs.Prelude.{◌≡◌, ◌-◌, ℤ, pos, Bool, not, ◌||◌, List, ◌++◌, length, replicate}
use Rattle.std.specs.declared.hash.FoldHasher.{FoldHasher}
use Rattle.std.specs.declared.hash.BuildHasherDefault.{BuildHasherDefault}
use Rattle.std.specs.HashSet.{HashSet, contains}
use Rattle.drm_road.specs.Draws.{is_same}

-- a set of keys
abbrev pub Keys : Type 0
Keys = HashSet (List ℤ) (BuildHasherDefault FoldHasher)

-- the coordinates, with zeros behind them up to six
abbrev pub key_of : List ℤ → List ℤ
key_of config = config ++ replicate (6 - length config) (pos 0)

-- after the key was added, the set has it too; it is new where the set lacked it
pub record Adds (before after : Keys) (key : List ℤ) (new : Bool) : Type 0 where
  pub tells : new ≡ not (contains is_same before key)
  pub keys : (other : List ℤ) → contains is_same after other ≡ (is_same key other || contains is_same before other)
