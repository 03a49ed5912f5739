-- A source over the reader of a runtime.
use Rattle.std.specs.Prelude.{ℕ, List}
use Rattle.std.specs.declared.option.Option.{Option}

-- the bytes that are left, where the runtime's reader tells them, and the faults so far
pub record StdReads : Type 0 where
  pub left : Option (List ℕ)
  pub faults : ℕ
