-- The words that the system hands to the program.
use Rattle.std.specs.Prelude.{ℕ, ◌≡◌, List, [], map, drop, Result, Ok, Err, IsErrAnd, string_bytes}
use Rattle.std.specs.declared.string.String.{String}
use Rattle.std.specs.declared.alloc.Global.{Global}
use Rattle.std.specs.declared.vec.IntoIter.{IntoIter}
use Rattle.std.specs.declared.io.Error.{Error}
use Rattle.std.specs.declared.io.ErrorKind.TheVariants.{OutOfMemory}
use Rattle.std.specs.Vec.Iter.{into_iter_items}
use Rattle.std.specs.IoError.{error_kind}

-- what the system answers, when asked for the program's arguments
abbrev pub Arguments : Type 0
Arguments = Result (IntoIter (String Global) Global) Error

-- it found no memory for them
abbrev pub LacksMemory : Arguments → Type 0
LacksMemory arguments = IsErrAnd arguments (λ error. error_kind error ≡ OutOfMemory)

-- the words behind the program's name; arguments that are no text give none
abbrev pub words_given : Arguments → List (List ℕ)
words_given (Ok arguments) = map string_bytes (drop 1 (into_iter_items arguments))
words_given (Err error) = []
