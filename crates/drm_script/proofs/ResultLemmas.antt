-- What a `Result` that was turned into an `Option` says.
use Rattle.std.proofs.Common.{◌≡◌, Result, Ok, Err, None, MatchOption}
use Rattle.std.specs.Result.{OkIff, result_ok}

pub match_ok : {T E : Type 0} (r : Result T E) (P : Type 0) (v : T) → OkIff r P v → MatchOption (result_ok r) (¬ P) (λ x. x ≡ v)
match_ok (Ok x) P v h = h.1
match_ok (Err d) P v h = h

pub none_ok : {T E : Type 0} (r : Result T E) (P : Type 0) (v : T) → OkIff r P v → None ≡ result_ok r → ¬ P
none_ok (Ok x) P v h e = absurd cc
none_ok (Err d) P v h e = h
