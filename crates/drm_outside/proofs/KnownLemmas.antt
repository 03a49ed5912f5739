-- Steps of bytes that are known in part: the parts that were appended or taken, one after another.
use Rattle.std.proofs.Common.{◌≡◌, ℕ, ◌+◌, ◌≤◌, List, ◌++◌, length, take, drop, Option, sym}
use Rattle.std.specs.Io.KnownBytes.{Appends}
use Rattle.std.proofs.KnownBytes.{Appends-trans}
use Rattle.std.proofs.Math.Seq.{take-add}
use Rattle.std.proofs.lemmas.List.{take-append-drop, drop-drop, take_at, length-take-le}

-- the first n bytes, and then k of the rest, are the first n + k
pub Appends-take_more : (a b c : Option (List ℕ)) (bytes : List ℕ) (n k : ℕ) → Appends a b (take n bytes) → Appends b c (take k (drop n bytes)) → Appends a c (take (n + k) bytes)
Appends-take_more a b c bytes n k p q = rw (take-add n k bytes) (Appends-trans a b c _ _ p q)

-- a buffer that begins with the first n of xs gives them back, and what is left of xs follows them
pub split-at : (xs rest : List ℕ) (n : ℕ) → n ≤ length xs → xs ≡ take n (take n xs ++ rest) ++ drop n xs
split-at xs rest n h = rw (take_at (take n xs) rest n (length-take-le n xs h)) (sym (take-append-drop n xs))

-- the same for what is left from `given` on
pub left-split : (bytes front rest : List ℕ) (given n : ℕ) → n ≤ length (drop given bytes) → front ≡ take n (drop given bytes) → drop given bytes ≡ take n (front ++ rest) ++ drop (given + n) bytes
left-split bytes front rest given n h e = rw (e, ← drop-drop n given bytes) (split-at (drop given bytes) rest n h)
