-- A list that was copied to the front of an array of six places is stored there.
use Rattle.std.proofs.Common.{◌≡◌, ◌≤◌, List, ◌++◌, length, take, drop, replicate, refl}
use Rattle.std.proofs.lemmas.List.{drop-replicate}
use Rattle.std.proofs.Math.Seq.{take-append_seam}
use Rattle.drm_arm.specs.Store.{IsStored}

-- the first places of the array give the list back
pub taken : {A : Type 0} (blank : A) (xs front : List A) → front ≡ xs → take (length xs) (front ++ drop (length xs) (replicate 6 blank)) ≡ xs
taken blank xs front same = rw same (take-append_seam xs (drop (length xs) (replicate 6 blank)))

-- the array is the list, padded
pub stored : {A : Type 0} (blank : A) (xs front : List A) → front ≡ xs → length xs ≤ 6 → IsStored blank (front ++ drop (length xs) (replicate 6 blank)) (length xs)
stored {A = A} blank xs front same bounded = record {
  places = rw (taken blank xs front same) (rw (same, drop-replicate (length xs) 6 blank) refl);
  counted = rw (taken blank xs front same) refl;
  bounded = bounded;
}
