-- A list that was copied to the front of an array of sixteen places is stored there.
use Rattle.std.proofs.Common.{◌≡◌, ◌≤◌, ℤ, pos, List, ◌++◌, length, take, drop, replicate, refl}
use Rattle.std.proofs.lemmas.List.{drop-replicate}
use Rattle.std.proofs.Math.Seq.{take-append_seam}
use Rattle.drm_shape.specs.Store.{IsStored}
use Rattle.drm_shape.specs.Corners.{IsRing}

-- the first places of the array give the list back
pub taken : (xs front : List ℤ) → front ≡ xs → take (length xs) (front ++ drop (length xs) (replicate 16 (pos 0))) ≡ xs
taken xs front same = rw same (take-append_seam xs (drop (length xs) (replicate 16 (pos 0))))

-- the array is the list, padded, and the list is a ring
pub stored : (xs front : List ℤ) → front ≡ xs → IsRing xs
    → IsStored (front ++ drop (length xs) (replicate 16 (pos 0))) (length xs) × IsRing (take (length xs) (front ++ drop (length xs) (replicate 16 (pos 0))))
stored xs front same ring = (
  record {
    places = rw (taken xs front same) (rw (same, drop-replicate (length xs) 16 (pos 0)) refl);
    counted = rw (taken xs front same) refl;
  },
  rw (taken xs front same) ring,
)
