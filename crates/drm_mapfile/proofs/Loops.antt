-- Loops over a count: what they have read so far and what is left are all that is to be read.
use Rattle.std.proofs.Common.{◌≡◌, ℕ, suc, ◌+◌, ◌-◌, ◌<◌, ◌≤◌, List, [], ◌∷◌, ◌++◌, Result, Ok, refl, sym, ap, ◌∙◌, arith}
use Rattle.drm_mapfile.specs.declared.fault.FileFault.{FileFault}
use Rattle.drm_mapfile.specs.declared.fault.FileFault.TheVariants.{Magic, Version, Short, Field, Excess, Memory}
use Rattle.drm_mapfile.specs.Fields.{◌>>=◌, Fails, many}

-- a read that fails makes all that goes on with it fail
pub fails_on : {Y Z : Type 0} (e : FileFault) (read : Result Y FileFault) (f : Y → Result Z FileFault) → Fails e read → Fails e (read >>= f)
fails_on Memory read f h = tt
fails_on Magic read f h = ap (λ r. r >>= f) h
fails_on (Version v) read f h = ap (λ r. r >>= f) h
fails_on (Short p) read f h = ap (λ r. r >>= f) h
fails_on (Field p) read f h = ap (λ r. r >>= f) h
fails_on (Excess p) read f h = ap (λ r. r >>= f) h

-- one more value
pub goes_on : {X S : Type 0} (read : List X → S → Result (X × S) FileFault) (count i : ℕ) (front pushed : List X) (s after : S) (x : X) (total : Result (List X × S) FileFault) → i < count → read front s ≡ Ok (x, after) → pushed ≡ front ++ x ∷ []
    → many read (count - i) front s ≡ total → many read (count - (i + 1)) pushed after ≡ total
unfolding many
goes_on read count i front pushed s after x total below is more so_far =
    let k : count - i ≡ suc (count - (i + 1)) = omega arith in
    let one : many read (count - i) front s ≡ many read (count - (i + 1)) (front ++ x ∷ []) after = rw (k, is) refl in
    rw more (sym one ∙ so_far)

-- the fault of one is the fault of all
pub ends : {X S : Type 0} (read : List X → S → Result (X × S) FileFault) (e : FileFault) (count i : ℕ) (front : List X) (s : S) (total : Result (List X × S) FileFault) → i < count → Fails e (read front s)
    → many read (count - i) front s ≡ total → Fails e total
unfolding many
ends read e count i front s total below fails so_far =
    let k : count - i ≡ suc (count - (i + 1)) = omega arith in
    let one : many read (count - i) front s ≡ (read front s >>= λ x. many read (count - (i + 1)) (front ++ x.0 ∷ []) x.1) = rw k refl in
    rw (sym so_far ∙ one) (fails_on e (read front s) (λ x. many read (count - (i + 1)) (front ++ x.0 ∷ []) x.1) fails)

pub is_done : {X S : Type 0} (read : List X → S → Result (X × S) FileFault) (count i : ℕ) (front : List X) (s : S) (total : Result (List X × S) FileFault) → count ≤ i → many read (count - i) front s ≡ total → total ≡ Ok (front, s)
unfolding many
is_done read count i front s total past so_far =
    let k : count - i ≡ 0 = omega arith in
    sym so_far ∙ rw k refl
