-- The joints of an arm at a moment, and over a piece of a motion, one by one.
use Rattle.std.proofs.Common.{◌≡◌, ℕ, zero, suc, ◌+◌, ◌<◌, ℤ, List, [], ◌∷◌, ◌++◌, length, take, drop, get_or, slice_get, Some, refl, ap, ◌∙◌, arith}
use Rattle.std.proofs.lemmas.List.{get_or-take, length-take}
use Rattle.std.proofs.lemmas.Option.{same_Some, slice_get-get_or}
use Rattle.drm_arm.specs.declared.arm.Link.{Link}
use Rattle.drm_pose.specs.Boxes.{spans_between}
use Rattle.drm_pose.specs.Moment.{Moment, joints_between}

-- as many joints as links
pub length-joints_between : (links : List Link) (from to : List ℤ) (m : Moment) → length links ≡ length from → length links ≡ length to → length (joints_between links from to m) ≡ length links
length-joints_between [] from to m h k = refl
length-joints_between (link ∷ links) [] to m h k = absurd (omega arith)
length-joints_between (link ∷ links) (a ∷ starts) [] m h k = absurd (omega arith)
length-joints_between (link ∷ links) (a ∷ starts) (b ∷ ends) m h k = omega (arith, length-joints_between links starts ends m (omega arith) (omega arith))

pub length-spans_between : (links : List Link) (from to : List ℤ) (depth index : ℕ) → length links ≡ length from → length links ≡ length to → length (spans_between links from to depth index) ≡ length links
length-spans_between [] from to depth index h k = refl
length-spans_between (link ∷ links) [] to depth index h k = absurd (omega arith)
length-spans_between (link ∷ links) (a ∷ starts) [] depth index h k = absurd (omega arith)
length-spans_between (link ∷ links) (a ∷ starts) (b ∷ ends) depth index h k = omega (arith, length-spans_between links starts ends depth index (omega arith) (omega arith))

suc_plus : (k : ℕ) → suc k + 1 ≡ suc (k + 1)
suc_plus k = omega arith

-- an element stands at the head of what is left from its place on
pub drop-at : {A : Type 0} (xs : List A) (k : ℕ) (x : A) → slice_get xs k ≡ Some x → drop k xs ≡ x ∷ drop (k + 1) xs
drop-at [] k x h = cc
drop-at (y ∷ xs) zero x h = ap (λ z. z ∷ xs) (same_Some y x h)
drop-at (y ∷ xs) (suc k) x h = rw (suc_plus k) (drop-at xs k x h)

pub take-at : {A : Type 0} (xs : List A) (k : ℕ) (x : A) → slice_get xs k ≡ Some x → take (k + 1) xs ≡ take k xs ++ x ∷ []
take-at [] k x h = cc
take-at (y ∷ xs) zero x h = ap (λ z. z ∷ []) (same_Some y x h)
take-at (y ∷ xs) (suc k) x h = rw (suc_plus k) (ap (λ zs. y ∷ zs) (take-at xs k x h))

-- an element of the front of a list
pub place_in : {A : Type 0} (xs : List A) (n : ℕ) (front : List A) (k : ℕ) (d : A) → take n xs ≡ front → k < length front → slice_get front k ≡ Some (get_or xs k d)
place_in xs n front k d same below =
    let in_take : k < length (take n xs) = omega (arith, ap length same) in
    let in_n : k < n = omega (arith, length-take n xs) in
    rw (← same) (slice_get-get_or (take n xs) k d in_take ∙ ap Some (get_or-take n xs k d in_n))

-- the element at a place of a list
pub some_at : {A : Type 0} (xs : List A) (k : ℕ) → k < length xs → (x : A) × (slice_get xs k ≡ Some x)
some_at [] k below = absurd (omega arith)
some_at (x ∷ xs) zero below = (x, refl)
some_at (x ∷ xs) (suc k) below = some_at xs k (omega arith)
