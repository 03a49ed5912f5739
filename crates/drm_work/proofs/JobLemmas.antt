-- What the jobs of all workers come to: each pass has served its caller's lines.
use Rattle.std.proofs.Common.{◌≡◌, ℕ, zero, suc, ◌+◌, ◌<◌, List, [], ◌∷◌, length, map, get_or, slice_get, refl, ap, sym, ◌∙◌, subst, arith, Some, Result, Ok, Err}
use Rattle.std.specs.List.{range_with_len}
use Rattle.std.proofs.lemmas.List.{length-map}
use Rattle.std.proofs.lemmas.List.FromFn.{length-range_with_len}
use Rattle.std.proofs.lemmas.Option.{slice_get_within}
use Rattle.drm_outside.specs.declared.faults.Memory.{Memory}
use Rattle.drm_talk.specs.declared.Line.{Line}
use Rattle.drm_talk.specs.declared.Reply.{Reply}
use Rattle.drm_cellmap.specs.Roadmap.{Roadmap}
use Rattle.drm_share.specs.Closing.{AreOneEach}
use Rattle.drm_share.specs.Seen.{Seen, fresh}
use Rattle.drm_work.specs.Whole.{IsJobDone, AreJobsDone, HaveServed}
use Rattle.drm_work.specs.Work.{WorksThrough}

-- the element of which the mapped one at this place comes
mapped_from : {X Y : Type 0} (f : X → Y) (xs : List X) (i : ℕ) (y : Y) → slice_get (map f xs) i ≡ Some y → (x : X) × (x ≡ get_or xs i x) × (f x ≡ y)
mapped_from f [] i y is = absurd cc
mapped_from f (x ∷ xs) zero y is = (x, refl, cc)
mapped_from f (x ∷ xs) (suc i) y is = mapped_from f xs i y is

-- the mapped element at the place of an element
mapped_at : {X Y : Type 0} (f : X → Y) (xs : List X) (i : ℕ) (x : X) → slice_get xs i ≡ Some x → slice_get (map f xs) i ≡ Some (f x)
mapped_at f [] i x is = absurd cc
mapped_at f (z ∷ xs) zero x is = let one : z ≡ x = cc in ap (λ y. Some (f y)) one
mapped_at f (z ∷ xs) (suc i) x is = mapped_at f xs i x is

-- a new pass at its place
fresh_at : (a n i : ℕ) (d : Seen) → i < n → get_or (map fresh (range_with_len a n)) i d ≡ fresh (a + i)
fresh_at a zero i d below = absurd (omega arith)
fresh_at a (suc n) zero d below = let same : a ≡ a + 0 = omega arith in ap fresh same
fresh_at a (suc n) (suc i) d below =
    let next : (a + 1) + i ≡ a + suc i = omega arith in
    fresh_at (a + 1) n i d (omega (arith, below)) ∙ ap fresh next

-- passes that are those of their callers, from this caller on
one_each_from : {J : Type 0} (pass_in : J → Seen) (jobs : List J) (a : ℕ) → ((i : ℕ) (e : J) → i < length jobs → (pass_in (get_or jobs i e)).caller ≡ a + i)
    → map (λ (seen : Seen). seen.caller) (map pass_in jobs) ≡ range_with_len a (length jobs)
one_each_from pass_in [] a callers = refl
one_each_from {J} pass_in (job ∷ jobs) a callers =
    let first : (pass_in job).caller ≡ a = let its = callers 0 job (omega arith) in omega (arith, its) in
    let rest = one_each_from pass_in jobs (a + 1) (λ i e below. let its = callers (suc i) e (omega (arith, below)) in omega (arith, its)) in
    ap (λ (c : ℕ). c ∷ map (λ (seen : Seen). seen.caller) (map pass_in jobs)) first ∙ ap (λ (cs : List ℕ). a ∷ cs) rest

-- a job's pass is still its caller's
same_caller : (roadmap : Roadmap) (lines : List Line) (before after : Seen) (told : Result (List Reply) Memory) → IsJobDone roadmap lines before after told → after.caller ≡ before.caller
same_caller roadmap lines before after (Ok replies) done = done.caller
same_caller roadmap lines before after (Err fault) done = ap (λ (seen : Seen). seen.caller) done

-- what a worker that had memory was told
abbrev good : List Reply → Result (List Reply) Memory
good mine = Ok mine

-- as many were told replies as there are jobs
as_many_told : {J : Type 0} (told_in : J → Result (List Reply) Memory) (jobs : List J) (told : List (List Reply)) → map Ok told ≡ map told_in jobs → length told ≡ length jobs
as_many_told {J} told_in jobs told is =
    let left = length-map told good in
    let right = length-map jobs told_in in
    let both = ap length is in
    omega (arith, left, right, both)

-- where all jobs have replies, each pass has served its caller's lines with them from an empty history on
pub have_served : {J : Type 0} (pass_in : J → Seen) (told_in : J → Result (List Reply) Memory) (roadmap : Roadmap) (lines : List Line) (n : ℕ) (begun : List Seen) (jobs : List J) (told : List (List Reply))
    → begun ≡ map fresh (range_with_len 0 n) → length jobs ≡ length begun → AreJobsDone pass_in told_in roadmap lines begun jobs → map Ok told ≡ map told_in jobs
    → HaveServed roadmap lines told (map pass_in jobs) × (length told ≡ n)
have_served {J} pass_in told_in roadmap lines n begun jobs told are_fresh long done are_told = (record { one_each = one_each; each = each }, as_many)
  where
    many : length begun ≡ n
    many = ap length are_fresh ∙ (length-map (range_with_len 0 n) fresh ∙ length-range_with_len 0 n)

    as_many : length told ≡ n
    as_many = as_many_told told_in jobs told are_told ∙ (long ∙ many)

    begins : (i : ℕ) (d : Seen) → i < n → get_or begun i d ≡ fresh i
    begins i d below = ap (λ (seen : List Seen). get_or seen i d) are_fresh ∙ (fresh_at 0 n i d below ∙ (let same : 0 + i ≡ i = omega arith in ap fresh same))

    callers : (i : ℕ) (e : J) → i < length jobs → (pass_in (get_or jobs i e)).caller ≡ 0 + i
    callers i e below =
        let within : i < length begun = omega (arith, below, long) in
        let same = same_caller roadmap lines (get_or begun i (fresh i)) (pass_in (get_or jobs i e)) (told_in (get_or jobs i e)) (done i (fresh i) e within) in
        same ∙ (ap (λ (seen : Seen). seen.caller) (begins i (fresh i) (omega (arith, within, many))) ∙ (let same : i ≡ 0 + i = omega arith in same))

    one_each : map (λ (seen : Seen). seen.caller) (map pass_in jobs) ≡ range_with_len 0 (length told)
    one_each = one_each_from pass_in jobs 0 callers ∙ ap (range_with_len 0) (sym (as_many_told told_in jobs told are_told))

    each : (caller : ℕ) (mine : List Reply) (pass : Seen) → slice_get told caller ≡ Some mine → slice_get (map pass_in jobs) caller ≡ Some pass → WorksThrough roadmap lines mine (fresh caller) pass
    each caller mine pass is there =
        let inside = slice_get_within told caller mine is in
        let job = mapped_from told_in jobs caller (Ok mine) (sym (ap (λ (rs : List (Result (List Reply) Memory)). slice_get rs caller) are_told) ∙ mapped_at Ok told caller mine is) in
        let its : pass_in job.0 ≡ pass = cc (mapped_at pass_in jobs caller job.0 (found jobs caller job.0 (omega (arith, inside, as_many, many, long)) job.1), there) in
        let worked = done caller (fresh caller) job.0 (omega (arith, inside, as_many, many)) in
        let at_job : IsJobDone roadmap lines (get_or begun caller (fresh caller)) (pass_in job.0) (told_in job.0) =
        subst (λ (j : J). IsJobDone roadmap lines (get_or begun caller (fresh caller)) (pass_in j) (told_in j)) (sym job.1) worked in
        let from_fresh = subst (λ (seen : Seen). IsJobDone roadmap lines seen (pass_in job.0) (told_in job.0)) (begins caller (fresh caller) (omega (arith, inside, as_many))) at_job in
        let replied = subst (λ (r : Result (List Reply) Memory). IsJobDone roadmap lines (fresh caller) (pass_in job.0) r) job.2 from_fresh in
        subst (λ (seen : Seen). WorksThrough roadmap lines mine (fresh caller) seen) its replied
      where
        found : (js : List J) (i : ℕ) (j : J) → i < length js → j ≡ get_or js i j → slice_get js i ≡ Some j
        found [] i j below at = absurd (omega arith)
        found (k ∷ js) zero j below at = ap (λ z. Some z) (sym at)
        found (k ∷ js) (suc i) j below at = found js i j (omega arith) at

-- the passes are one for each caller
pub one_each_of : (n : ℕ) (passes : List Seen) (told : List (List Reply)) → AreOneEach (length told) passes → length told ≡ n → AreOneEach n passes
one_each_of n passes told each many = subst (λ (k : ℕ). AreOneEach k passes) many each
