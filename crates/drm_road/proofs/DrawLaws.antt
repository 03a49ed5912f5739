-- The nodes that an arm draws are configurations of it.
use Rattle.std.proofs.Common.{◌≡◌, ℕ, suc, ◌+◌, ◌*◌, ◌%◌, ◌≤◌, ℤ, pos, ◌+ℤ◌, ◌-ℤ◌, ◌≤ℤ◌, IsTrue, List, [], ◌∷◌, length, refl, ap, arith}
use Rattle.std.proofs.lemmas.Int.{ints}
use Rattle.std.specs.Prelude.{unsigned_abs, int_le, ◌&&◌}
use Rattle.std.specs.List.{All, zip, range_with_len}
use Rattle.std.proofs.lemmas.List.Elements.{All-nil, All-cons, All-head, All-tail, All-map}
use Rattle.rand_core.specs.Steps.{first_words}
use Rattle.rand_pcg.specs.Lcg.{Lcg}
use Rattle.rand_pcg.specs.Pcg.{pcg64}
use Rattle.drm_arm.specs.declared.arm.Link.{Link}
use Rattle.drm_arm.specs.Arm.{IsArm, has_limits}
use Rattle.drm_arm.specs.Config.{IsConfig, allows}
use Rattle.drm_road.specs.Draws.{coordinate_of, configured, draw_of, draws_of, generator_of, unrepeated}
use Rattle.drm_road.specs.Words.{after_words}
use Rattle.drm_road.proofs.WordLemmas.{length-first_words, words_behind}
use Rattle.drm_road.proofs.RepeatLemmas.{All-unrepeated}

-- a number that is no greater than the span, counted from the least one, is within
within_span : (lo hi : ℤ) (r : ℕ) → lo ≤ℤ hi → r ≤ unsigned_abs (hi -ℤ lo) → IsTrue (int_le lo (lo +ℤ pos r) && int_le (lo +ℤ pos r) hi)
within_span lo hi r ordered below = grind (arith, ints)

-- the coordinate that a word gives is within the joint's limits
allowed : (link : Link) (word : ℕ) → IsTrue (has_limits link) → IsTrue (allows link (coordinate_of link word))
allowed link word limits =
    let ordered : link.lo ≤ℤ link.hi = grind (arith, ints) in
    let span = unsigned_abs (link.hi -ℤ link.lo) in
    let below : word % (span + 1) ≤ span = omega arith in
    within_span link.lo link.hi (word % (span + 1)) ordered below

-- and so are those that words give the joints
all_allowed : (links : List Link) (words : List ℕ) → All (λ link. IsTrue (has_limits link)) links → length words ≡ length links → All (λ (pair : Link × ℤ). IsTrue (allows pair.0 pair.1)) (zip links (configured links words))
all_allowed [] words limits same = All-nil (λ (pair : Link × ℤ). IsTrue (allows pair.0 pair.1))
all_allowed (link ∷ links) [] limits same = absurd (omega arith)
all_allowed (link ∷ links) (word ∷ words) limits same =
    All-cons (λ (pair : Link × ℤ). IsTrue (allows pair.0 pair.1)) (link, coordinate_of link word) (zip links (configured links words))
    (allowed link word (All-head (λ link. IsTrue (has_limits link)) link links limits))
    (all_allowed links words (All-tail (λ link. IsTrue (has_limits link)) link links limits) (omega arith))

counted : (links : List Link) (words : List ℕ) → length words ≡ length links → length links ≡ length (configured links words)
counted [] words same = refl
counted (link ∷ links) [] same = absurd (omega arith)
counted (link ∷ links) (word ∷ words) same = ap suc (counted links words (omega arith))

-- as many words as there are links give a configuration
config_of_words : (links : List Link) (words : List ℕ) → IsArm links → length words ≡ length links → IsConfig links (configured links words)
config_of_words links words arm same = record { counted = counted links words same; within = all_allowed links words arm.limits same }

-- each draw is one
draw_is_config : (links : List Link) (from : Lcg) (k : ℕ) → IsArm links → IsConfig links (draw_of links from k)
draw_is_config links from k arm =
    let at : ℕ = k * length links in
    rw (words_behind pcg64 at (length links) from)
    (config_of_words links (first_words pcg64 (length links) (after_words pcg64 at from)) arm (length-first_words pcg64 (length links) (after_words pcg64 at from)))

-- all draws are
draws_are_configs : (links : List Link) (from : Lcg) (count : ℕ) → IsArm links → All (IsConfig links) (draws_of links from count)
unfolding draws_of
draws_are_configs links from count arm =
    All-map (IsConfig links) (draw_of links from) (range_with_len 0 count) (λ i d below. draw_is_config links from _ arm)

pub drawn_are_configs : (links : List Link) (seed draws : ℕ) → IsArm links → All (IsConfig links) (unrepeated (draws_of links (generator_of seed) draws))
drawn_are_configs links seed draws arm =
    All-unrepeated (IsConfig links) (draws_of links (generator_of seed) draws) (draws_are_configs links (generator_of seed) draws arm)
