-- The nodes that a generator of random numbers draws.
use Rattle.std.specs.Prelude.{ℕ, ◌+◌, ◌*◌, ◌%◌, ℤ, pos, ◌+ℤ◌, ◌-ℤ◌, unsigned_abs, Bool, not, List, [], ◌∷◌, length, map, filter, drop}
use Rattle.std.specs.Ordering.{int_eq}
use Rattle.std.specs.List.{zip, range_with_len}
use Rattle.std.specs.Cmp.Lexicographic.{pointwise}
use Rattle.rand_core.specs.Steps.{first_words}
use Rattle.rand_core.specs.Pcg32Seed.{pcg32_seed}
use Rattle.rand_pcg.specs.Lcg.{Lcg}
use Rattle.rand_pcg.specs.Pcg.{pcg64, pcg64_of_seed}
use Rattle.drm_arm.specs.declared.arm.Link.{Link}

-- the PCG64 generator that the seed gives
unfoldable pub generator_of : ℕ → Lcg
generator_of seed = pcg64_of_seed (pcg32_seed 32 seed)

-- the coordinate that a word gives a joint: one of those within its limits
abbrev pub coordinate_of : Link → ℕ → ℤ
coordinate_of link word = link.lo +ℤ pos (word % (unsigned_abs (link.hi -ℤ link.lo) + 1))

-- the configuration that words give, one word for each link
abbrev pub configured : List Link → List ℕ → List ℤ
configured links words = map (λ pair. coordinate_of pair.0 pair.1) (zip links words)

-- draw number k, from 0: each draw takes one word of the generator for each link, whatever became of the draws before
abbrev pub draw_of : List Link → Lcg → ℕ → List ℤ
draw_of links generator k =
    configured links (drop (k * length links) (first_words pcg64 (k * length links + length links) generator))

-- the first draws, in their order
unfoldable pub draws_of : List Link → Lcg → ℕ → List (List ℤ)
draws_of links generator count = map (draw_of links generator) (range_with_len 0 count)

-- the two configurations have the same coordinates
abbrev pub is_same : List ℤ → List ℤ → Bool
is_same = pointwise int_eq

-- each configuration once, where it stands first
unfoldable pub unrepeated : List (List ℤ) → List (List ℤ)
unrepeated [] = []
unrepeated (config ∷ configs) = config ∷ filter (λ other. not (is_same config other)) (unrepeated configs)
