-- Tests and what they say.
use Rattle.std.proofs.Common.{◌≡◌, ◌≢◌, ℕ, Bool, true, false, eqb, ◌&&◌, refl, arith}
use Rattle.std.proofs.lemmas.Bool.Decides.{nat_tests}

pub false_from_ne : (a b : ℕ) → a ≢ b → eqb a b ≡ false
false_from_ne a b differs = grind (arith, nat_tests)

pub false_from_not : (b : Bool) → (b ≡ true → ⊥) → false ≡ b
false_from_not true h = absurd (h refl)
false_from_not false h = refl

-- a test of two parts
pub both_true : (a b : Bool) → a ≡ true → b ≡ true → (a && b) ≡ true
both_true a b ha hb = rw (ha, hb) refl

pub parts_true : (a b : Bool) → (a && b) ≡ true → (a ≡ true) × (b ≡ true)
parts_true true true h = (refl, refl)
parts_true true false h = absurd cc
parts_true false b h = absurd cc
