-- Lists of cells that grow by one cell.
use Rattle.std.proofs.Common.{◌≡◌, ℕ, ◌+◌, ◌<◌, ◌≤◌, inl, inr, subst, List, [], ◌∷◌, ◌++◌, arith}
use Rattle.std.specs.List.{Contains}
use Rattle.std.proofs.lemmas.Bool.{cases_lt}
use Rattle.std.proofs.lemmas.List.Elements.{Contains-append_left, Contains-push, Contains-push_cases}
use Rattle.drm_num.proofs.Lists.{IsStrictlyIncreasing-push}
use Rattle.drm_foot.specs.Block.{AddsRun}

-- a run grows by one number
pub AddsRun-push : (old xs : List ℕ) (first cell : ℕ) → first ≤ cell → ((c : ℕ) → Contains old c → c < first) → AddsRun old xs first cell → AddsRun old (xs ++ cell ∷ []) first (cell + 1)
AddsRun-push old xs first cell ordered above run = record {
  increasing = IsStrictlyIncreasing-push xs cell run.increasing (λ c has. elim ((run.exact c).0 has) [ inl had ↦ (let b = above c had in omega arith) | inr new ↦ omega arith ]);
  exact = λ c. (
    (λ has. elim (Contains-push_cases xs cell c has) [
      | inl had ↦ elim ((run.exact c).0 had) [ inl was ↦ inl was | inr new ↦ inr (new.0, omega arith) ]
      | inr same ↦ inr (omega arith, omega arith)
    ]),
    (λ s. elim s [
      | inl was ↦ Contains-append_left xs (cell ∷ []) c ((run.exact c).1 (inl was))
      | inr new ↦ elim (cases_lt c cell) [
        | inl below ↦ Contains-append_left xs (cell ∷ []) c ((run.exact c).1 (inr (new.0, below)))
        | inr here ↦ (let same : cell ≡ c = omega arith in subst (λ (d : ℕ). Contains (xs ++ cell ∷ []) d) same (Contains-push xs cell))
      ]
    ]),
  );
}
