-- Increasing lists that grow at their end.
use Rattle.std.proofs.Common.{◌≡◌, ℕ, ◌+◌, ◌<◌, ◌↔◌, inl, inr, subst, List, [], ◌∷◌, ◌++◌, Bool, Some, None, arith}
use Rattle.std.specs.List.{Contains}
use Rattle.std.specs.List.Sorted.{IsStrictlyIncreasing}
use Rattle.std.proofs.lemmas.Bool.{cases_lt}
use Rattle.std.proofs.lemmas.List.Elements.{Contains-append_left, Contains-push, Contains-push_cases}
use Rattle.drm_num.proofs.Lists.{IsStrictlyIncreasing-push}
use Rattle.drm_grid.specs.CellSet.{Has, HasBetween, IsLeast, AreCells}

-- the list has, in increasing order, the cells of the set that are below `next`
pub record ListsBelow (set : List Bool) (cells : List ℕ) (next : ℕ) : Type 0 where
  pub increasing : IsStrictlyIncreasing cells
  pub exact : (cell : ℕ) → Contains cells cell ↔ ((cell < next) × Has set cell)

pub none_listed : (set : List Bool) → ListsBelow set [] 0
none_listed set = record {
  increasing = λ k h. absurd (omega arith);
  exact = λ cell. ((λ (k, below, _). absurd (omega arith)), (λ (below, _). absurd (omega arith)));
}

-- the least cell from `next` on is appended
pub one_listed : (set : List Bool) (cells : List ℕ) (next end cell : ℕ) → IsLeast (HasBetween set next end) (Some cell) → ListsBelow set cells next → ListsBelow set (cells ++ cell ∷ []) (cell + 1)
one_listed set cells next end cell least listed =
    let from = least.0.from_first in
    let before = least.0.before_end in
    record {
      increasing = IsStrictlyIncreasing-push cells cell listed.increasing (λ c has. let low = ((listed.exact c).0 has).0 in omega arith);
      exact = λ c. (
        (λ has. elim (Contains-push_cases cells cell c has) [
          | inl had ↦ (let old = (listed.exact c).0 had in let low = old.0 in (omega arith, old.1))
          | inr same ↦ (omega arith, subst (Has set) same least.0.has)
        ]),
        (λ (below, has). elim (cases_lt c next) [
          | inl low ↦ Contains-append_left cells (cell ∷ []) c ((listed.exact c).1 (low, has))
          | inr high ↦ elim (cases_lt c cell) [
            | inl between ↦ absurd (least.1 c between (record { from_first = high; before_end = omega arith; has = has }))
            | inr last ↦ (let same : cell ≡ c = omega arith in subst (λ (d : ℕ). Contains (cells ++ cell ∷ []) d) same (Contains-push cells cell))
          ]
        ]),
      );
    }

-- where no cell is left, all are listed
pub all_listed : (set : List Bool) (cells : List ℕ) (next end : ℕ) → IsLeast (HasBetween set next end) None → ((cell : ℕ) → Has set cell → cell < end) → ListsBelow set cells next → AreCells set cells
all_listed set cells next end none within listed = record {
  increasing = listed.increasing;
  exact = λ c. (
    (λ has. ((listed.exact c).0 has).1),
    (λ has. elim (cases_lt c next) [
      | inl low ↦ (listed.exact c).1 (low, has)
      | inr high ↦ absurd (none c (record { from_first = high; before_end = within c has; has = has }))
    ]),
  );
}
