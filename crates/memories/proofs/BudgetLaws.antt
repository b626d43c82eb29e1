-- A word's number of cycles, which is below 10^13. Assumes nothing.
use Prim.Native.Nat.{ℕ, ◌≤◌, ◌<◌}
use mathlib.Core.Path.{◌≡◌, refl}
use mathlib.Core.Bool.{Bool, true, false, cond, ◌&&◌}
use mathlib.Core.List.{List}
use native.Mathlib.Nat.{pow-le-pow_right, lt_of_lt_of_le}
use native.Mathlib.Omega.{arith}
use lib.Dec.{leb}
use Rattle.std.specs.Prelude.{Option, Some, None}
use lib.ListN.{length}
use borrow.Author.Tests.{leb-true, le-leb, lt-leb}
use Rattle.text.specs.Numerals.{all_digits, value, numeral}
use Rattle.text.proofs.Truth.{and_left, and_right}
use Rattle.text.proofs.DigitLaws.{value_lt}
use Rattle.memories.specs.Budget.{budget_of, BudgetRead}

module _ (word : List ℕ) where
  -- A word of no bytes or of too many gives none.
  pub budget_empty : length word ≡ 0 → None ≡ budget_of word
  unfolding budget_of
  budget_empty e = rw e

  pub budget_long : 13 < length word → None ≡ budget_of word
  unfolding budget_of
  budget_long h = rw (le-leb 1 (length word) (omega arith), lt-leb (length word) 13 h)

  -- Of the others the numeral decides.
  pub budget_is : 1 ≤ length word → length word ≤ 13 → numeral 10 word ≡ budget_of word
  unfolding budget_of
  budget_is some few = rw (le-leb 1 (length word) some, le-leb (length word) 13 few)

  -- The word need not be named.
  pub budget_read : {r : Option ℕ} → r ≡ budget_of word → BudgetRead r
  unfolding budget_of
  budget_read is = rw is (go (leb 1 (length word) && leb (length word) 13 && all_digits 10 word) refl)
    where
      go : (b : Bool) → (leb 1 (length word) && leb (length word) 13 && all_digits 10 word) ≡ b → BudgetRead (cond b (Some (value 10 word)) None)
      go true e =
          let form = and_left (leb 1 (length word) && leb (length word) 13) (all_digits 10 word) e in
          let good = and_right (leb 1 (length word) && leb (length word) 13) (all_digits 10 word) e in
          let some = leb-true 1 (length word) (and_left (leb 1 (length word)) (leb (length word) 13) form) in
          let few = leb-true (length word) 13 (and_right (leb 1 (length word)) (leb (length word) 13) form) in
          let below = value_lt 10 word good in
          record { word = word; some = some; few = few; is = rw good; small = lt_of_lt_of_le below (pow-le-pow_right {n = 10} (omega arith) few) }
      go false e = tt
