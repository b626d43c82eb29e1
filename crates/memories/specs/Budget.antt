-- A number of cycles in an argument.
use Rattle.std.specs.Prelude.{ℕ, ◌^◌, ◌≤◌, ◌<◌, ◌≡◌, cond, ◌&&◌, List, leb, length, Option, Some, None}
use Rattle.text.specs.Numerals.{all_digits, value, numeral}

-- The number of cycles that this word gives: it has 1 to 13 bytes, decimal digits all of them. Another word gives none.
unfoldable pub budget_of : List ℕ → Option ℕ
budget_of word = cond (leb 1 (length word) && leb (length word) 13 && all_digits 10 word) (Some (value 10 word)) None

-- Of an argument, whose word can't be named: the number of some word of 1 to 13 decimal digits.
pub record Budget (n : ℕ) : Type 0 where
  pub word : List ℕ
  pub some : 1 ≤ length word
  pub few : length word ≤ 13
  pub is : numeral 10 word ≡ Some n
  pub small : n < 10 ^ 13

-- A count, if there is one, is such a number.
abbrev pub BudgetRead : Option ℕ → Type 0
BudgetRead (Some n) = Budget n
BudgetRead None = Unit
