-- Words that stand in a row.
use Rattle.std.specs.Prelude.{ℕ, suc, ◌+◌, cond, List, [], ◌∷◌, eqb, get_or, drop}

-- How many words at the front are x.
unfoldable pub in_row : ℕ → List ℕ → ℕ
in_row x [] = 0
in_row x (w ∷ ws) = cond (eqb w x) (suc (in_row x ws)) 0

-- The place after the words that follow the one at i and equal it.
abbrev pub row_end : List ℕ → ℕ → ℕ
row_end words i = i + in_row (get_or words i 0) (drop i words)
