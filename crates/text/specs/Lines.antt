-- The lines of a text.
use Rattle.std.specs.Prelude.{ℕ, Bool, true, false, cond, ◌||◌, List, [], ◌∷◌, ◌++◌, eqb, ltb, length, get_or}
use Prim.Native.Char.{code}

-- The byte that ends a line.
abbrev pub LF : ℕ
LF = code "\n"

-- A byte in front of the first line; a line of its own where there is none.
abbrev pub in_front : ℕ → List (List ℕ) → List (List ℕ)
in_front c [] = (c ∷ []) ∷ []
in_front c (l ∷ ls) = (c ∷ l) ∷ ls

-- The lines of a text, without their LF. "The last LF may be missing": what follows the last LF is a line only if it has bytes.
unfoldable pub lines : List ℕ → List (List ℕ)
lines [] = []
lines (c ∷ s) = cond (eqb c LF) ([] ∷ lines s) (in_front c (lines s))

-- The bytes before the first LF, or all where there is none (for the code, which goes by places: `lines-first` ties it to `lines`).
unfoldable pub first_line : List ℕ → List ℕ
first_line [] = []
first_line (c ∷ s) = cond (eqb c LF) [] (c ∷ first_line s)

-- There is an LF among bytes (for the code).
unfoldable pub has_lf : List ℕ → Bool
has_lf [] = false
has_lf (c ∷ s) = eqb c LF || has_lf s

-- A line can end at this place: an LF stands there, or the text ends there or before (for the code: `first_ends` ties it to `first_line`).
abbrev pub ends_line : List ℕ → ℕ → Bool
ends_line s at = cond (ltb at (length s)) (eqb (get_or s at 0) LF) true

-- The text of lines: an LF after each, the last too.
unfoldable pub unlines : List (List ℕ) → List ℕ
unlines [] = []
unlines (l ∷ ls) = l ++ (LF ∷ unlines ls)
