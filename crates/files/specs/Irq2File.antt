-- "The irq2 file: one cycle a line, decimal, 1 to 13 digits, below 2^40-1, strictly rising; its reader returns their count and doesn't
-- touch places after them."
use Rattle.std.specs.Prelude.{ℕ, zero, suc, Bool, true, cond, ◌&&◌, List, [], ◌∷◌, map, ltb, leb, length, get_or, Option, Some, None}
use Rattle.text.specs.declared.Outcome.{Outcome}
use Rattle.text.specs.Questions.{Question, accepted, first_bad}
use Rattle.text.specs.Numerals.{all_digits, value}
use Rattle.text.specs.Lines.{lines}
use Rattle.files.specs.Sizes.{cycle_limit, cycle_digits}

-- The line is a cycle: "decimal, 1 to 13 digits, below 2^40-1".
abbrev pub is_cycle : List ℕ → Bool
is_cycle l = leb 1 (length l) && leb (length l) cycle_digits && all_digits 10 l && ltb (value 10 l) cycle_limit

-- The cycle that a line is, if it is one (for the code).
abbrev pub line_cycle : List ℕ → Option ℕ
line_cycle l = cond (is_cycle l) (Some (value 10 l)) None

-- "strictly rising", of a list of cycles: each is above the one before.
unfoldable pub rises_after : ℕ → List ℕ → Bool
rises_after c [] = true
rises_after c (d ∷ ds) = ltb c d && rises_after d ds

unfoldable pub rising : List ℕ → Bool
rising [] = true
rising (c ∷ cs) = rises_after c cs

-- The same asked of one line: the cycle on the line l is above that of the line before it; i of all the lines stand before l. A good file's
-- cycles are `rising` (`irq2-rising`).
abbrev pub is_above : List (List ℕ) → ℕ → List ℕ → Bool
is_above all zero l = true
is_above all (suc i) l = ltb (value 10 (get_or all i [])) (value 10 l)

-- "a word left for this line? 10. Right digits? .. (irq2, with its limit: 11). irq2 rising? 12."
abbrev pub cycle_questions : ℕ → List (List ℕ) → ℕ → List ℕ → List Question
cycle_questions room all i l = (10, ltb i room) ∷ (11, is_cycle l) ∷ (12, is_above all i l) ∷ []

-- What the reader tells: the count of the cycles, or the first no.
unfoldable pub irq2_outcome : ℕ → List ℕ → Outcome
irq2_outcome room text = first_bad (cycle_questions room (lines text)) 0 (lines text) (accepted (length (lines text)))

-- The cycles of a good file.
abbrev pub file_cycles : List ℕ → List ℕ
file_cycles text = map (value 10) (lines text)
