-- The lines E and N. "Lines end in LF .. one space between fields .. The letter stands first."
use Rattle.std.specs.Prelude.{ℕ, List, [], ◌∷◌, ◌++◌}
use Rattle.text.specs.Bytes.{bytes}
use Rattle.text.specs.Numerals.{decimal}
use Rattle.text.specs.Lines.{LF}
use Rattle.trace.specs.LogLines.{field}
use Rattle.summary.specs.Milliseconds.{milliseconds}

-- "After a run, program `simlog` prints E: status, age in decimal, milliseconds"
unfoldable pub line_e : ℕ → ℕ → List ℕ
line_e status age = bytes "E" ++ field (decimal status) ++ field (decimal age) ++ field (decimal (milliseconds age)) ++ (LF ∷ [])

-- "A refused file prints only N, number, line."
unfoldable pub line_n : ℕ → ℕ → List ℕ
line_n number line = bytes "N" ++ field (decimal number) ++ field (decimal line) ++ (LF ∷ [])
