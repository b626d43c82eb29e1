-- "The output file cycles.txt contains the number of clock cycles it took the program to run." (document 003)
use Rattle.std.specs.Prelude.{ℕ, List, [], ◌∷◌, ◌++◌}
use Rattle.text.specs.Lines.{LF}
use Rattle.text.specs.Numerals.{decimal}

unfoldable pub cycles_text : ℕ → List ℕ
cycles_text age = decimal age ++ (LF ∷ [])
