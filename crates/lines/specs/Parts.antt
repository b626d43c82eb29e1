-- Where the parts of a line stand (for the code).
use Rattle.std.specs.Prelude.{ℕ, ◌≤◌, ◌≡◌, List}
use Rattle.lines.specs.declared.Form.{Form}
use Rattle.lines.specs.declared.Form.TheVariants.{Nothing, Label, Code, Labelled, Word, Wrong}
use Rattle.lines.specs.Line.{form_of}

-- How many tokens a line of a form has.
abbrev pub part_count : Form → ℕ
part_count Nothing = 0
part_count Label = 1
part_count Code = 12
part_count Labelled = 13
part_count Word = 3
part_count Wrong = 0

-- Places for as many tokens as a line can have, and one more.
abbrev pub most_places : ℕ
most_places = 14

-- f is the form of a line, which is split into n tokens at least.
pub record Formed (line : List ℕ) (n : ℕ) (f : Form) : Type 0 where
  pub is : f ≡ form_of line
  pub parts : part_count f ≤ n
