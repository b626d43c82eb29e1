-- What the length and the first token tell of a line (for the code).
use Rattle.std.specs.Prelude.{ℕ, ◌≡◌, Bool, true, false, List}
use Rattle.lines.specs.declared.First.{First}
use Rattle.lines.specs.declared.First.TheVariants.{Whole, Instruction, Neither}
use Rattle.lines.specs.Line.{form_of, is_right, has_label, has_code}

-- Whether it defines a label, and then all of it; else, if its form is right, whether it has an instruction.
abbrev pub FirstFormed : (line : List ℕ) → First → Type 0
FirstFormed line (Whole l) = l.tokens.line.now ≡ line
FirstFormed line Instruction = (has_label (form_of line) ≡ false) × (is_right (form_of line) ≡ true → has_code (form_of line) ≡ true)
FirstFormed line Neither = (has_label (form_of line) ≡ false) × (is_right (form_of line) ≡ true → has_code (form_of line) ≡ false)

-- Whether it tells of a label, ..
abbrev pub tells_label : First → Bool
tells_label (Whole l) = has_label l.form
tells_label Instruction = false
tells_label Neither = false

-- .. and of an instruction.
abbrev pub tells_code : First → Bool
tells_code (Whole l) = has_code l.form
tells_code Instruction = true
tells_code Neither = false
