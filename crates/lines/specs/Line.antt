-- One line: its form and its parts.
use Rattle.std.specs.Prelude.{ℕ, ◌+◌, Bool, true, false, cond, List, [], ◌∷◌, get_or}
use Rattle.text.specs.Bytes.{bytes}
use Rattle.source.specs.Bytes.{are_right_bytes}
use Rattle.source.specs.Tokens.{texts}
use Rattle.source.specs.Names.{defined}
use Rattle.source.specs.Shapes.{parsed}
use Rattle.lines.specs.declared.Form.{Form}
use Rattle.lines.specs.declared.Form.TheVariants.{Nothing, Label, Code, Labelled, Word, Wrong}

-- "A line is an optional `label:`, an optional instruction, an optional `#` comment; or `.word address data` and a comment. Instruction: `op rd, rs, rt, rm,
-- imm1, imm2`."
abbrev pub directive : List ℕ
directive = bytes ".word"

unfoldable pub shapes : List (List ℕ)
shapes = bytes "" ∷ bytes ":" ∷ bytes "o$,$,$,$,i,i" ∷ bytes ":o$,$,$,$,i,i" ∷ bytes ".00" ∷ []

abbrev pub form_at : ℕ → Form
form_at n = get_or (Nothing ∷ Label ∷ Code ∷ Labelled ∷ Word ∷ []) n Wrong

-- The form of a line that passes question 2; else it has none.
unfoldable pub form_of : List ℕ → Form
form_of line = cond (are_right_bytes line) (form_at (parsed directive shapes line).shape) Wrong

abbrev pub is_right : Form → Bool
is_right Nothing = true
is_right Label = true
is_right Code = true
is_right Labelled = true
is_right Word = true
is_right Wrong = false

abbrev pub has_label : Form → Bool
has_label Nothing = false
has_label Label = true
has_label Code = false
has_label Labelled = true
has_label Word = false
has_label Wrong = false

abbrev pub has_code : Form → Bool
has_code Nothing = false
has_code Label = false
has_code Code = true
has_code Labelled = true
has_code Word = false
has_code Wrong = false

abbrev pub has_word : Form → Bool
has_word Nothing = false
has_word Label = false
has_word Code = false
has_word Labelled = false
has_word Word = true
has_word Wrong = false

-- ---- parts

-- Token k of a line.
abbrev pub part : ℕ → List ℕ → List ℕ
part k line = get_or (texts (parsed directive shapes line).parts) k []

-- The label that a line defines.
abbrev pub label_of : List ℕ → List ℕ
label_of line = defined (part 0 line)

-- The parts of an instruction, of a line of this form: the op, then, with commas between them, rd, rs, rt, rm, imm1 and imm2.
abbrev pub op_at : Form → ℕ
op_at f = cond (has_label f) 1 0

abbrev pub operation : Form → List ℕ → List ℕ
operation f line = part (op_at f) line

abbrev pub operand : ℕ → Form → List ℕ → List ℕ
operand k f line = part (op_at f + 1 + k + k) line
