-- "Assembler, first bad line, in order: ..": the questions of a line.
use Rattle.std.specs.Prelude.{ℕ, Bool, true, cond, not, ◌&&◌, ◌||◌, List, [], ◌∷◌, leb, ltb, length}
use Rattle.text.specs.Questions.{Question}
use Rattle.source.specs.Bytes.{are_right_bytes}
use Rattle.source.specs.Numbers.{number, is_number}
use Rattle.source.specs.Lookup.{is_among}
use Rattle.lines.specs.Line.{form_of, is_right, has_label, has_code, has_word, label_of, operand}
use Rattle.lines.specs.Asked.{is_known, are_in_range, is_word_in_range}
use Rattle.labels.specs.Text.{code_count, labels}
use Rattle.labels.specs.Limits.{most_labels}

-- The answer to what is asked only of a line that has something: yes of any other line.
abbrev pub asked_if : Bool → Bool → Bool
asked_if has answer = cond has answer true

-- A number, or a label that is defined.
abbrev pub is_usable : List (List ℕ) → List ℕ → Bool
is_usable all t = is_number (number t) || is_among all t

-- "Instruction or label address at most 4095"
abbrev pub last_address : ℕ
last_address = 4095

-- The questions of a line of a text, which these lines stand before.
unfoldable pub line_questions : (all before : List (List ℕ)) → List ℕ → List Question
line_questions all before line =
    let f = form_of line in
    (2, are_right_bytes line)
    ∷ (3, is_right f)
    ∷ (4, asked_if (has_code f) (is_known f line))
    ∷ (5, asked_if (has_code f) (are_in_range f line) && asked_if (has_word f) (is_word_in_range line))
    ∷ (6, asked_if (has_label f) (not (is_among (labels before) (label_of line))))
    ∷ (7, asked_if (has_code f) (is_usable (labels all) (operand 4 f line) && is_usable (labels all) (operand 5 f line)))
    ∷ (8, asked_if (has_code f || has_label f) (leb (code_count before) last_address) && asked_if (has_label f) (ltb (length (labels before)) most_labels))
    ∷ []
