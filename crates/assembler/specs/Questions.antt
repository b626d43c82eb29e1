-- "Assembler, first bad line, in order: .."
use Rattle.std.specs.Prelude.{ℕ, ◌&&◌, List, [], ◌∷◌, leb, length, take}
use Rattle.text.specs.declared.Outcome.{Outcome}
use Rattle.text.specs.Questions.{accepted, first_no, first_bad}
use Rattle.text.specs.Lines.{lines}
use Rattle.files.specs.Sizes.{is_image_length, is_data_length}
use Rattle.labels.specs.Limits.{most_source}
use Rattle.statements.specs.Questions.{line_questions}

-- "first bad line": what the lines of a text tell.
unfoldable pub text_outcome : (source : List ℕ) → Outcome
text_outcome source =
    let all = lines source in
    first_bad (λ i line. line_questions all (take i all) line) 0 all (accepted 0)

-- "are the lent lengths those above (source up to 262,144 bytes ..)? 1", then the lines'.
unfoldable pub assemble_outcome : (source : List ℕ) (image memory_words : ℕ) → Outcome
assemble_outcome source image memory_words =
    first_no ((1, leb (length source) most_source && is_image_length image && is_data_length memory_words) ∷ []) 0 (text_outcome source)
