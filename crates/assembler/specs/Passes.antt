-- What both passes over a text know (for the code).
use Rattle.std.specs.Prelude.{ℕ, ◌<◌, ◌^◌, ◌≡◌, Option, Some, None, Result, List, length, replicate}
use Rattle.text.specs.Questions.{accepted}
use Rattle.text.specs.Ranges.{Below}
use Rattle.files.specs.Sizes.{image_words, data_words}
use Rattle.symbols.specs.Table.{entry_at}
use Rattle.labels.specs.Tables.{labels_within}
use Rattle.assembler.specs.declared.AssembleError.{AssembleError}
use Rattle.assembler.specs.Answers.{assembled_outcome}
use Rattle.assembler.specs.Questions.{text_outcome}
use Rattle.assembler.specs.Memories.{assembled_image, assembled_data}

-- What the lines of a text tell; and what they store in memories that are zero, where none is refused.
pub record Translated (source : List ℕ) (r : Result (Unit {0}) AssembleError) (words memory_words : List ℕ) : Type 0 where
  pub answer : assembled_outcome r ≡ text_outcome source
  pub code : assembled_outcome r ≡ accepted 0 → words ≡ assembled_image source
  pub stores : assembled_outcome r ≡ accepted 0 → memory_words ≡ assembled_data source
  pub high_bits : Below (2 ^ 48) words
  pub sizes : (length words ≡ image_words) × (length memory_words ≡ data_words)

-- Both passes over words and data that are zero, with a table of so many words; none where it has no room for all labels.
abbrev pub PassedWith : (room : ℕ) (source : List ℕ) → Option (Result (Unit {0}) AssembleError) → (words memory_words : List ℕ) → Type 0
PassedWith room source None words memory_words =
    (room < entry_at (labels_within (length source))) × (words ≡ replicate image_words 0) × (memory_words ≡ replicate data_words 0)
PassedWith room source (Some r) words memory_words = Translated source r words memory_words
