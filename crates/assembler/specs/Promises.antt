-- What the assembler promises: the answer, and the lent image and data memory after the call.
use Rattle.std.specs.Prelude.{ℕ, ◌^◌, ◌≡◌, Result, List, length}
use Rattle.text.specs.Questions.{accepted, unless_refused}
use Rattle.text.specs.Ranges.{Below}
use Rattle.assembler.specs.declared.AssembleError.{AssembleError}
use Rattle.assembler.specs.Answers.{assembled_outcome}
use Rattle.assembler.specs.Questions.{assemble_outcome}
use Rattle.assembler.specs.Memories.{assembled_image, assembled_data}

-- A text is assembled into `image` and `memory`; r is answered, and they are `image_after` and `memory_after` then.
pub record Assembling (source image memory : List ℕ) (r : Result (Unit {0}) AssembleError) (image_after memory_after : List ℕ) : Type 0 where
  pub answer : assembled_outcome r ≡ assemble_outcome source (length image) (length memory)
  pub words : image_after ≡ unless_refused (assembled_outcome r) (assembled_image source) image
  pub memory_words : memory_after ≡ unless_refused (assembled_outcome r) (assembled_data source) memory
  -- "bits above 47 are not read": those of a word that the assembler writes are 0.
  pub high_bits : assembled_outcome r ≡ accepted 0 → Below (2 ^ 48) image_after
