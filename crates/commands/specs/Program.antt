-- What assembling the text of a program's file promises.
use Rattle.std.specs.Prelude.{ℕ, ◌≡◌, List, length, take}
use Rattle.text.specs.declared.Outcome.{Outcome}
use Rattle.text.specs.Questions.{unless_refused}
use Rattle.assembler.specs.Questions.{assemble_outcome}
use Rattle.assembler.specs.Memories.{assembled_image, assembled_data}
use Rattle.files.specs.Front.{IsFront}

-- This text was assembled: t is the outcome that the definition of `assembler` says. The memories are what the text gives then; where it is refused, they
-- are as before.
pub record TextAssembled (source : List ℕ) (t : Outcome) (image memory image_after memory_after : List ℕ) : Type 0 where
  pub outcome : t ≡ assemble_outcome source (length image) (length memory)
  pub words : image_after ≡ unless_refused t (assembled_image source) image
  pub memory_words : memory_after ≡ unless_refused t (assembled_data source) memory

-- So was every whole text whose front the buffer holds in its first n bytes; one that is accepted is these bytes, and no more.
pub record FrontAssembled (buffer : List ℕ) (n : ℕ) (t : Outcome) (image memory image_after memory_after : List ℕ) : Type 0 where
  pub text : (whole : List ℕ) → IsFront buffer n whole → TextAssembled whole t image memory image_after memory_after
  pub all : t.number ≡ 0 → (whole : List ℕ) → IsFront buffer n whole → take n buffer ≡ whole
