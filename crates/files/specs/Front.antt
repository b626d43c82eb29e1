-- A memory read from a text of any length, of which a buffer holds the front.
use Rattle.std.specs.Prelude.{ℕ, ◌≡◌, Bool, List, length, take}
use Rattle.text.specs.declared.Outcome.{Outcome}
use Rattle.text.specs.Questions.{unless_refused}
use Rattle.text.specs.Lines.{lines}
use Rattle.files.specs.MemoryFile.{read_outcome, file_words}

-- A memory was read from this text of k digits a line, `is_right` asking the memory's length: t is the outcome that the definition says. The
-- memory is what the text gives then; where the text is refused, it is as before.
pub record TextRead (k : ℕ) (is_right : ℕ → Bool) (text : List ℕ) (t : Outcome) (before after : List ℕ) : Type 0 where
  pub outcome : t ≡ read_outcome k is_right (length before) text
  pub words : after ≡ unless_refused t (file_words (length before) (lines text)) before

-- The first n bytes of a buffer are the front of a text: all of it, or as much as the buffer holds.
abbrev pub IsFront : (buffer : List ℕ) (n : ℕ) (whole : List ℕ) → Type 0
IsFront buffer n whole = take n buffer ≡ take (length buffer) whole

-- A memory was read from every whole text whose front the buffer holds.
abbrev pub FrontRead : ℕ → (ℕ → Bool) → List ℕ → ℕ → Outcome → List ℕ → List ℕ → Type 0
FrontRead k is_right buffer n t before after = (whole : List ℕ) → IsFront buffer n whole → TextRead k is_right whole t before after
