-- What the reader promises: the answer, and the lent memory after the call.
use Rattle.std.specs.Prelude.{ℕ, ◌≡◌, List, length, Result}
use Rattle.text.specs.Questions.{unless_refused}
use Rattle.intel_hex.specs.declared.HexError.{HexError}
use Rattle.intel_hex.specs.Reading.{hex_outcome, hex_words}
use Rattle.intel_hex.specs.Answers.{hex_read_outcome}

-- A text is read into `memory`, which is to have so many words; r is answered, and the memory is `after` then.
pub record HexFileRead (size : ℕ) (text memory : List ℕ) (r : Result (Unit {0}) HexError) (after : List ℕ) : Type 0 where
  pub answer : hex_read_outcome r ≡ hex_outcome size (length memory) text
  pub words : after ≡ unless_refused (hex_outcome size (length memory) text) (hex_words (length memory) text) memory
