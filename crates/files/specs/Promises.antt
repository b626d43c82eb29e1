-- What the readers and writers promise: the answer, and the lent memory after the call.
use Rattle.std.specs.Prelude.{ℕ, ◌≡◌, Bool, List, length, Result}
use Rattle.text.specs.Questions.{unless_refused}
use Rattle.text.specs.Lines.{lines}
use Rattle.text.specs.Place.{put}
use Rattle.files.specs.declared.FileError.{FileError}
use Rattle.files.specs.declared.CycleError.{CycleError}
use Rattle.files.specs.declared.WriteError.{WriteError}
use Rattle.files.specs.MemoryFile.{read_outcome, write_outcome, file_words}
use Rattle.files.specs.Irq2File.{irq2_outcome, file_cycles}
use Rattle.files.specs.Answers.{file_read_outcome, cycles_read_outcome, written_outcome}

-- A text of k digits a line is read into `memory`, whose length `is_right` asks; r is answered, and the memory is `after` then.
pub record MemoryRead (k : ℕ) (is_right : ℕ → Bool) (text memory : List ℕ) (r : Result (Unit {0}) FileError) (after : List ℕ) : Type 0 where
  pub answer : file_read_outcome r ≡ read_outcome k is_right (length memory) text
  pub words : after ≡ unless_refused (read_outcome k is_right (length memory) text) (file_words (length memory) (lines text)) memory

-- The irq2 file is read into the front of `cycles`, which are `after` then.
pub record Irq2Read (text cycles : List ℕ) (r : Result ℕ CycleError) (after : List ℕ) : Type 0 where
  pub answer : cycles_read_outcome r ≡ irq2_outcome (length cycles) text
  pub places : after ≡ unless_refused (irq2_outcome (length cycles) text) (put cycles 0 (file_cycles text)) cycles

-- The text `file` of a memory, whose length (and, of the disk, whose part) `is_right` has asked, is written into the front of `out`.
pub record TextWritten (is_right : Bool) (file out : List ℕ) (r : Result ℕ WriteError) (after : List ℕ) : Type 0 where
  pub answer : written_outcome r ≡ write_outcome is_right file (length out)
  pub bytes : after ≡ unless_refused (write_outcome is_right file (length out)) (put out 0 file) out
