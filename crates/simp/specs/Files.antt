-- What the C face promises of memory files: the number returned, the place and the count written, and the lent memory after the call.
use Rattle.std.specs.Prelude.{ℕ, ◌≡◌, Bool, List, length}
use Rattle.text.specs.Questions.{unless_refused}
use Rattle.text.specs.Lines.{lines}
use Rattle.text.specs.Place.{put}
use Rattle.files.specs.MemoryFile.{read_outcome, write_outcome, file_words}
use Rattle.files.specs.Irq2File.{irq2_outcome, file_cycles}
use Rattle.intel_hex.specs.Reading.{hex_outcome, hex_words}

-- A reader of files with k digits a line returns r; `is_right` asks the length of the memory that it fills.
pub record Reads (k : ℕ) (is_right : ℕ → Bool) (text memory : List ℕ) (r : ℕ) (memory_after : List ℕ) (place : ℕ) : Type 0 where
  pub number : r ≡ (read_outcome k is_right (length memory) text).number
  pub line : place ≡ (read_outcome k is_right (length memory) text).place
  pub words : memory_after ≡ unless_refused (read_outcome k is_right (length memory) text) (file_words (length memory) (lines text)) memory

-- `simp_read_irq2` returns r.
pub record ReadsCycles (text cycles : List ℕ) (r : ℕ) (cycles_after : List ℕ) (count place : ℕ) : Type 0 where
  pub number : r ≡ (irq2_outcome (length cycles) text).number
  pub cycle-count : count ≡ (irq2_outcome (length cycles) text).count
  pub line : place ≡ (irq2_outcome (length cycles) text).place
  pub places : cycles_after ≡ unless_refused (irq2_outcome (length cycles) text) (put cycles 0 (file_cycles text)) cycles

-- A writer of the text `file` returns r; `is_right` is whether the memory's length (of the disk, also its part) is right.
pub record Writes (is_right : Bool) (file text : List ℕ) (r : ℕ) (text_after : List ℕ) (count : ℕ) : Type 0 where
  pub number : r ≡ (write_outcome is_right file (length text)).number
  pub byte_count : count ≡ (write_outcome is_right file (length text)).count
  pub bytes : text_after ≡ unless_refused (write_outcome is_right file (length text)) (put text 0 file) text

-- A reader of Intel HEX returns r; the memory that it fills is to have so many words.
pub record ReadsHex (size : ℕ) (text memory : List ℕ) (r : ℕ) (memory_after : List ℕ) (place : ℕ) : Type 0 where
  pub number : r ≡ (hex_outcome size (length memory) text).number
  pub line : place ≡ (hex_outcome size (length memory) text).place
  pub words : memory_after ≡ unless_refused (hex_outcome size (length memory) text) (hex_words (length memory) text) memory
