-- Demand 2: "Listing an image with known opcodes and assembling the text yields that image; a saved record or written memory reads back the same."
-- Each part is about any two calls that keep their contracts.
use Rattle.std.specs.Prelude.{ℕ, ◌^◌, ◌≤◌, ◌≡◌, Bool, true, Result, List, length, take, replicate}
use Rattle.text.specs.Questions.{accepted}
use Rattle.text.specs.Ranges.{Below}
use Rattle.files.specs.declared.FileError.{FileError}
use Rattle.files.specs.declared.WriteError.{WriteError}
use Rattle.files.specs.Sizes.{image_words, data_words, frame_bytes, image_digits, word_digits, frame_digits, is_image_length, is_data_length, is_frame_length, is_part_length, is_disk_part}
use Rattle.files.specs.MemoryFile.{SameImage, low48, file_text, sectors_of}
use Rattle.files.specs.Answers.{file_read_outcome, written_outcome}
use Rattle.files.specs.Promises.{MemoryRead, TextWritten}
use Rattle.machine.specs.declared.Record.{Record}
use Rattle.saved.specs.declared.SaveError.{SaveError}
use Rattle.saved.specs.declared.LoadError.{LoadError}
use Rattle.saved.specs.Layout.{record_bytes}
use Rattle.saved.specs.Sound.{is_sound}
use Rattle.saved.specs.Answers.{saved_outcome, loaded_outcome, loaded_record}
use Rattle.saved.specs.Promises.{Saving, Loading}
use Rattle.assembler.specs.declared.AssembleError.{AssembleError}
use Rattle.assembler.specs.Answers.{assembled_outcome}
use Rattle.assembler.specs.Promises.{Assembling}
use Rattle.lister.specs.declared.ListError.{ListError}
use Rattle.lister.specs.Listing.{listing}
use Rattle.lister.specs.Calls.{KnownOpcodes, listed_outcome, TextListed}

-- ---- "Listing an image with known opcodes and assembling the text yields that image"

-- An image was listed, and the bytes that were written were assembled: both calls are accepted, the image is the same and the data memory is zero.
pub record Returns (words : List ℕ) (r : Result ℕ ListError) (a : Result (Unit {0}) AssembleError) (image_after memory_after : List ℕ) : Type 0 where
  pub listed : listed_outcome r ≡ accepted (length (listing words))
  pub assembled : assembled_outcome a ≡ accepted 0
  pub same-image : SameImage image_after words
  pub zero_data : memory_after ≡ replicate data_words 0

-- It holds of every image with known opcodes, every room that the text fits, and whatever the lent memories held.
abbrev pub ListingReturns : Type 0
ListingReturns =
    (words out text image memory image_after memory_after : List ℕ) (r : Result ℕ ListError) (a : Result (Unit {0}) AssembleError)
    → length words ≡ image_words
    → KnownOpcodes words
    → length (listing words) ≤ length out
    → TextListed words out r text
    → length image ≡ image_words
    → length memory ≡ data_words
    → Assembling (take (length (listing words)) text) image memory a image_after memory_after
    → Returns words r a image_after memory_after

-- ---- "a saved record .. reads back the same"

-- A sound record is saved in as many bytes as a record has, whatever they held, and what they are then is read: both calls are accepted.
abbrev pub RecordReturns : Type 0
RecordReturns =
    (r : Record) (bytes sent : List ℕ) (a : Result (Unit {0}) SaveError) (l : Result Record LoadError)
    → is_sound r ≡ true
    → length bytes ≡ record_bytes
    → Saving r bytes a sent
    → Loading sent l
    → (saved_outcome a ≡ accepted 0) × (loaded_outcome l ≡ accepted 0) × (loaded_record l ≡ r)

-- ---- "a .. written memory reads back the same"

-- The words m are written as k digits each into a slice that has room for the text, and the bytes that were written are read into a memory of the
-- same length, whatever it held: both calls are accepted, and that memory is `back` then.
abbrev pub ReadsBack : (k : ℕ) (is_written : Bool) (is_read : ℕ → Bool) (m back : List ℕ) → Type 0
ReadsBack k is_written is_read m back =
    (out sent into after : List ℕ) (w : Result ℕ WriteError) (r : Result (Unit {0}) FileError)
    → length (file_text k m) ≤ length out
    → length into ≡ length m
    → TextWritten is_written (file_text k m) out w sent
    → MemoryRead k is_read (take (written_outcome w).count sent) into r after
    → (written_outcome w ≡ accepted (length (file_text k m))) × (file_read_outcome r ≡ accepted 0) × (after ≡ back)

-- Each memory, where `Back` says that words come back from their text. Of an image its low 48 bits do: "two images are the same .. when their low 48
-- bits are".
pub record MemoriesReturn (Back : ℕ → Bool → (ℕ → Bool) → List ℕ → List ℕ → Type 0) : Type 0 where
  pub image : (m : List ℕ) → length m ≡ image_words → Back image_digits (is_image_length (length m)) is_image_length m (low48 m)
  pub memory_words : (m : List ℕ) → length m ≡ data_words → Below (2 ^ 32) m → Back word_digits (is_data_length (length m)) is_data_length m m
  pub frame : (m : List ℕ) → length m ≡ frame_bytes → Below (2 ^ 8) m → Back frame_digits (is_frame_length (length m)) is_frame_length m m
  pub disk : (m : List ℕ) (first sectors : ℕ) → is_disk_part (length m) first sectors ≡ true → Below (2 ^ 32) m
      → Back word_digits (is_disk_part (length m) first sectors) is_part_length (sectors_of m first sectors) (sectors_of m first sectors)

-- DEMAND 2.
pub record Demand2 : Type 0 where
  pub listed : ListingReturns
  pub saved : RecordReturns
  pub memories : MemoriesReturn ReadsBack
