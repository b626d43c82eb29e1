-- Demand 2 of the C face: "Listing an image with known opcodes and assembling the text yields that image; a saved record or written memory reads back
-- the same." Of any two calls of its functions, each known by its own contract alone.
use Rattle.std.specs.Prelude.{ℕ, ◌≤◌, ◌≡◌, Bool, true, List, length, take, replicate}
use Rattle.files.specs.Sizes.{image_words, data_words}
use Rattle.files.specs.MemoryFile.{SameImage, file_text}
use Rattle.saved.specs.Layout.{record_bytes}
use Rattle.saved.specs.Sound.{is_sound}
use Rattle.lister.specs.Listing.{listing}
use Rattle.lister.specs.Calls.{KnownOpcodes}
use Rattle.roundtrip.specs.Demand2.{MemoriesReturn}
use Rattle.simp.specs.Assembly.{Assembles, Lists}
use Rattle.simp.specs.Files.{Reads, Writes}
use Rattle.simp.specs.Numbers.{record_numbers, record_of}
use Rattle.simp.specs.Records.{Saves, Loads}

-- `simp_list` returned r and wrote `count`, and `simp_assemble`, which was lent so many bytes of the text, returned s: both return 0, the image is the same
-- and the data memory is zero.
abbrev pub FaceListing : Type 0
FaceListing =
    (words out text image memory image_after memory_after : List ℕ) (r count word s line : ℕ)
    → length words ≡ image_words
    → KnownOpcodes words
    → length (listing words) ≤ length out
    → Lists words out r text count word
    → length image ≡ image_words
    → length memory ≡ data_words
    → Assembles (take count text) image memory s image_after memory_after line
    → (r ≡ 0) × (s ≡ 0) × SameImage image_after words × (memory_after ≡ replicate data_words 0)

-- `simp_save` returned r, and `simp_load`, which was lent those bytes and any 40 numbers, returned s: both return 0, and the numbers are the same.
abbrev pub FaceRecord : Type 0
FaceRecord =
    (numbers bytes sent into after : List ℕ) (r s : ℕ)
    → length numbers ≡ record_numbers
    → is_sound (record_of numbers) ≡ true
    → length bytes ≡ record_bytes
    → Saves numbers bytes r sent
    → length into ≡ record_numbers
    → Loads sent into s after
    → (r ≡ 0) × (s ≡ 0) × (after ≡ numbers)

-- A writer of the words m returned r and wrote `count`, and their reader, which was lent so many bytes of the text and any memory of the same length,
-- returned s: both return 0, and that memory is `back` then.
abbrev pub FaceReadsBack : (k : ℕ) (is_written : Bool) (is_read : ℕ → Bool) (m back : List ℕ) → Type 0
FaceReadsBack k is_written is_read m back =
    (out sent into after : List ℕ) (r count s place : ℕ)
    → length (file_text k m) ≤ length out
    → length into ≡ length m
    → Writes is_written (file_text k m) out r sent count
    → Reads k is_read (take count sent) into s after place
    → (r ≡ 0) × (s ≡ 0) × (after ≡ back)

-- DEMAND 2 of the C face.
pub record FaceDemand2 : Type 0 where
  pub listed : FaceListing
  pub saved : FaceRecord
  pub memories : MemoriesReturn FaceReadsBack
