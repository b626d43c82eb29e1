-- Document 02 (ii) of the C face: "A written image reads back the same, for the data memory and for the 64 KiB disk, .." Of any two calls of its
-- functions, each known by its own contract alone.
use Rattle.std.specs.Prelude.{ℕ, ◌^◌, ◌≤◌, ◌≡◌, List, length, take, eqb}
use Rattle.text.specs.Ranges.{Below}
use Rattle.files.specs.Sizes.{data_words, disk_words}
use Rattle.intel_hex.specs.Writing.{hex_text}
use Rattle.simp.specs.Files.{ReadsHex, Writes}

-- A writer of a memory m, which has so many words, returned r and wrote `count`, and the reader, which was lent so many bytes of the text and any memory
-- of the same length, returned s: both return 0, and that memory is m then.
abbrev pub FaceHexReturns : (words : ℕ) → Type 0
FaceHexReturns words =
    (m out sent into after : List ℕ) (r count s place : ℕ)
    → length m ≡ words
    → Below (2 ^ 32) m
    → length (hex_text m) ≤ length out
    → length into ≡ words
    → Writes (eqb (length m) words) (hex_text m) out r sent count
    → ReadsHex words (take count sent) into s after place
    → (r ≡ 0) × (s ≡ 0) × (after ≡ m)

pub record FaceHex : Type 0 where
  pub data_returns : FaceHexReturns data_words
  pub disk_returns : FaceHexReturns disk_words
