-- The return trips: "A written image reads back the same, for the data memory and for the 64 KiB disk, shown once over the length." In the statements w is
-- what the writer answered and `sent` the slice that it was lent, after the call; r is what the reader answered and `after` the memory that it was
-- lent, whatever it held, after the call. Assumes nothing.
use Rattle.std.specs.Prelude.{Result}
use Prim.Native.Nat.{ℕ, ◌+◌, ◌*◌, ◌%◌, ◌^◌, ◌≤◌}
use mathlib.Core.Path.{◌≡◌, refl, ◌∙◌, ap}
use mathlib.Core.List.{List}
use native.Mathlib.Omega.{arith}
use lib.ListN.{length, take}
use lib.Dec.{eqb}
use borrow.Author.Tests.{eq-eqb}
use Rattle.text.specs.Questions.{accepted}
use Rattle.text.specs.Ranges.{Below}
use Rattle.files.specs.declared.WriteError.{WriteError}
use Rattle.files.specs.Sizes.{data_words, disk_words, is_data_length, is_disk_length}
use Rattle.files.specs.Answers.{written_outcome}
use Rattle.files.specs.Promises.{TextWritten}
use Rattle.files.proofs.ReturnTrip.{writing}
use Rattle.intel_hex.specs.declared.HexError.{HexError}
use Rattle.intel_hex.specs.Writing.{hex_text}
use Rattle.intel_hex.specs.Answers.{hex_read_outcome}
use Rattle.intel_hex.specs.Promises.{HexFileRead}
use Rattle.intel_hex.proofs.PutLaws.{length-text}
use Rattle.intel_hex.proofs.ReturnTrip.{reading}

-- Over the length: any number of words that records of 16 bytes fill within 64 KiB.
pub memory_returns : (words : ℕ) → words % 4 ≡ 0 → words ≤ 16384 → (m out d : List ℕ) (w : Result ℕ WriteError) (sent : List ℕ) (r : Result (Unit {0}) HexError) (after : List ℕ)
    → length m ≡ words → Below (2 ^ 32) m → 11 * words + 12 ≤ length out → length d ≡ words
    → TextWritten (eqb (length m) words) (hex_text m) out w sent
    → HexFileRead words (take (11 * words + 12) sent) d r after
    → (written_outcome w ≡ accepted (11 * words + 12)) × (hex_read_outcome r ≡ accepted 0) × (after ≡ m)
memory_returns words fours few m out d w sent r after size below room size' p q =
    let four : length m % 4 ≡ 0 = rw size fours in
    let bytes : length (hex_text m) ≡ 11 * words + 12 = length-text m four ∙ rw size in
    let wrote = writing (hex_text m) (eqb (length m) words) out w sent (eq-eqb (length m) words size) (rw bytes room) p in
    let text : take (11 * words + 12) sent ≡ hex_text m = rw (← bytes) wrote.1 in
    let back = reading m four (omega arith) below words d r after size' size (rw text at q) in
    (wrote.0 ∙ ap accepted bytes, back.0, back.1)

pub data_returns : (memory out d : List ℕ) (w : Result ℕ WriteError) (sent : List ℕ) (r : Result (Unit {0}) HexError) (after : List ℕ)
    → length memory ≡ data_words → Below (2 ^ 32) memory → 45068 ≤ length out → length d ≡ data_words
    → TextWritten (is_data_length (length memory)) (hex_text memory) out w sent
    → HexFileRead data_words (take 45068 sent) d r after
    → (written_outcome w ≡ accepted 45068) × (hex_read_outcome r ≡ accepted 0) × (after ≡ memory)
data_returns memory out d w sent r after size below room size' p q = memory_returns data_words refl (omega arith) memory out d w sent r after size below room size' p q

pub disk_returns : (disk out d : List ℕ) (w : Result ℕ WriteError) (sent : List ℕ) (r : Result (Unit {0}) HexError) (after : List ℕ)
    → length disk ≡ disk_words → Below (2 ^ 32) disk → 180236 ≤ length out → length d ≡ disk_words
    → TextWritten (is_disk_length (length disk)) (hex_text disk) out w sent
    → HexFileRead disk_words (take 180236 sent) d r after
    → (written_outcome w ≡ accepted 180236) × (hex_read_outcome r ≡ accepted 0) × (after ≡ disk)
disk_returns disk out d w sent r after size below room size' p q = memory_returns disk_words refl (omega arith) disk out d w sent r after size below room size' p q
