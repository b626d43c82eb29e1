-- Intel HEX that the C face writes reads back. Assumes nothing.
use Prim.Native.Nat.{ℕ, ◌%◌, ◌≤◌}
use mathlib.Core.Path.{◌≡◌, refl, ◌∙◌, ap}
use native.Mathlib.Omega.{arith}
use lib.ListN.{length, take}
use lib.Dec.{eqb}
use lib.Seq.{take-append_seam}
use borrow.Author.Tests.{eq-eqb}
use Rattle.text.specs.declared.Outcome.{Outcome}
use Rattle.text.proofs.PutLaws.{put_front}
use Rattle.files.specs.Sizes.{data_words, disk_words}
use Rattle.files.proofs.ReturnTrip.{text-written}
use Rattle.intel_hex.specs.Writing.{hex_text}
use Rattle.intel_hex.proofs.ReturnTrip.{text-read, words-read}
use Rattle.face_demands.specs.FaceHex.{FaceHexReturns, FaceHex}

-- Over the length.
hex_returns : (words : ℕ) → words % 4 ≡ 0 → words ≤ 16384 → FaceHexReturns words
hex_returns words fours few m out sent into after r count s place size below room size' w p =
    let wrote = text-written (hex_text m) (eqb (length m) words) (length out) (eq-eqb (length m) words size) room in
    let counted : count ≡ length (hex_text m) = w.byte_count ∙ ap (λ (o : Outcome). o.count) wrote in
    let front : take count sent ≡ hex_text m = rw (counted, w.bytes, wrote, put_front out (hex_text m) room) (take-append_seam (hex_text m) _) in
    let q = rw front at p in
    let four : length m % 4 ≡ 0 = rw size fours in
    let read = text-read m four (omega arith) words (length into) size' size in
    let same : length into ≡ length m = rw size size' in (
      w.number ∙ ap (λ (o : Outcome). o.number) wrote,
      q.number ∙ ap (λ (o : Outcome). o.number) read,
      rw read at q.words ∙ rw same (words-read m four (omega arith) below),
    )

pub face_hex : FaceHex
face_hex = record { data_returns = hex_returns data_words refl (omega arith); disk_returns = hex_returns disk_words refl (omega arith) }
