-- DEMAND 2 of the C face. Assumes nothing.
use Prim.Native.Nat.{ℕ, ◌%◌, ◌^◌}
use mathlib.Core.Path.{◌≡◌, ◌∙◌, ap}
use mathlib.Core.Bool.{Bool, true}
use mathlib.Core.List.{List, map}
use native.Mathlib.Omega.{arith}
use lib.ListN.{length, take}
use lib.Seq.{take-append_seam}
use borrow.Author.Tests.{eq-eqb}
use Rattle.text.specs.declared.Outcome.{Outcome}
use Rattle.text.specs.Questions.{accepted}
use Rattle.text.proofs.PutLaws.{put_front}
use Rattle.files.specs.MemoryFile.{file_text}
use Rattle.files.proofs.ReturnTrip.{text-written, text-read, all_words}
use Rattle.saved.specs.Layout.{saved_bytes}
use Rattle.saved.specs.Calls.{load_record}
use Rattle.saved.proofs.TripLaws.{save_accepts, load_accepts, load_save}
use Rattle.assembler.specs.Questions.{assemble_outcome}
use Rattle.lister.specs.Listing.{listing}
use Rattle.roundtrip.proofs.RoundTrip.{known-listed, listing-accepted, listing-same-image, listing_data}
use Rattle.roundtrip.proofs.Demand2.{memories_return}
use Rattle.simp.specs.Numbers.{record_numbers, record_of, numbers_of}
use Rattle.simp.proofs.NumberLaws.{numbers_again}
use Rattle.face_demands.specs.FaceDemand2.{FaceListing, FaceRecord, FaceReadsBack, FaceDemand2}

abbrev number : Outcome → ℕ
number o = o.number

face_listing : FaceListing
face_listing words out text image memory image_after memory_after r count word s line whole known room listed image_size data-size assembled =
    let outcome = known-listed words (length out) (omega arith) known room in
    let counted : count ≡ length (listing words) = listed.byte_count ∙ ap (λ (o : Outcome). o.count) outcome in
    let front : take count text ≡ listing words = rw (counted, listed.bytes, outcome, put_front out (listing words) room) (take-append_seam (listing words) _) in
    let p = rw front at assembled in
    let accepts : assemble_outcome (listing words) (length image) (length memory) ≡ accepted 0 = rw (image_size, data-size) (listing-accepted words (omega arith) known) in (
      listed.number ∙ ap number outcome,
      p.number ∙ ap number accepts,
      rw (rw accepts at p.words) (listing-same-image words whole known),
      rw accepts at p.memory_words ∙ listing_data words known,
    )

face_record : FaceRecord
face_record numbers bytes sent into after r s size sound room saves size' loads =
    let kept = save_accepts (record_of numbers) sound bytes room in
    let right = eq-eqb (length numbers) record_numbers size in
    let right' = eq-eqb (length into) record_numbers size' in
    let is : sent ≡ saved_bytes (record_of numbers) = saves.bytes_are ∙ rw (right, kept.0) in
    let p = rw is at loads in
    let back : after ≡ numbers_of (load_record (saved_bytes (record_of numbers))) = p.record_is ∙ rw right' in (
      saves.number ∙ rw right (ap number kept.0),
      p.number ∙ rw right' (ap number (load_accepts (record_of numbers) sound)),
      back ∙ ap numbers_of (load_save (record_of numbers) sound) ∙ numbers_again numbers size,
    )

-- Words of k digits come back as far as k digits hold them.
reads_back : (k : ℕ) (is_written : Bool) (is_read : ℕ → Bool) (m back : List ℕ) → is_written ≡ true → ((n : ℕ) → n ≡ length m → is_read n ≡ true)
    → map (λ word. word % 16 ^ k) m ≡ back → FaceReadsBack k is_written is_read m back
reads_back k is_written is_read m back right right' e out sent into after r count s place room size w p =
    let wrote = text-written (file_text k m) is_written (length out) right room in
    let counted : count ≡ length (file_text k m) = w.byte_count ∙ ap (λ (o : Outcome). o.count) wrote in
    let front : take count sent ≡ file_text k m = rw (counted, w.bytes, wrote, put_front out (file_text k m) room) (take-append_seam (file_text k m) _) in
    let q = rw front at p in
    let read = text-read k m is_read (length into) (right' (length into) size) size in
    (w.number ∙ ap number wrote, q.number ∙ ap number read, rw read at q.words ∙ all_words k m (length into) size ∙ e)

pub face_demand2 : FaceDemand2
face_demand2 = record { listed = face_listing; saved = face_record; memories = memories_return FaceReadsBack reads_back }
