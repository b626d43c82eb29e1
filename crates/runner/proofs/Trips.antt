-- Calls made by the real functions: what their contracts promise is what demand 3 says of a call. Assumes nothing.
use Prim.Native.Nat.{ℕ}
use mathlib.Core.Path.{◌≡◌, refl, ◌∙◌, ap}
use mathlib.Core.Bool.{Bool, true, false}
use mathlib.Core.List.{List}
use lib.Dec.{eqb, leb}
use lib.ListN.{length, take}
use lib.Seq.{take-append_seam}
use borrow.Author.Tests.{leb-true, eqb-true}
use native.Mathlib.Omega.{arith}
use Rattle.text.specs.declared.Outcome.{Outcome}
use Rattle.text.specs.Questions.{accepted, unless_refused}
use Rattle.text.proofs.PutLaws.{put_front}
use Rattle.text.proofs.QuestionLaws.{first_yes}
use Rattle.files.specs.Sizes.{image_digits, word_digits, frame_digits, is_image_length, is_data_length, is_frame_length, is_part_length}
use Rattle.files.specs.MemoryFile.{write_outcome as file_writes, read_outcome as file_reads}
use Rattle.machine.specs.declared.Record.{Record}
use Rattle.saved.specs.Layout.{saved_bytes}
use Rattle.saved.specs.Answers.{loaded_record}
use Rattle.saved.specs.Calls.{save_outcome, save_bytes, load_outcome, load_record}
use Rattle.claim.specs.Calls.{Halves, halves, Done, Call, tripped, trip_call, call}
use Rattle.claim.specs.Demand.{Trace, done, then}
use Rattle.runner.specs.Lab.{lab, Standing, Kind, the_record, the_image, the_data, the_frame, the_sectors, Carried, place, wrote_file, read_file}
use Rattle.runner.specs.RealCalls.{TripMade, by_record, by_image, by_data, by_frame, by_sectors, trip_done, Made, ran, ran_other, trip_done_by, trip_other_by, RealCalls, end, next}

-- ---- a memory

-- A text `file` is written into `space`, which is `sent` then; where that is accepted, what was written is read into a slice, which is `after` then.
-- t and u are the outcomes.
module _ (digits : ℕ) (is_right : Bool) (is_right' : ℕ → Bool) (file space into : List ℕ) (t : Outcome) (sent : List ℕ) (u : Outcome) (after : List ℕ) where
  abbrev wrote : Outcome
  wrote = file_writes is_right file (length space)

  -- What is read is what was written.
  abbrev pub IsRead : List ℕ → Type 0
  IsRead text = (u ≡ file_reads digits is_right' (length into) text) × (after ≡ read_file (file_reads digits is_right' (length into) text) text into)

  module _ (p : t ≡ wrote) (s : sent ≡ wrote_file wrote file space) (q : t.number ≡ 0 → IsRead (take t.count sent)) where
    -- Where the writer accepts, the text is what is read.
    text-is : eqb wrote.number 0 ≡ true → take t.count sent ≡ file
    unfolding file_writes
    text-is e =
        let accepts = eqb-true wrote.number 0 e in
        let right = first_yes 1 0 is_right _ (omega arith) accepts in
        let fits = first_yes 15 0 (leb (length file) (length space)) _ (omega arith) right.1 in
        let room = leb-true (length file) (length space) fits.0 in
        let count : t.count ≡ length file = ap (λ (o : Outcome). o.count) p ∙ rw (right.0, fits.0) in
        rw (count, s, e, put_front space file room) (take-append_seam file _)

    -- .. and it is read.
    read : eqb wrote.number 0 ≡ true → IsRead file
    read e = rw (text-is e) at (q (ap (λ (o : Outcome). o.number) p ∙ eqb-true wrote.number 0 e))

    -- The trip goes by the definitions: `put_in` is what stands with words in their place, `left` what is left of the space and the slice.
    module _ (v : Standing) (put_in : List ℕ → Standing) (left : List ℕ → List ℕ → Halves lab) where
      abbrev leaves : Outcome → List ℕ → Outcome → List ℕ → Done lab
      leaves x text y words =
          unless_refused x (unless_refused y (tripped lab (accepted 0) (put_in words) (left text words)) (tripped lab y v (left text words))) (tripped lab x v (left text into))

      abbrev got : Outcome
      got = file_reads digits is_right' (length into) file

      pub goes_by : leaves t sent u after ≡ leaves wrote (wrote_file wrote file space) got (read_file got file into)
      goes_by = rw (p, s) (go (eqb wrote.number 0) refl)
        where
          go : (b : Bool) → eqb wrote.number 0 ≡ b → leaves wrote (wrote_file wrote file space) u after ≡ leaves wrote (wrote_file wrote file space) got (read_file got file into)
          go false e = rw e
          go true e = rw (e, (read e).0, (read e).1)

-- ---- the record

-- A record is saved in `bytes`, which are `sent` then, and those are read.
module _ (v : Standing) (r : Record) (bytes sent : List ℕ) (t u : Outcome) (state into : Record)
    (p : (t ≡ save_outcome r bytes) × (sent ≡ save_bytes r bytes))
    (q : t.number ≡ 0 → (u ≡ load_outcome sent) × (state ≡ load_record sent)) where
  pub record_goes : trip_done v the_record into t sent u state ≡ trip_call lab v the_record r bytes into
  unfolding trip_call
  record_goes = rw p.0 (go (eqb (save_outcome r bytes).number 0) refl)
    where
      go : (b : Bool) → eqb (save_outcome r bytes).number 0 ≡ b
          → trip_done v the_record into (save_outcome r bytes) sent u state
          ≡ trip_done v the_record into (save_outcome r bytes) (save_bytes r bytes) (load_outcome (saved_bytes r)) (load_record (saved_bytes r))
      go false e = rw (p.1, e)
      go true e =
          let is : sent ≡ saved_bytes r = p.1 ∙ rw e in
          let read = q (ap (λ (o : Outcome). o.number) p.0 ∙ eqb-true (save_outcome r bytes).number 0 e) in
          rw (e, read.0, read.1, is)

-- ---- any call

-- A trip that was made is the trip of the definitions, ..
trip-made : (v : Standing) {k : Kind} {out : Carried k} {space : List ℕ} {into : Carried k} {wrote : Outcome} {sent : List ℕ} {got : Outcome} {after : Carried k}
    → TripMade k out space into wrote sent got after → trip_done v k into wrote sent got after ≡ trip_call lab v k out space into
unfolding trip_call
trip-made v {out = out} {space = space} {into = into} {sent = sent} (by_record a l p q) = record_goes v out space sent _ _ (loaded_record l) into p q
trip-made v {space = space} {into = into} {sent = sent} {after = after} (by_image w r p q) =
    goes_by image_digits _ is_image_length _ space into _ sent _ after p.answer p.bytes (λ h. ((q h).answer, (q h).words)) v (λ l. place the_image l v) (halves the_image)
trip-made v {space = space} {into = into} {sent = sent} {after = after} (by_data w r p q) =
    goes_by word_digits _ is_data_length _ space into _ sent _ after p.answer p.bytes (λ h. ((q h).answer, (q h).words)) v (λ l. place the_data l v) (halves the_data)
trip-made v {space = space} {into = into} {sent = sent} {after = after} (by_frame w r p q) =
    goes_by frame_digits _ is_frame_length _ space into _ sent _ after p.answer p.bytes (λ h. ((q h).answer, (q h).words)) v (λ l. place the_frame l v) (halves the_frame)
trip-made v {space = space} {into = into} {sent = sent} {after = after} (by_sectors {first} {sectors} w r p q) =
    goes_by word_digits _ is_part_length _ space into _ sent _ after p.answer p.bytes (λ h. ((q h).answer, (q h).words)) v
    (λ l. place (the_sectors first sectors) l v) (halves (the_sectors first sectors))

-- .. and so is any call, ..
call-made : (irq2 : List ℕ) (w : Standing) {c : Call lab} {d : Done lab} → Made irq2 w c d → d ≡ call lab irq2 w c
call-made irq2 w (ran budget log r memory disk frame log_after e) = e
call-made irq2 w (ran_other budget log other lent refusal r memory disk frame log_after e) = e
call-made irq2 w (trip_done_by same t) = trip-made w t
call-made irq2 w (trip_other_by refusal t) = trip-made w t

-- .. and any list of them.
pub real_trace : (irq2 : List ℕ) {w : Standing} {cs : List (Call lab)} {ds : List (Done lab)} → RealCalls irq2 w cs ds → Trace lab irq2 w cs ds
real_trace irq2 end = done
real_trace irq2 {w} (next m more) = then (call-made irq2 w m) (real_trace irq2 more)
