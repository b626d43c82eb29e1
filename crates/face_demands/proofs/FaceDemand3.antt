-- DEMAND 3 of the C face: what the contracts of its calls promise is what demand 3 says of a call. Assumes nothing.
use Prim.Native.Nat.{ℕ, ◌^◌}
use mathlib.Core.Path.{◌≡◌, refl, sym, ◌∙◌, ap, subst}
use mathlib.Core.Bool.{Bool, true, false}
use mathlib.Core.List.{List, [], ◌∷◌}
use lib.Dec.{eqb, leb}
use lib.ListN.{length, get_or, replicate}
use borrow.Author.Tests.{eqb-true, eqb-false, eq-eqb, ne_eqb}
use Rattle.text.specs.declared.Outcome.{Outcome}
use Rattle.text.specs.Questions.{accepted, refused}
use Rattle.text.specs.Lines.{lines}
use Rattle.text.specs.Ranges.{Below}
use Rattle.text.proofs.Truth.{either}
use Rattle.text.proofs.QuestionLaws.{outcome, outcome-is, placeless, uncounted, lines_uncounted, by_number}
use Rattle.files.specs.Sizes.{image_words, data_words, disk_words, frame_bytes, image_digits, word_digits, frame_digits, is_image_length, is_data_length, is_frame_length, is_part_length}
use Rattle.files.specs.MemoryFile.{word_questions, lines_outcome}
use Rattle.files.specs.MemoryFile.{write_outcome as file_writes, read_outcome as file_reads}
use Rattle.saved.specs.Sound.{is_sound}
use Rattle.saved.specs.Calls.{save_questions, save_outcome, save_bytes, load_questions, load_outcome, load_record}
use Rattle.saved.proofs.SoundTest.{sound_test}
use Rattle.saved.proofs.TripLaws.{load_sound}
use Rattle.claim.specs.Calls.{none, halves, Call, run, Done, run_outcome, run_call, trip_call, call, standing}
use Rattle.claim.specs.Demand.{Demand3, Trace, done, then}
use Rattle.runner.specs.Lab.{lab, Standing, Fresh, record_in, run_questions, Kind, the_image, the_data, the_frame, the_sectors, Carried, place}
use Rattle.runner.specs.RealCalls.{trip_done}
use Rattle.runner.proofs.LabLaws.{Good, good-fresh, good-after}
use Rattle.runner.proofs.Trips.{IsRead, goes_by, record_goes}
use Rattle.runner.proofs.Demand3.{demand3_met, fresh_any}
use Rattle.simp.specs.Numbers.{record_numbers, record_of}
use Rattle.simp.specs.Files.{Reads, Writes}
use Rattle.simp.specs.Records.{Saves, Loads}
use Rattle.simp.specs.Runs.{report_numbers, report_of, simp_run, Runs}
use Rattle.face_demands.specs.FaceCalls.{Held, standing_in, face_ran, FaceRun, FaceTrip, by_record, by_image, by_data, by_frame, by_sectors, FaceMade, trip_by, trip_other_by, FaceCalls, end, next}
use Rattle.face_demands.specs.FaceCalls as Face
use Rattle.simp.proofs.NumberLaws.{sound_again}

-- ---- readers have no count, and writers no place

read_uncounted : (k : ℕ) (is_right : ℕ → Bool) (n : ℕ) (text : List ℕ) → (file_reads k is_right n text).count ≡ 0
unfolding file_reads lines_outcome
read_uncounted k is_right n text = uncounted ((1, is_right n) ∷ []) 0 _ (lines_uncounted (word_questions k n) 0 (lines text) (accepted 0) refl)

write_placeless : (is_right : Bool) (file : List ℕ) (room : ℕ) → (file_writes is_right file room).place ≡ 0
unfolding file_writes
write_placeless is_right file room = placeless ((1, is_right) ∷ (15, leb (length file) room) ∷ []) (length file)

-- ---- trips

module _ (is_right : Bool) (file space : List ℕ) {r count : ℕ} {sent : List ℕ} (w : Writes is_right file space r sent count) where
  written-outcome : outcome r 0 count ≡ file_writes is_right file (length space)
  written-outcome = outcome-is (file_writes is_right file (length space)) w.number (sym (write_placeless is_right file (length space))) w.byte_count

is_read_lem : {k : ℕ} {is_right : ℕ → Bool} {text into : List ℕ} {s place : ℕ} {after : List ℕ} → (file space : List ℕ) → Reads k is_right text into s after place
    → IsRead k true is_right file space into (outcome 0 0 0) [] (refused s place) after text
is_read_lem {k} {is_right} {text} {into} file space r =
    (outcome-is (file_reads k is_right (length into) text) r.number r.line (sym (read_uncounted k is_right (length into) text)), r.words)

-- A record that is read is that of the numbers which are written for it.
numbers-read : (bytes into after : List ℕ) {s : ℕ} → length into ≡ record_numbers → Loads bytes into s after → (refused s 0 ≡ load_outcome bytes) × (record_of after ≡ load_record bytes)
numbers-read bytes into after size l =
    let right = eq-eqb (length into) record_numbers size in
    let sound = sound_test (load_record bytes) (load_sound (load_record bytes) bytes refl) in (
      by_number (load_questions bytes) (l.number ∙ rw right),
      ap record_of (l.record_is ∙ rw right) ∙ sound_again (load_record bytes) sound,
    )

numbers-saved : (numbers bytes sent : List ℕ) {r : ℕ} → length numbers ≡ record_numbers → Saves numbers bytes r sent
    → (refused r 0 ≡ save_outcome (record_of numbers) bytes) × (sent ≡ save_bytes (record_of numbers) bytes)
numbers-saved numbers bytes sent size s =
    let right = eq-eqb (length numbers) record_numbers size in
    (by_number (save_questions (record_of numbers) bytes) (s.number ∙ rw right), s.bytes_are ∙ rw right)

trip-made : (v : Standing) {k : Kind} {out : Carried k} {space : List ℕ} {into : Carried k} {wrote : Outcome} {sent : List ℕ} {got : Outcome} {after : Carried k}
    → FaceTrip k out space into wrote sent got after → trip_done v k into wrote sent got after ≡ trip_call lab v k out space into
unfolding trip_call
trip-made v (by_record {numbers} {space} {sent} {into} {after} size size' s l) =
    record_goes v (record_of numbers) space sent _ _ (record_of after) (record_of into) (numbers-saved numbers space sent size s) (λ h. numbers-read sent into after size' (l h))
trip-made v (by_image {out} {space} {sent} {into} {after} w r) =
    goes_by image_digits _ is_image_length _ space into _ sent _ after (written-outcome _ _ space w) w.bytes (λ h. is_read_lem [] [] (r h)) v (λ l. place the_image l v) (halves the_image)
trip-made v (by_data {out} {space} {sent} {into} {after} w r) =
    goes_by word_digits _ is_data_length _ space into _ sent _ after (written-outcome _ _ space w) w.bytes (λ h. is_read_lem [] [] (r h)) v (λ l. place the_data l v) (halves the_data)
trip-made v (by_frame {out} {space} {sent} {into} {after} w r) =
    goes_by frame_digits _ is_frame_length _ space into _ sent _ after (written-outcome _ _ space w) w.bytes (λ h. is_read_lem [] [] (r h)) v (λ l. place the_frame l v) (halves the_frame)
trip-made v (by_sectors {first} {sectors} {out} {space} {sent} {into} {after} w r) =
    goes_by word_digits _ is_part_length _ space into _ sent _ after (written-outcome _ _ space w) w.bytes (λ h. is_read_lem [] [] (r h)) v
    (λ l. place (the_sectors first sectors) l v) (halves (the_sectors first sectors))

-- ---- runs

module _ (irq2 : List ℕ) (w : Standing) (budget : ℕ) (log : List ℕ) where
  abbrev made : Done lab
  made = run_call lab budget log irq2 w

  -- What a run keeps, whether it is refused or not: the image; it makes no trip, and its outcome has no place and no count.
  abbrev Keeps : Done lab → Type 0
  Keeps d = (d.lent.image ≡ w.image) × (d.trip-left ≡ none) × (refused d.outcome.number 0 ≡ d.outcome)

  run-keeps : Keeps made
  unfolding run_call
  run-keeps = either Keeps (eqb (run_outcome lab irq2 w).number 0) (refl, refl, refl) (refl, refl, by_number (run_questions irq2 w) refl)

  -- A refused run hands the record back.
  abbrev HandsBack : Done lab → Type 0
  HandsBack d = (d.outcome.number ≡ 0 → ⊥) → record_in d.lent.state ≡ record_in w.state

  run-refused : HandsBack made
  unfolding run_call
  run-refused = either HandsBack (eqb (run_outcome lab irq2 w).number 0) (λ some. absurd (some refl)) (λ some. refl)

-- The run of what a caller holds; where it is accepted, the record that it leaves has to be sound.
face_run : (irq2 : List ℕ) (h : Held) (budget : ℕ) (log : List ℕ) (after : Held) (r cycles bytes reason : ℕ) (log_after : List ℕ)
    → FaceRun irq2 h budget log after r cycles bytes reason log_after
    → ((run_call lab budget log irq2 (standing_in h)).outcome.number ≡ 0 → is_sound (record_in (run_call lab budget log irq2 (standing_in h)).lent.state) ≡ true)
    → face_ran after r cycles bytes reason log_after ≡ run_call lab budget log irq2 (standing_in h)
face_run irq2 h budget log after r cycles bytes reason log_after f sound = whole
  where
    d : Done lab
    d = run_call lab budget log irq2 (standing_in h)

    right : simp_run h.numbers h.image h.memory h.disk h.frame irq2 budget log f.report ≡ d
    right = rw (eq-eqb (length h.numbers) record_numbers f.right_record, eq-eqb (length f.report) report_numbers f.right-report)

    p : Runs d h.numbers f.report r after.numbers after.memory after.disk after.frame log_after (cycles ∷ bytes ∷ reason ∷ [])
    p = rw right at f.promise

    report : cycles ∷ bytes ∷ reason ∷ [] ≡ report_of d
    report = p.report-is ∙ rw (eq-eqb (length f.report) report_numbers f.right-report)

    keeps : (d.lent.image ≡ h.image) × (d.trip-left ≡ none) × (refused d.outcome.number 0 ≡ d.outcome)
    keeps = run-keeps irq2 (standing_in h) budget log

    record_is : record_of after.numbers ≡ record_in d.lent.state
    record_is = go (eqb d.outcome.number 0) refl
      where
        go : (t : Bool) → eqb d.outcome.number 0 ≡ t → record_of after.numbers ≡ record_in d.lent.state
        go true e = ap record_of (p.record_is ∙ rw e) ∙ sound_again (record_in d.lent.state) (sound (eqb-true d.outcome.number 0 e))
        go false e =
            ap record_of (p.record_is ∙ rw e)
            ∙ sym (run-refused irq2 (standing_in h) budget log (eqb-false d.outcome.number 0 e))

    whole : face_ran after r cycles bytes reason log_after ≡ d
    whole i =
        record {
          outcome = (ap (λ (n : ℕ). refused n 0) p.number ∙ keeps.2) i;
          cycles = ap (λ (l : List ℕ). get_or l 0 0) report i;
          bytes = ap (λ (l : List ℕ). get_or l 1 0) report i;
          reason = ap (λ (l : List ℕ). get_or l 2 0) report i;
          log = p.log_is i;
          lent = record {
            image = (f.same-image ∙ sym keeps.0) i;
            state = record {
              core = (record_is i).core;
              regs = (record_is i).regs;
              io = (record_is i).io;
              memory = p.memory-is i;
              disk = p.disk-is i;
              frame = p.frame_is i;
            };
          };
          trip-left = sym keeps.1 i;
        }

-- A run that its questions refuse is not accepted.
never_accepted : (irq2 : List ℕ) (w : Standing) (budget : ℕ) (log : List ℕ) → ((run_outcome lab irq2 w).number ≡ 0 → ⊥) → (run_call lab budget log irq2 w).outcome.number ≡ 0 → ⊥
unfolding run_call
never_accepted irq2 w budget log refusal = rw (ne_eqb (run_outcome lab irq2 w).number 0 refusal) refusal

-- ---- any call

call-made : (irq2 : List ℕ) (h : Held) → Good (standing_in h) → {c : Call lab} {d : Done lab} → FaceMade irq2 h c d → d ≡ call lab irq2 (standing_in h) c
call-made irq2 h good (Face.ran {budget} {log} {after} f) =
    face_run irq2 h budget log after _ _ _ _ _ f
    (λ e. sound_test (record_in (run_call lab budget log irq2 (standing_in h)).lent.state) (good-after irq2 (standing_in h) good (run budget log)).sound)
call-made irq2 h good (Face.ran_other {budget} {log} {other} {lent} {after} refusal f) =
    face_run other lent budget log after _ _ _ _ _ f (λ e. absurd (never_accepted other (standing_in lent) budget log refusal e))
call-made irq2 h good (trip_by same t) = trip-made (standing_in h) t
call-made irq2 h good (trip_other_by refusal t) = trip-made (standing_in h) t

face_trace : (irq2 : List ℕ) {h : Held} → Good (standing_in h) → {cs : List (Call lab)} {ds : List (Done lab)} → FaceCalls irq2 h cs ds → Trace lab irq2 (standing_in h) cs ds
face_trace irq2 good end = done
face_trace irq2 {h} good (next {after = after} {c = c} {cs = cs} {d = d} {ds = ds} m stands more) =
    let is = call-made irq2 h good m in
    let good-there : Good (standing_in after) = subst Good (ap (standing lab (standing_in h) c) (sym is) ∙ stands) (good-after irq2 (standing_in h) good c) in
    let rest : Trace lab irq2 (standing lab (standing_in h) c d) cs ds = rw stands (face_trace irq2 good-there more) in
    then is rest

-- Demand 3 holds of every list of calls of `simp_run`, of `simp_save` and `simp_load`, and of the writers and readers of the memories.
pub face_demand3 : (irq2 : List ℕ) (h : Held) → Fresh (standing_in h) → {calls : List (Call lab)} {done : List (Done lab)} → FaceCalls irq2 h calls done
    → Demand3 lab irq2 (standing_in h) calls done
face_demand3 irq2 h fresh {calls} {done} made = demand3_met irq2 (standing_in h) fresh calls done (face_trace irq2 (good-fresh (standing_in h) fresh) made)

-- A caller that holds 40 zeros, memories of document 01's lengths, and in them 32-bit words and bytes, starts so.
pub fresh_held : (image memory disk frame : List ℕ) → length image ≡ image_words → length memory ≡ data_words → length disk ≡ disk_words → length frame ≡ frame_bytes
    → Below (2 ^ 32) memory → Below (2 ^ 32) disk → Below (2 ^ 8) frame
    → Fresh (standing_in (record { numbers = replicate record_numbers 0; image = image; memory = memory; disk = disk; frame = frame }))
unfolding record_of
fresh_held image memory disk frame a b c d e f g = fresh_any image memory disk frame a b c d e f g
