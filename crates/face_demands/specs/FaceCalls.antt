-- Calls of the C face, each known by its own contract alone.
use Rattle.std.specs.Prelude.{ℕ, ◌≡◌, List, [], ◌∷◌, length, take}
use Rattle.text.specs.declared.Outcome.{Outcome}
use Rattle.text.specs.Questions.{refused}
use Rattle.files.specs.Sizes.{image_digits, word_digits, frame_digits, is_image_length, is_data_length, is_frame_length, is_part_length, is_disk_part}
use Rattle.files.specs.MemoryFile.{file_text, sectors_of}
use Rattle.claim.specs.Calls.{Call, run, run_other, trip, trip_other, none, Done, run_outcome, standing}
use Rattle.runner.specs.Lab.{lab, Standing, standing_of, Kind, the_record, the_image, the_data, the_frame, the_sectors, Carried, part, write_outcome, text_of, read_outcome, SameLength}
use Rattle.runner.specs.RealCalls.{trip_done}
use Rattle.simp.specs.Numbers.{record_numbers, record_of}
use Rattle.simp.specs.Files.{Reads, Writes}
use Rattle.simp.specs.Records.{Saves, Loads}
use Rattle.simp.specs.Runs.{report_numbers, simp_run, Runs}

-- What a caller holds between two calls: the numbers of the record, the image and the memories; and what stands then.
pub record Held : Type 0 where
  pub numbers : List ℕ
  pub image : List ℕ
  pub memory : List ℕ
  pub disk : List ℕ
  pub frame : List ℕ

abbrev pub standing_in : Held → Standing
standing_in h = standing_of h.image (record_of h.numbers) h.memory h.disk h.frame

-- `simp_run` was lent h, and left `after`: the number that it returned, the three numbers of its report and the log then.
abbrev pub face_ran : Held → (r cycles bytes reason : ℕ) (log : List ℕ) → Done lab
face_ran after r cycles bytes reason log =
    record { outcome = refused r 0; cycles = cycles; bytes = bytes; reason = reason; log = log; lent = standing_in after; trip-left = none }

pub record FaceRun (irq2 : List ℕ) (h : Held) (budget : ℕ) (log : List ℕ) (after : Held) (r cycles bytes reason : ℕ) (log_after : List ℕ) : Type 0 where
  pub report : List ℕ
  pub right_record : length h.numbers ≡ record_numbers
  pub right-report : length report ≡ report_numbers
  pub same-image : after.image ≡ h.image
  pub promise : Runs (simp_run h.numbers h.image h.memory h.disk h.frame irq2 budget log report) h.numbers report
      r after.numbers after.memory after.disk after.frame log_after (cycles ∷ bytes ∷ reason ∷ [])

-- A writer of the face was lent `out` and `space`, which is `sent` then; where it returned 0, a reader read what was written into `into`, which is
-- `after` then.
pub data FaceTrip : (k : Kind) (out : Carried k) (space : List ℕ) (into : Carried k) (wrote : Outcome) (sent : List ℕ) (got : Outcome) (after : Carried k) → Type 0 where
  by_record : {numbers space sent into after : List ℕ} {r s : ℕ}
      → length numbers ≡ record_numbers → length into ≡ record_numbers
      → Saves numbers space r sent → (r ≡ 0 → Loads sent into s after)
      → FaceTrip the_record (record_of numbers) space (record_of into) (refused r 0) sent (refused s 0) (record_of after)
  by_image : {out space sent into after : List ℕ} {r count s place : ℕ}
      → Writes (is_image_length (length out)) (file_text image_digits out) space r sent count
      → (r ≡ 0 → Reads image_digits is_image_length (take count sent) into s after place)
      → FaceTrip the_image out space into (record { number = r; place = 0; count = count }) sent (refused s place) after
  by_data : {out space sent into after : List ℕ} {r count s place : ℕ}
      → Writes (is_data_length (length out)) (file_text word_digits out) space r sent count
      → (r ≡ 0 → Reads word_digits is_data_length (take count sent) into s after place)
      → FaceTrip the_data out space into (record { number = r; place = 0; count = count }) sent (refused s place) after
  by_frame : {out space sent into after : List ℕ} {r count s place : ℕ}
      → Writes (is_frame_length (length out)) (file_text frame_digits out) space r sent count
      → (r ≡ 0 → Reads frame_digits is_frame_length (take count sent) into s after place)
      → FaceTrip the_frame out space into (record { number = r; place = 0; count = count }) sent (refused s place) after
  by_sectors : {first sectors : ℕ} {out space sent into after : List ℕ} {r count s place : ℕ}
      → Writes (is_disk_part (length out) first sectors) (file_text word_digits (sectors_of out first sectors)) space r sent count
      → (r ≡ 0 → Reads word_digits is_part_length (take count sent) into s after place)
      → FaceTrip (the_sectors first sectors) out space into (record { number = r; place = 0; count = count }) sent (refused s place) after

-- A call of a list, made by the functions of the face while the caller holds h. A call that is to be refused may be lent something else.
pub data FaceMade (irq2 : List ℕ) (h : Held) : Call lab → Done lab → Type 0 where
  ran : {budget : ℕ} {log : List ℕ} {after : Held} {r cycles bytes reason : ℕ} {log_after : List ℕ}
      → FaceRun irq2 h budget log after r cycles bytes reason log_after
      → FaceMade irq2 h (run budget log) (face_ran after r cycles bytes reason log_after)
  ran_other : {budget : ℕ} {log other : List ℕ} {lent after : Held} (refusal : (run_outcome lab other (standing_in lent)).number ≡ 0 → ⊥)
      {r cycles bytes reason : ℕ} {log_after : List ℕ}
      → FaceRun other lent budget log after r cycles bytes reason log_after
      → FaceMade irq2 h (run_other budget log other (standing_in lent) refusal) (face_ran after r cycles bytes reason log_after)
  trip_by : {k : Kind} {space : List ℕ} {into : Carried k} (same : SameLength k into) {wrote : Outcome} {sent : List ℕ} {got : Outcome} {after : Carried k}
      → FaceTrip k (part k (standing_in h)) space into wrote sent got after
      → FaceMade irq2 h (trip k space into same) (trip_done (standing_in h) k into wrote sent got after)
  trip_other_by : {k : Kind} {out : Carried k} {space : List ℕ} {into : Carried k}
      (refusal : (write_outcome k out space).number ≡ 0 → (read_outcome k (text_of k out) into).number ≡ 0 → ⊥)
      {wrote : Outcome} {sent : List ℕ} {got : Outcome} {after : Carried k}
      → FaceTrip k out space into wrote sent got after
      → FaceMade irq2 h (trip_other k out space into refusal) (trip_done (standing_in h) k into wrote sent got after)

-- A list of them: each gets what stood after the last one, which the caller holds then.
pub data FaceCalls (irq2 : List ℕ) : Held → List (Call lab) → List (Done lab) → Type 0 where
  end : {h : Held} → FaceCalls irq2 h [] []
  next : {h after : Held} {c : Call lab} {cs : List (Call lab)} {d : Done lab} {ds : List (Done lab)}
      → FaceMade irq2 h c d → standing lab (standing_in h) c d ≡ standing_in after → FaceCalls irq2 after cs ds → FaceCalls irq2 h (c ∷ cs) (d ∷ ds)
