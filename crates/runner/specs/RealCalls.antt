-- Calls made by the real functions, each known by its own contract alone: `run`, `save` and `load`, the four writers and the four readers.
use Rattle.std.specs.Prelude.{ℕ, ◌≡◌, Result, List, [], ◌∷◌, length, take}
use Rattle.text.specs.declared.Outcome.{Outcome}
use Rattle.text.specs.Questions.{accepted, unless_refused}
use Rattle.files.specs.declared.FileError.{FileError}
use Rattle.files.specs.declared.WriteError.{WriteError}
use Rattle.files.specs.Sizes.{image_digits, word_digits, frame_digits, is_image_length, is_data_length, is_frame_length, is_part_length, is_disk_part}
use Rattle.files.specs.MemoryFile.{file_text, sectors_of}
use Rattle.files.specs.Promises.{MemoryRead, TextWritten}
use Rattle.files.specs.Answers.{file_read_outcome, written_outcome}
use Rattle.machine.specs.declared.Record.{Record}
use Rattle.saved.specs.declared.SaveError.{SaveError}
use Rattle.saved.specs.declared.LoadError.{LoadError}
use Rattle.saved.specs.Answers.{saved_outcome, loaded_outcome, loaded_record}
use Rattle.saved.specs.Promises.{Saving, Loading}
use Rattle.claim.specs.Calls.{Call, run, run_other, trip, trip_other, halves, Done, run_outcome, run_call, tripped, standing}
use Rattle.runner.specs.declared.RunReport.{RunReport}
use Rattle.runner.specs.Lab.{lab, Standing, Kind, the_record, the_image, the_data, the_frame, the_sectors, Carried, part, place, write_outcome, text_of, read_outcome, SameLength}
use Rattle.runner.specs.Answers.{done_of}

-- A writer is lent `out` and `space`, which is `sent` then; where it is accepted, a reader reads what was written into `into`, which is `after` then.
-- The outcomes of both are those of what they answered, and each keeps its contract.
pub data TripMade : (k : Kind) (out : Carried k) (space : List ℕ) (into : Carried k) (wrote : Outcome) (sent : List ℕ) (got : Outcome) (after : Carried k) → Type 0 where
  by_record : {r : Record} {space sent : List ℕ} {into : Record} (a : Result (Unit {0}) SaveError) (l : Result Record LoadError)
      → Saving r space a sent
      → ((saved_outcome a).number ≡ 0 → Loading sent l)
      → TripMade the_record r space into (saved_outcome a) sent (loaded_outcome l) (loaded_record l)
  by_image : {out space sent into after : List ℕ} (w : Result ℕ WriteError) (r : Result (Unit {0}) FileError)
      → TextWritten (is_image_length (length out)) (file_text image_digits out) space w sent
      → ((written_outcome w).number ≡ 0 → MemoryRead image_digits is_image_length (take (written_outcome w).count sent) into r after)
      → TripMade the_image out space into (written_outcome w) sent (file_read_outcome r) after
  by_data : {out space sent into after : List ℕ} (w : Result ℕ WriteError) (r : Result (Unit {0}) FileError)
      → TextWritten (is_data_length (length out)) (file_text word_digits out) space w sent
      → ((written_outcome w).number ≡ 0 → MemoryRead word_digits is_data_length (take (written_outcome w).count sent) into r after)
      → TripMade the_data out space into (written_outcome w) sent (file_read_outcome r) after
  by_frame : {out space sent into after : List ℕ} (w : Result ℕ WriteError) (r : Result (Unit {0}) FileError)
      → TextWritten (is_frame_length (length out)) (file_text frame_digits out) space w sent
      → ((written_outcome w).number ≡ 0 → MemoryRead frame_digits is_frame_length (take (written_outcome w).count sent) into r after)
      → TripMade the_frame out space into (written_outcome w) sent (file_read_outcome r) after
  by_sectors : {first sectors : ℕ} {out space sent into after : List ℕ} (w : Result ℕ WriteError) (r : Result (Unit {0}) FileError)
      → TextWritten (is_disk_part (length out) first sectors) (file_text word_digits (sectors_of out first sectors)) space w sent
      → ((written_outcome w).number ≡ 0 → MemoryRead word_digits is_part_length (take (written_outcome w).count sent) into r after)
      → TripMade (the_sectors first sectors) out space into (written_outcome w) sent (file_read_outcome r) after

-- What such a trip answers and leaves, while w stands.
abbrev pub trip_done : Standing → (k : Kind) (into : Carried k) (wrote : Outcome) (sent : List ℕ) (got : Outcome) (after : Carried k) → Done lab
trip_done w k into wrote sent got after =
    unless_refused wrote
    (unless_refused got
    (tripped lab (accepted 0) (place k after w) (halves k sent after))
    (tripped lab got w (halves k sent after)))
    (tripped lab wrote w (halves k sent into))

-- A call of a list, made by the real functions while w stands. A call that is to be refused may be lent something else.
pub data Made (irq2 : List ℕ) (w : Standing) : Call lab → Done lab → Type 0 where
  ran : (budget : ℕ) (log : List ℕ) (r : RunReport) (memory disk frame log_after : List ℕ)
      → done_of r w.image memory disk frame log_after ≡ run_call lab budget log irq2 w
      → Made irq2 w (run budget log) (done_of r w.image memory disk frame log_after)
  ran_other : (budget : ℕ) (log other : List ℕ) (lent : Standing) (refusal : (run_outcome lab other lent).number ≡ 0 → ⊥)
      (r : RunReport) (memory disk frame log_after : List ℕ)
      → done_of r lent.image memory disk frame log_after ≡ run_call lab budget log other lent
      → Made irq2 w (run_other budget log other lent refusal) (done_of r lent.image memory disk frame log_after)
  trip_done_by : {k : Kind} {space : List ℕ} {into : Carried k} (same : SameLength k into) {wrote : Outcome} {sent : List ℕ} {got : Outcome} {after : Carried k}
      → TripMade k (part k w) space into wrote sent got after
      → Made irq2 w (trip k space into same) (trip_done w k into wrote sent got after)
  trip_other_by : {k : Kind} {out : Carried k} {space : List ℕ} {into : Carried k}
      (refusal : (write_outcome k out space).number ≡ 0 → (read_outcome k (text_of k out) into).number ≡ 0 → ⊥)
      {wrote : Outcome} {sent : List ℕ} {got : Outcome} {after : Carried k}
      → TripMade k out space into wrote sent got after
      → Made irq2 w (trip_other k out space into refusal) (trip_done w k into wrote sent got after)

-- A list of them: each gets what the last one left.
pub data RealCalls (irq2 : List ℕ) : Standing → List (Call lab) → List (Done lab) → Type 0 where
  end : {w : Standing} → RealCalls irq2 w [] []
  next : {w : Standing} {c : Call lab} {cs : List (Call lab)} {d : Done lab} {ds : List (Done lab)}
      → Made irq2 w c d → RealCalls irq2 (standing lab w c d) cs ds → RealCalls irq2 w (c ∷ cs) (d ∷ ds)
