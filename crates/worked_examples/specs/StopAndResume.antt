-- A run that is stopped and resumed by real calls, and demand 3 of them.
use Rattle.std.specs.Prelude.{ℕ, ◌*◌, ◌≡◌, Result, List, [], ◌∷◌}
use Rattle.text.specs.declared.Outcome.{Outcome}
use Rattle.text.specs.Questions.{unless_refused}
use Rattle.text.specs.Place.{put}
use Rattle.files.specs.declared.FileError.{FileError}
use Rattle.files.specs.Sizes.{word_digits, is_part_length}
use Rattle.files.specs.Promises.{MemoryRead}
use Rattle.files.specs.Answers.{file_read_outcome}
use Rattle.machine.specs.declared.Record.{Record}
use Rattle.saved.specs.Calls.{fresh_record}
use Rattle.claim.specs.Calls.{Call, run, trip, Done, halves, tripped}
use Rattle.claim.specs.Demand.{Demand3}
use Rattle.runner.specs.Lab.{lab, Standing, standing_of, Fresh, the_record, the_sectors, SameLength}
use Rattle.runner.specs.Answers.{done_of}
use Rattle.runner.specs.RealCalls.{Made, RealCalls}
use Rattle.worked_examples.specs.declared.RecordTrip.{RecordTrip}
use Rattle.worked_examples.specs.declared.Resumed.{Resumed}

-- ---- return trips

-- A record's return trip, made by `save` and `load` while it stands with any image and memories.
abbrev pub RecordReturns : Record → (bytes : List ℕ) → RecordTrip → (bytes' : List ℕ) → Type 0
RecordReturns r bytes t bytes' =
    (irq2 image memory disk frame : List ℕ)
    → Made irq2 (standing_of image r memory disk frame) (trip the_record bytes fresh_record tt)
    (tripped lab t.outcome (standing_of image t.state memory disk frame) (halves the_record bytes' t.read))

-- A sector's return trip, made by `write_disk` and `read_disk` while the disk stands with any image, record and other memories.
abbrev pub SectorReturns : (disk : List ℕ) (sector : ℕ) (text words : List ℕ) → Outcome → (disk' text' words' : List ℕ) → Type 0
SectorReturns disk sector text words o disk' text' words' =
    (irq2 image : List ℕ) (r : Record) (memory frame : List ℕ) (same : SameLength (the_sectors sector 1) words)
    → Made irq2 (standing_of image r memory disk frame) (trip (the_sectors sector 1) text words same)
    (tripped lab o (standing_of image r memory disk' frame) (halves (the_sectors sector 1) text' words'))

-- The second half of it (for the code): the text is read into words by `read_disk`, which is accepted where the words stand in the sector's place.
abbrev pub SectorPlaced : (disk : List ℕ) (sector : ℕ) (text words : List ℕ) → Outcome → (disk' words' : List ℕ) → Type 0
SectorPlaced disk sector text words o disk' words' =
    (answer : Result (Unit {0}) FileError)
    × MemoryRead word_digits is_part_length text words answer words'
    × (o ≡ file_read_outcome answer)
    × (disk' ≡ unless_refused o (put disk (128 * sector) words') disk)

-- ---- the list of calls

-- What `stop_and_resume` is lent, as it is at entry or at exit: the image and the memories, and what its calls write and read.
pub record Lent : Type 0 where
  pub image : List ℕ
  pub memory : List ℕ
  pub disk : List ℕ
  pub frame : List ℕ
  pub first-log : List ℕ
  pub bytes : List ℕ
  pub text : List ℕ
  pub words : List ℕ
  pub second-log : List ℕ

abbrev pub lent_of : (image memory disk frame first-log bytes text words second-log : List ℕ) → Lent
lent_of image memory disk frame first-log bytes text words second-log =
    record {
      image = image;
      memory = memory;
      disk = disk;
      frame = frame;
      first-log = first-log;
      bytes = bytes;
      text = text;
      words = words;
      second-log = second-log;
    }

-- It starts from the fresh record.
abbrev pub start : Lent → Standing
start l = standing_of l.image fresh_record l.memory l.disk l.frame

-- A run; the record saved and loaded; a sector of the disk written as text and read back; a run.
abbrev pub calls : (first sector second : ℕ) (l : Lent) → SameLength (the_sectors sector 1) l.words → List (Call lab)
calls first sector second l same =
    run first l.first-log
    ∷ trip the_record l.bytes fresh_record tt
    ∷ trip (the_sectors sector 1) l.text l.words same
    ∷ run second l.second-log
    ∷ []

-- What they returned and left. `memory`, `disk` and `frame` stood after the first run, `disk'` after the sector's return trip.
abbrev pub done : (sector : ℕ) (r : Resumed) (left : Lent) (memory disk frame disk' : List ℕ) → List (Done lab)
done sector r left memory disk frame disk' =
    done_of r.first left.image memory disk frame left.first-log
    ∷ tripped lab r.trip.outcome (standing_of left.image r.trip.state memory disk frame) (halves the_record left.bytes r.trip.read)
    ∷ tripped lab r.sector (standing_of left.image r.trip.state memory disk' frame) (halves (the_sectors sector 1) left.text left.words)
    ∷ done_of r.second left.image left.memory left.disk left.frame left.second-log
    ∷ []

-- `stop_and_resume` was lent `lent`, which is `left` then, and returned r.
pub record StopAndResume (irq2 : List ℕ) (first sector second : ℕ) (lent : Lent) (r : Resumed) (left : Lent) : Type 0 where
  -- The memories between the runs: after the first run, and the disk after the sector's return trip.
  pub memory : List ℕ
  pub disk : List ℕ
  pub frame : List ℕ
  pub disk' : List ℕ
  -- The words are as many as a sector has.
  pub same : SameLength (the_sectors sector 1) lent.words
  -- Each call is a real one, known by its contract alone, and gets what the last one left, whatever was lent.
  pub made : RealCalls irq2 (start lent) (calls first sector second lent same) (done sector r left memory disk frame disk')
  -- DEMAND 3 of this list: after it the joined logs, the record and every memory are the plain machine's after as many cycles as the two runs reported.
  pub meets : Fresh (start lent) → Demand3 lab irq2 (start lent) (calls first sector second lent same) (done sector r left memory disk frame disk')
