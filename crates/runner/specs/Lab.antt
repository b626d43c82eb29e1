-- This lab, as demand 3 sees it (`claim`): its machine, what a run is asked, and what a return trip carries.
use Rattle.std.specs.Prelude.{ℕ, ◌+◌, ◌*◌, ◌^◌, ◌≤◌, ◌<◌, ◌≡◌, Bool, not, ◌&&◌, List, [], ◌∷◌, length}
use Rattle.text.specs.declared.Outcome.{Outcome}
use Rattle.text.specs.Questions.{Question, unless_refused}
use Rattle.text.specs.Place.{put}
use Rattle.text.specs.Ranges.{Below}
use Rattle.text.specs.Lines.{lines}
use Rattle.files.specs.Sizes.{image_words, data_words, disk_words, frame_bytes, sector_words, disk_sectors, image_digits, word_digits, frame_digits, is_image_length, is_data_length, is_disk_length, is_frame_length, is_part_length, is_disk_part}
use Rattle.files.specs.MemoryFile.{low48, file_text, file_words, sectors_of}
use Rattle.files.specs.MemoryFile.{read_outcome as file_reads, write_outcome as file_writes}
use Rattle.files.specs.Irq2File.{rising}
use Rattle.machine.specs.declared.Record.{Record}
use Rattle.machine.specs.State.{Machine, fresh_machine, with_memory, with_disk, with_frame}
use Rattle.devices.specs.Command.{is_free}
use Rattle.machine.specs.Cycle.{cycle, accepts_command, is_stopped, is_at_limit}
use Rattle.machine.specs.Log.{cycle_lines}
use Rattle.saved.specs.Layout.{record_bytes, saved_bytes}
use Rattle.saved.specs.Sound.{is_sound}
use Rattle.saved.specs.Calls.{fresh_record, save_outcome, save_bytes, load_outcome, load_record}
use Rattle.claim.specs.Plain.{Machine as AnyMachine}
use Rattle.claim.specs.Calls.{World, Lab}

-- What no cycle changes: the image by its low 48 bits ("bits above 47 are not read"), and the irq2 list.
pub record Code : Type 0 where
  pub image : List ℕ
  pub irq2 : List ℕ

abbrev pub code_of : List ℕ → List ℕ → Code
code_of image irq2 = record { image = low48 image; irq2 = irq2 }

-- The plain machine.
abbrev pub simp : AnyMachine
simp =
    record {
      Code = Code;
      State = Machine;
      cycle = λ code m. cycle code.image code.irq2 m;
      lines = λ code m. cycle_lines code.image code.irq2 m;
      is_stopped = is_stopped;
      is_at_limit = is_at_limit;
    }

-- What stands between two calls.
abbrev pub Standing : Type 0
Standing = World (List ℕ) Machine

-- The record of a machine, and the machine of a record and memories.
abbrev pub record_in : Machine → Record
record_in m = record { core = m.core; regs = m.regs; io = m.io }

abbrev pub machine_of : Record → (memory disk frame : List ℕ) → Machine
machine_of r memory disk frame = record { core = r.core; regs = r.regs; io = r.io; memory = memory; disk = disk; frame = frame }

abbrev pub standing_of : (image : List ℕ) → Record → (memory disk frame : List ℕ) → Standing
standing_of image r memory disk frame = record { image = image; state = machine_of r memory disk frame }

-- The lengths of document 01: 4,096 words of image and of data, 16,384 of disk, 65,536 bytes of frame.
abbrev pub are_lengths : Standing → Bool
are_lengths w =
    is_image_length (length w.image)
    && is_data_length (length w.state.memory)
    && is_disk_length (length w.state.disk)
    && is_frame_length (length w.state.frame)

-- "are the lent lengths those above (..)? 1." "Run: irq2 list strictly rising? 12. Record sound? 13."
abbrev pub run_questions : List ℕ → Standing → List Question
run_questions irq2 w = (1, are_lengths w) ∷ (12, rising irq2) ∷ (13, is_sound (record_in w.state)) ∷ []

-- "It starts from the fresh record, any data memory, disk and frame, one image": an image and memories of document 01's lengths; words of 32 bits,
-- bytes of 8.
pub record Fresh (w : Standing) : Type 0 where
  pub record_is : w.state ≡ fresh_machine w.state.memory w.state.disk w.state.frame
  pub image : length w.image ≡ image_words
  pub memory_words : length w.state.memory ≡ data_words
  pub disk-words : length w.state.disk ≡ disk_words
  pub frame-bytes : length w.state.frame ≡ frame_bytes
  pub memory-fits : Below (2 ^ 32) w.state.memory
  pub disk-fits : Below (2 ^ 32) w.state.disk
  pub frame-fits : Below (2 ^ 8) w.state.frame

-- ---- return trips

-- "A return trip saves the record and reads those bytes, or writes the image, a memory or a part of the disk as text and reads that text": a part of
-- the disk is so many sectors, from sector `first` on.
pub data Kind : Type 0 where
  the_record : Kind
  the_image : Kind
  the_data : Kind
  the_frame : Kind
  the_sectors : (first sectors : ℕ) → Kind

-- What a writer is lent, and what a reader fills: a record, or words.
abbrev pub Carried : Kind → Type 0
Carried the_record = Record
Carried the_image = List ℕ
Carried the_data = List ℕ
Carried the_frame = List ℕ
Carried (the_sectors first sectors) = List ℕ

-- What the writer is lent of what stands; of the disk, all of it.
abbrev pub part : (k : Kind) → Standing → Carried k
part the_record w = record_in w.state
part the_image w = w.image
part the_data w = w.state.memory
part the_frame w = w.state.frame
part (the_sectors first sectors) w = w.state.disk

abbrev pub with_state : Standing → Machine → Standing
with_state w m = record { image = w.image; state = m }

-- ".. which then takes its place."
abbrev pub place : (k : Kind) → Carried k → Standing → Standing
place the_record r w = with_state w (machine_of r w.state.memory w.state.disk w.state.frame)
place the_image image w = record { image = image; state = w.state }
place the_data memory w = with_state w (with_memory memory w.state)
place the_frame frame w = with_state w (with_frame frame w.state)
place (the_sectors first sectors) words w = with_state w (with_disk (put w.state.disk (sector_words * first) words) w.state)

abbrev pub text_of : (k : Kind) → Carried k → List ℕ
text_of the_record r = saved_bytes r
text_of the_image image = file_text image_digits image
text_of the_data memory = file_text word_digits memory
text_of the_frame frame = file_text frame_digits frame
text_of (the_sectors first sectors) disk = file_text word_digits (sectors_of disk first sectors)

abbrev pub write_outcome : (k : Kind) → Carried k → List ℕ → Outcome
write_outcome the_record r space = save_outcome r space
write_outcome the_image image space = file_writes (is_image_length (length image)) (text_of the_image image) (length space)
write_outcome the_data memory space = file_writes (is_data_length (length memory)) (text_of the_data memory) (length space)
write_outcome the_frame frame space = file_writes (is_frame_length (length frame)) (text_of the_frame frame) (length space)
write_outcome (the_sectors first sectors) disk space =
    file_writes (is_disk_part (length disk) first sectors) (text_of (the_sectors first sectors) disk) (length space)

abbrev pub read_outcome : (k : Kind) → List ℕ → Carried k → Outcome
read_outcome the_record bytes r = load_outcome bytes
read_outcome the_image text image = file_reads image_digits is_image_length (length image) text
read_outcome the_data text memory = file_reads word_digits is_data_length (length memory) text
read_outcome the_frame text frame = file_reads frame_digits is_frame_length (length frame) text
read_outcome (the_sectors first sectors) text words = file_reads word_digits is_part_length (length words) text

-- What stands in the text space after a write, and in the slice after a read; where one is refused, "lent memory keeps its contents".
abbrev pub wrote_file : Outcome → (text space : List ℕ) → List ℕ
wrote_file outcome text space = unless_refused outcome (put space 0 text) space

abbrev pub wrote_into : (k : Kind) → Carried k → List ℕ → List ℕ
wrote_into the_record r space = save_bytes r space
wrote_into the_image image space = wrote_file (write_outcome the_image image space) (text_of the_image image) space
wrote_into the_data memory space = wrote_file (write_outcome the_data memory space) (text_of the_data memory) space
wrote_into the_frame frame space = wrote_file (write_outcome the_frame frame space) (text_of the_frame frame) space
wrote_into (the_sectors first sectors) disk space =
    wrote_file (write_outcome (the_sectors first sectors) disk space) (text_of (the_sectors first sectors) disk) space

abbrev pub read_file : Outcome → (text words : List ℕ) → List ℕ
read_file outcome text words = unless_refused outcome (file_words (length words) (lines text)) words

abbrev pub read_into : (k : Kind) → List ℕ → Carried k → Carried k
read_into the_record bytes r = load_record bytes
read_into the_image text image = read_file (read_outcome the_image text image) text image
read_into the_data text memory = read_file (read_outcome the_data text memory) text memory
read_into the_frame text frame = read_file (read_outcome the_frame text frame) text frame
read_into (the_sectors first sectors) text words = read_file (read_outcome (the_sectors first sectors) text words) text words

-- "lent memory keeps its contents; .. a record reader the fresh one"
abbrev pub refused_into : (k : Kind) → Carried k → Carried k
refused_into the_record r = fresh_record
refused_into the_image image = image
refused_into the_data memory = memory
refused_into the_frame frame = frame
refused_into (the_sectors first sectors) words = words

-- "reads that text into a slice of the same length"; a record is read into no slice.
abbrev pub SameLength : (k : Kind) → Carried k → Type 0
SameLength the_record r = Unit {0}
SameLength the_image image = length image ≡ image_words
SameLength the_data memory = length memory ≡ data_words
SameLength the_frame frame = length frame ≡ frame_bytes
SameLength (the_sectors first sectors) words = length words ≡ sector_words * sectors

-- "With right lent lengths and room for the text": the bytes of a saved record; for each word its digits and an LF; and sectors that the disk has,
-- at least one.
abbrev pub Room : (k : Kind) → List ℕ → Type 0
Room the_record space = length space ≡ record_bytes
Room the_image space = image_words * (image_digits + 1) ≤ length space
Room the_data space = data_words * (word_digits + 1) ≤ length space
Room the_frame space = frame_bytes * (frame_digits + 1) ≤ length space
Room (the_sectors first sectors) space =
    (0 < sectors) × (first + sectors ≤ disk_sectors) × (sector_words * sectors * (word_digits + 1) ≤ length space)

-- ---- the lab

abbrev pub lab : Lab
lab =
    record {
      machine = simp;
      Image = List ℕ;
      Irqs = List ℕ;
      code_of = code_of;
      Fresh = Fresh;
      asks = run_questions;
      Kind = Kind;
      Lent = Carried;
      Slice = Carried;
      part = part;
      place = place;
      write_outcome = write_outcome;
      text_of = text_of;
      wrote_into = wrote_into;
      read_outcome = read_outcome;
      read_into = read_into;
      refused_into = refused_into;
      SameLength = SameLength;
      Room = Room;
      accepts = λ code m. accepts_command code.image code.irq2 m;
      is_busy = λ m. not (is_free m.io);
    }
