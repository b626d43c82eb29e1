-- What demand 3 rests on, of this lab: one cycle, one return trip, run's questions, the disk. Assumes nothing.
use Prim.Native.Nat.{ℕ, suc, ◌+◌, ◌-◌, ◌*◌, ◌%◌, ◌^◌, ◌≤◌, ◌<◌}
use mathlib.Core.Path.{◌≡◌, refl, sym, ◌∙◌, ap, subst}
use mathlib.Core.Bool.{Bool, true, false, not, ◌||◌, false≢true}
use mathlib.Core.List.{List, [], ◌∷◌, ◌++◌, map, append-nil}
use native.Mathlib.Omega.{arith}
use lib.Dec.{eqb, leb}
use lib.ListN.{length, drop, length-map, drop_of_length-le}
use borrow.Author.Tests.{eqb-true, eqb-false, leb-true, eq-eqb, ne_eqb, le-leb, lt-ltb}
use Rattle.text.specs.declared.Outcome.{Outcome}
use Rattle.text.specs.Questions.{accepted, first_no}
use Rattle.text.proofs.PutLaws.{put_front}
use Rattle.text.proofs.QuestionLaws.{first_yes}
use Rattle.text.proofs.RangeLaws.{below_part, below_mod}
use Rattle.files.specs.Sizes.{image_words, disk_words, sector_words, disk_sectors, image_digits, word_digits, frame_digits, is_disk_part, is_part_length, is_data_length, is_frame_length, is_image_length}
use Rattle.files.specs.MemoryFile.{low48, file_text, sectors_of}
use Rattle.files.specs.MemoryFile.{write_outcome as file_writes, read_outcome as file_reads}
use Rattle.files.specs.Irq2File.{rising}
use Rattle.files.proofs.PutLaws.{length-text}
use Rattle.files.proofs.SizeLaws.{length_sectors, is-part}
use Rattle.files.proofs.ReturnTrip.{text-written, text-read, all_words, same-image_returns, part_in_place}
use Rattle.machine.specs.declared.Record.{Record}
use Rattle.machine.specs.State.{Machine, with_disk}
use Rattle.machine.specs.Interrupts.{is_in}
use Rattle.devices.specs.declared.Drive.{Drive}
use Rattle.devices.specs.Command.{is_free}
use Rattle.machine.specs.Cycle.{is_stopped, is_at_limit}
use Rattle.machine.specs.Soundness.{Sound}
use Rattle.machine.proofs.SoundLaws.{SoundMachine, sound-cycle, sound-fresh, left-falls, drive-accepted}
use Rattle.machine.proofs.MemoryLaws.{Fits, lengths-kept, fits_kept}
use Rattle.executor.specs.Lent.{Sized}
use Rattle.saved.specs.Layout.{record_bytes, saved_bytes}
use Rattle.saved.specs.Sound.{is_sound}
use Rattle.saved.specs.Calls.{save_outcome, save_bytes}
use Rattle.saved.proofs.SoundTest.{sound_test}
use Rattle.saved.proofs.TripLaws.{length-saved, load_accepts, load_save, save_accepts}
use Rattle.claim.specs.Plain.{is_over}
use Rattle.claim.specs.Calls.{Call, run_outcome, call, standing}
use Rattle.claim.specs.Laws.{Laws, cycled}
use Rattle.claim.proofs.Lists.{call-good}
use Rattle.runner.specs.Lab.{Code, lab, with_state, Standing, Fresh, Kind, the_record, the_image, the_data, the_frame, the_sectors, Carried, record_in, are_lengths, part, place, write_outcome, text_of, wrote_file, wrote_into, read_outcome, read_file, read_into, refused_into, SameLength, Room}

-- A sound record, with an image and memories of document 01's lengths and ranges.
pub record Good (w : Standing) : Type 0 where
  pub image_size : length w.image ≡ image_words
  pub sound : Sound w.state.core w.state.regs w.state.io
  pub sized : Sized w.state.memory w.state.disk w.state.frame
  pub fits : Fits w.state

-- ---- the start, and one cycle

pub good-fresh : (w : Standing) → Fresh w → Good w
good-fresh w f =
    record {
      image_size = f.image;
      sound = subst (λ (m : Machine). Sound m.core m.regs m.io) (sym f.record_is) sound-fresh;
      sized = record { memory_size = f.memory_words; disk_size = f.disk-words; frame_size = f.frame-bytes };
      fits = record { memory = f.memory-fits; disk = f.disk-fits; frame = f.frame-fits };
    }

not_over : (a b : Bool) → (a || b) ≡ false → b ≡ false
not_over true b e = absurd (false≢true (sym e))
not_over false b e = e

good-kept : (irq2 : List ℕ) (w : Standing) → Good w → is_over lab.machine w.state ≡ false → Good (cycled lab irq2 w)
good-kept irq2 w g more =
    let image = low48 w.image in
    let m = w.state in
    let hit = is_in m.core.age irq2 in
    let s : SoundMachine (2 ^ 40) m = record { record_is = g.sound } in
    let other = eqb-false m.core.age (2 ^ 40 - 1) (not_over (is_stopped m) (is_at_limit m) more) in
    let young : m.core.age < 2 ^ 40 - 1 = omega (arith, g.sound.core.age, other) in
    let sizes = lengths-kept image hit m in
    let z = g.sized in
    record {
      image_size = g.image_size;
      sound = (sound-cycle image hit m s young).record_is;
      sized = record { memory_size = sizes.memory ∙ z.memory_size; disk_size = sizes.disk ∙ z.disk_size; frame_size = sizes.frame ∙ z.frame_size };
      fits = fits_kept image hit m g.sound g.fits;
    }

-- ---- run's questions

-- What is told where only the irq2 list is asked.
abbrev pub outcome_of_lem : Bool → Outcome
outcome_of_lem up = first_no ((12, up) ∷ []) 0 (accepted 0)

module _ (w : Standing) (g : Good w) where
  lengths-right : are_lengths w ≡ true
  lengths-right =
      rw (
        eq-eqb (length w.image) 4096 g.image_size,
        eq-eqb (length w.state.memory) 4096 g.sized.memory_size,
        eq-eqb (length w.state.disk) 16384 g.sized.disk_size,
        eq-eqb (length w.state.frame) 65536 g.sized.frame_size,
      )

  -- They depend on the irq2 list alone.
  pub outcome-right : (irq2 : List ℕ) → run_outcome lab irq2 w ≡ outcome_of_lem (rising irq2)
  outcome-right irq2 = rw (lengths-right, sound_test (record_in w.state) g.sound)

-- ---- return trips

-- A writer that accepts was lent the right length.
written-right : (is_right : Bool) (file : List ℕ) (room : ℕ) → (file_writes is_right file room).number ≡ 0 → is_right ≡ true
unfolding file_writes
written-right is_right file room outcome = (first_yes 1 0 is_right _ (omega arith) outcome).0

module _ (w : Standing) (g : Good w) where
  sound_record : is_sound (record_in w.state) ≡ true
  sound_record = sound_test (record_in w.state) g.sound

  -- A disk that has its length has the sectors that a part names.
  has_sectors : (first sectors : ℕ) → 0 < sectors → first + sectors ≤ disk_sectors → is_disk_part (length w.state.disk) first sectors ≡ true
  has_sectors first sectors some within =
      rw (eq-eqb (length w.state.disk) disk_words g.sized.disk_size, lt-ltb 0 sectors some, le-leb (first + sectors) disk_sectors within)

  -- A writer of a text that has room for it accepts.
  wrote : (k : ℕ) (m space : List ℕ) (is_right : Bool) → is_right ≡ true → length m * (k + 1) ≤ length space
      → (file_writes is_right (file_text k m) (length space)).number ≡ 0
  wrote k m space is_right right room =
      ap (λ (t : Outcome). t.number) (text-written (file_text k m) is_right (length space) right (rw (length-text k m) room))

  -- "With right lent lengths and room for the text no such save, write .. is refused".
  good-room : (k : Kind) (space : List ℕ) → Room k space → (write_outcome k (part k w) space).number ≡ 0
  good-room the_record space room = ap (λ (t : Outcome). t.number) (save_accepts (record_in w.state) sound_record space room).0
  good-room the_image space room =
      wrote image_digits w.image space _ (eq-eqb (length w.image) 4096 g.image_size) (rw g.image_size room)
  good-room the_data space room =
      wrote word_digits w.state.memory space _ (eq-eqb (length w.state.memory) 4096 g.sized.memory_size) (rw g.sized.memory_size room)
  good-room the_frame space room =
      wrote frame_digits w.state.frame space _ (eq-eqb (length w.state.frame) 65536 g.sized.frame_size) (rw g.sized.frame_size room)
  good-room (the_sectors first sectors) space (some, within, room) =
      let right = has_sectors first sectors some within in
      wrote word_digits (sectors_of w.state.disk first sectors) space _ right (rw (length_sectors w.state.disk first sectors right) room)

  -- What is read takes its place and the same stands: the record and the memories, and the image by its low 48 bits.
  pub record Returns (k : Kind) (into : Carried k) : Type 0 where
    pub read_it : (read_outcome k (text_of k (part k w)) into).number ≡ 0
    pub good : Good (place k (read_into k (text_of k (part k w)) into) w)
    pub state : (place k (read_into k (text_of k (part k w)) into) w).state ≡ w.state
    pub image : low48 (place k (read_into k (text_of k (part k w)) into) w).image ≡ low48 w.image

  -- So it is where what is read is what stood there.
  returns_same : (k : Kind) (into : Carried k) → (read_outcome k (text_of k (part k w)) into).number ≡ 0 → place k (read_into k (text_of k (part k w)) into) w ≡ w → Returns k into
  returns_same k into outcome same =
      record { read_it = outcome; good = subst Good (sym same) g; state = ap (λ (v : Standing). v.state) same; image = ap (λ (v : Standing). low48 v.image) same }

  read_back : (k : ℕ) (m : List ℕ) (is_right : ℕ → Bool) (n : ℕ) → is_right n ≡ true → n ≡ length m → (file_reads k is_right n (file_text k m)).number ≡ 0
  read_back k m is_right n right size = ap (λ (t : Outcome). t.number) (text-read k m is_right n right size)

  -- What is read of a memory's text are its words, as far as its digits show them.
  gives : (k : ℕ) (m into : List ℕ) (is_right : ℕ → Bool) → is_right (length into) ≡ true → length into ≡ length m
      → read_file (file_reads k is_right (length into) (file_text k m)) (file_text k m) into ≡ map (λ word. word % 16 ^ k) m
  gives k m into is_right right size = rw (eq-eqb _ 0 (read_back k m is_right (length into) right size)) (all_words k m (length into) size)

  -- "or read is refused".
  good-back : (k : Kind) (space : List ℕ) → (write_outcome k (part k w) space).number ≡ 0 → (into : Carried k) → SameLength k into → Returns k into
  good-back the_record space outcome into same =
      let r = record_in w.state in
      returns_same the_record into (ap (λ (t : Outcome). t.number) (load_accepts r sound_record))
      (ap (λ (s : Record). place the_record s w) (load_save r sound_record))
  good-back the_image space outcome into same =
      let words = gives image_digits w.image into is_image_length (eq-eqb (length into) 4096 same) (same ∙ sym g.image_size) in
      let size : length (read_into the_image (file_text image_digits w.image) into) ≡ image_words = ap length words ∙ length-map w.image (λ word. word % 2 ^ 48) ∙ g.image_size in
      record {
        read_it = read_back image_digits w.image is_image_length (length into) (eq-eqb (length into) 4096 same) (same ∙ sym g.image_size);
        good = record { image_size = size; sound = g.sound; sized = g.sized; fits = g.fits };
        state = refl;
        image = ap low48 words ∙ same-image_returns w.image;
      }
  good-back the_data space outcome into same =
      let m = w.state.memory in
      let size = same ∙ sym g.sized.memory_size in
      returns_same the_data into (read_back word_digits m is_data_length (length into) (eq-eqb (length into) 4096 same) size)
      (ap (λ (l : List ℕ). place the_data l w) (gives word_digits m into is_data_length (eq-eqb (length into) 4096 same) size ∙ below_mod (2 ^ 32) m g.fits.memory))
  good-back the_frame space outcome into same =
      let m = w.state.frame in
      let size = same ∙ sym g.sized.frame_size in
      returns_same the_frame into (read_back frame_digits m is_frame_length (length into) (eq-eqb (length into) 65536 same) size)
      (ap (λ (l : List ℕ). place the_frame l w) (gives frame_digits m into is_frame_length (eq-eqb (length into) 65536 same) size ∙ below_mod (2 ^ 8) m g.fits.frame))
  good-back (the_sectors first sectors) space outcome into same =
      let disk = w.state.disk in
      let right = written-right (is_disk_part (length disk) first sectors) _ (length space) outcome in
      let m = sectors_of disk first sectors in
      let size = same ∙ sym (length_sectors disk first sectors right) in
      let words = gives word_digits m into is_part_length (is-part disk first sectors right (length into) same) size ∙ below_mod (2 ^ 32) m (below_part (2 ^ 32) (sector_words * sectors) (sector_words * first) disk g.fits.disk) in
      returns_same (the_sectors first sectors) into (read_back word_digits m is_part_length (length into) (is-part disk first sectors right (length into) same) size)
      (ap (λ (l : List ℕ). place (the_sectors first sectors) l w) words ∙ ap (λ (d : List ℕ). with_state w (with_disk d w.state)) (part_in_place disk first sectors right))

-- What a writer that accepts leaves in its space: the text, and beyond it what was there. A half that is refused changes nothing.
file_written : (is_right : Bool) (file space : List ℕ) → (file_writes is_right file (length space)).number ≡ 0
    → wrote_file (file_writes is_right file (length space)) file space ≡ file ++ drop (length file) space
unfolding file_writes
file_written is_right file space e =
    let right = first_yes 1 0 is_right _ (omega arith) e in
    let fits = first_yes 15 0 (leb (length file) (length space)) _ (omega arith) right.1 in
    rw (right.0, fits.0) (put_front space file (leb-true (length file) (length space) fits.0))

record_written : (r : Record) (space : List ℕ) → (save_outcome r space).number ≡ 0 → save_bytes r space ≡ saved_bytes r ++ drop (length (saved_bytes r)) space
record_written r space e =
    let long = eqb-true (length space) record_bytes (first_yes 1 0 (eqb (length space) record_bytes) _ (omega arith) e).0 in
    rw (eq-eqb _ 0 e, length-saved r, drop_of_length-le space {i = record_bytes} (omega arith)) (sym (append-nil (saved_bytes r)))

written : (k : Kind) (out : Carried k) (space : List ℕ) → (write_outcome k out space).number ≡ 0
    → wrote_into k out space ≡ text_of k out ++ drop (length (text_of k out)) space
written the_record r space e = record_written r space e
written the_image image space e = file_written (is_image_length (length image)) (text_of the_image image) space e
written the_data memory space e = file_written (is_data_length (length memory)) (text_of the_data memory) space e
written the_frame frame space e = file_written (is_frame_length (length frame)) (text_of the_frame frame) space e
written (the_sectors first sectors) disk space e =
    file_written (is_disk_part (length disk) first sectors) (text_of (the_sectors first sectors) disk) space e

unwritten : (k : Kind) (out : Carried k) (space : List ℕ) → ((write_outcome k out space).number ≡ 0 → ⊥) → wrote_into k out space ≡ space
unwritten the_record r space h = rw (ne_eqb _ 0 h)
unwritten the_image image space h = rw (ne_eqb _ 0 h)
unwritten the_data memory space h = rw (ne_eqb _ 0 h)
unwritten the_frame frame space h = rw (ne_eqb _ 0 h)
unwritten (the_sectors first sectors) disk space h = rw (ne_eqb _ 0 h)

unread : (k : Kind) (text : List ℕ) (into : Carried k) → ((read_outcome k text into).number ≡ 0 → ⊥) → read_into k text into ≡ refused_into k into
unread the_record bytes r h = rw (ne_eqb _ 0 h)
unread the_image text image h = rw (ne_eqb _ 0 h)
unread the_data text memory h = rw (ne_eqb _ 0 h)
unread the_frame text frame h = rw (ne_eqb _ 0 h)
unread (the_sectors first sectors) text words h = rw (ne_eqb _ 0 h)

-- ---- the disk

module _ (irq2 : List ℕ) (w : Standing) (g : Good w) where
  machine-sound : SoundMachine (2 ^ 40) w.state
  machine-sound = record { record_is = g.sound }

  falls-one : (n : ℕ) → w.state.core.drive.left ≡ suc n → (cycled lab irq2 w).state.core.drive.left ≡ n
  falls-one n e =
      let one : suc n - 1 ≡ n = omega arith in
      left-falls (2 ^ 40) (low48 w.image) (is_in w.state.core.age irq2) w.state machine-sound (rw e (omega arith)) ∙ ap (λ (l : ℕ). l - 1) e ∙ one

busy-then : (w : Standing) → Good w → (n : ℕ) → w.state.core.drive.left ≡ suc n → not (is_free w.state.io) ≡ true
busy-then w g n e =
    let one = (g.sound.disk.busy (rw e (omega arith))).0 in
    rw one

free-then : (w : Standing) → Good w → w.state.core.drive.left ≡ 0 → not (is_free w.state.io) ≡ false
free-then w g e = rw (g.sound.disk.free e).0

-- ---- all of them

-- What the machine reads, of an image's low 48 bits.
abbrev code_from : List ℕ → List ℕ → Code
code_from image irq2 = record { image = image; irq2 = irq2 }

pub laws : Laws lab
laws =
    record {
      Good = Good;
      fresh = good-fresh;
      kept = good-kept;
      numbered = λ irq2 w. (λ e. absurd (omega arith), (λ e. absurd (omega arith), (λ e. absurd (omega arith), tt)));
      alike = λ irq2 v w g h. outcome-right v g irq2 ∙ sym (outcome-right w h irq2);
      room = good-room;
      back = λ w g k space outcome into same.
          let r = good-back w g k space outcome into same in
          (r.read_it, r.good, r.state, λ irq2. ap (λ (image : List ℕ). code_from image irq2) r.image);
      written = written;
      unwritten = unwritten;
      unread = unread;
      left = λ m. m.core.drive.left;
      taken = λ irq2 w g h. ap (λ (d : Drive). d.left) (drive-accepted (2 ^ 40) (low48 w.image) (is_in w.state.core.age irq2) w.state (machine-sound irq2 w g) h);
      falls = falls-one;
      busy = busy-then;
      free = free-then;
    }

-- So a call keeps what stands good.
pub good-after : (irq2 : List ℕ) (w : Standing) → Good w → (c : Call lab) → Good (standing lab w c (call lab irq2 w c))
unfolding laws
good-after irq2 w good c = call-good lab laws irq2 w good c
