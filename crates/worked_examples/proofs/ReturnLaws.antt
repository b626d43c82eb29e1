-- Return trips made by the real functions, in each way that they can end. Assumes nothing.
use Prim.Native.Nat.{ℕ, ◌≤◌}
use mathlib.Core.Path.{◌≡◌, refl, sym, ◌∙◌, ap, subst}
use Rattle.std.proofs.Common.{Ok, Err}
use mathlib.Core.Bool.{Bool, true, false}
use mathlib.Core.List.{List}
use native.Mathlib.Omega.{arith}
use lib.Dec.{eqb, leb}
use lib.ListN.{length, take}
use borrow.Author.Tests.{eqb-false, leb-true}
use Rattle.text.specs.declared.Outcome.{Outcome}
use Rattle.text.specs.Questions.{accepted}
use Rattle.text.proofs.PutLaws.{length-put}
use Rattle.text.proofs.QuestionLaws.{first_yes}
use Rattle.files.specs.declared.FileError.{FileError}
use Rattle.files.specs.declared.WriteError.{WriteError}
use Rattle.files.specs.Sizes.{word_digits, is_disk_part}
use Rattle.files.specs.MemoryFile.{file_text, sectors_of}
use Rattle.files.specs.MemoryFile.{write_outcome as file_writes}
use Rattle.files.specs.Promises.{TextWritten}
use Rattle.files.specs.Answers.{file_refusal, write_refusal}
use Rattle.machine.specs.declared.Record.{Record}
use Rattle.saved.specs.declared.SaveError.{SaveError}
use Rattle.saved.specs.declared.LoadError.{LoadError}
use Rattle.saved.specs.Answers.{save_refusal, load_refusal}
use Rattle.saved.specs.Promises.{Saving, Loading}
use Rattle.saved.proofs.AnswerLaws.{save_refused, load_refused}
use Rattle.saved.specs.Calls.{fresh_record}
use Rattle.claim.specs.Calls.{Call, Done}
use Rattle.runner.specs.Lab.{lab, Standing}
use Rattle.runner.specs.RealCalls.{by_record, by_sectors, Made, trip_done_by}
use Rattle.worked_examples.specs.declared.RecordTrip.{RecordTrip}
use Rattle.worked_examples.specs.StopAndResume.{RecordReturns, SectorReturns, SectorPlaced}

-- A call, and what it answers and leaves in other words.
made_as : {irq2 : List ℕ} {w : Standing} {c : Call lab} {d d' : Done lab} → Made irq2 w c d → d ≡ d' → Made irq2 w c d'
made_as {irq2} {w} {c} made e = subst (λ (d : Done lab). Made irq2 w c d) e made

-- ---- the record

-- The trip that is refused.
abbrev pub refused_trip : Record → Outcome → RecordTrip
refused_trip r o = record { state = r; read = fresh_record; outcome = o }

-- A record is saved in `bytes`, which are `sent` then.
module _ (r : Record) (bytes sent : List ℕ) where
  -- It is refused, ..
  pub not_saved : (e : SaveError) → Saving r bytes (Err e) sent → (t : RecordTrip) → t ≡ refused_trip r (save_refusal e) → RecordReturns r bytes t sent
  not_saved e p t is irq2 image memory disk frame =
      made_as (trip_done_by tt (by_record (Err e) (Err LoadError.Unsound) p (λ ok. absurd (eqb-false _ 0 (save_refused e) ok))))
      (rw (is, save_refused e))

  module _ (p : Saving r bytes (Ok tt) sent) where
    -- .. or accepted, and what was saved is refused ..
    pub not_loaded : (e : LoadError) → Loading sent (Err e) → (t : RecordTrip) → t ≡ refused_trip r (load_refusal e) → RecordReturns r bytes t sent
    not_loaded e q t is irq2 image memory disk frame =
        made_as (trip_done_by tt (by_record (Ok tt) (Err e) p (λ ok. q))) (rw (is, load_refused e))

    -- .. or loaded.
    pub loaded : (read : Record) → Loading sent (Ok read) → RecordReturns r bytes (record { state = read; read = read; outcome = accepted 0 }) sent
    loaded read q irq2 image memory disk frame = trip_done_by tt (by_record (Ok tt) (Ok read) p (λ ok. q))

-- ---- a sector

write_refused : (e : WriteError) → eqb (write_refusal e).number 0 ≡ false
write_refused WriteError.WrongLength = refl
write_refused WriteError.NoRoom = refl

file_refused : (e : FileError) → eqb (file_refusal e).number 0 ≡ false
file_refused FileError.WrongLength = refl
file_refused (FileError.NoWord line) = refl
file_refused (FileError.BadDigits line) = refl

-- A writer that is accepted was asked for the right part, and the text has room.
pub has_room_lem : (is_right : Bool) (file space sent : List ℕ) (count : ℕ) → TextWritten is_right file space (Ok count) sent
    → (is_right ≡ true) × (count ≤ length sent)
unfolding file_writes
has_room_lem is_right file space sent count p =
    let whole : accepted count ≡ file_writes is_right file (length space) = p.answer in
    let accepts : (file_writes is_right file (length space)).number ≡ 0 = ap (λ (x : Outcome). x.number) (sym whole) in
    let right = first_yes 1 0 is_right _ (omega arith) accepts in
    let fits = first_yes 15 0 (leb (length file) (length space)) _ (omega arith) right.1 in
    let room = leb-true (length file) (length space) fits.0 in
    let counted : count ≡ length file = ap (λ (x : Outcome). x.count) whole ∙ rw (right.0, fits.0) in
    let held : length sent ≡ length space = ap length p.bytes ∙ rw (right.0, fits.0) (length-put space 0 file) in
    (right.0, omega (arith, counted, held, room))

-- A sector of the disk is written into `text`, which is `sent` then.
module _ (disk : List ℕ) (sector : ℕ) (text sent words : List ℕ) where
  -- It is refused, ..
  pub not_written : (e : WriteError) → TextWritten (is_disk_part (length disk) sector 1) (file_text word_digits (sectors_of disk sector 1)) text (Err e) sent
      → SectorReturns disk sector text words (write_refusal e) disk sent words
  not_written e p irq2 image r memory frame same =
      made_as (trip_done_by same (by_sectors {after = words} (Err e) (Err FileError.WrongLength) p (λ ok. absurd (eqb-false _ 0 (write_refused e) ok))))
      (rw (write_refused e))

  -- .. or accepted, and the text is read or refused.
  pub placed : (count : ℕ) → TextWritten (is_disk_part (length disk) sector 1) (file_text word_digits (sectors_of disk sector 1)) text (Ok count) sent
      → (o : Outcome) (disk' after : List ℕ) → SectorPlaced disk sector (take count sent) words o disk' after → SectorReturns disk sector text words o disk' sent after
  placed count p o disk' after (Ok tt, q, is, put_is) irq2 image r memory frame same =
      made_as (trip_done_by same (by_sectors (Ok count) (Ok tt) p (λ ok. q))) (rw (put_is, is))
  placed count p o disk' after (Err e, q, is, put_is) irq2 image r memory frame same =
      made_as (trip_done_by same (by_sectors (Ok count) (Err e) p (λ ok. q))) (rw (put_is, is, file_refused e))
