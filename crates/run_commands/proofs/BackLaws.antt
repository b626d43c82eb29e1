-- Files that are written after a run. Assumes nothing.
use Prim.Native.Nat.{ℕ}
use mathlib.Core.Path.{◌≡◌, refl, sym, ◌∙◌}
use mathlib.Core.Bool.{Bool, true, false, true≢false, not, ◌&&◌}
use mathlib.Core.Logic.{⊎_elim}
use mathlib.Core.List.{List}
use lib.ListN.{length}
use Rattle.std.specs.Prelude.{Option}
use borrow.Author.Tests.{not-true}
use Rattle.text.proofs.Truth.{and_left, and_right}
use Rattle.console.specs.declared.Writing.{Writing}
use Rattle.console.specs.Writings.{is_no_file, Ended, Committed}
use Rattle.files.specs.Sizes.{is_data_length, is_disk_length, is_frame_length}
use Rattle.machine.specs.declared.Record.{Record}
use Rattle.saved.specs.Sound.{is_sound}
use Rattle.memories.specs.NewFiles.{NewWritten}
use Rattle.run_commands.specs.Back.{are_written, CanBeBack}

-- What is written is right.
pub written-right : (is_right : Bool) {w : Option Writing} → NewWritten is_right w → is_no_file w ≡ false → is_right ≡ true
written-right true new e = refl
written-right false new e = absurd (true≢false (sym (rw (new refl)) ∙ e))

-- A file that was closed and committed was open.
pub committed_open : (w : Option Writing) {v : Option Writing} {r : Bool} → Ended w v → Committed v r → r ≡ true → is_no_file w ≡ false
committed_open w ended committed e = ⊎_elim (λ same. rw (← same) (committed.written e)) (λ none. absurd (true≢false (sym (rw none) ∙ committed.written e))) ended

-- Where five files are whole, what they are written from is right.
module _ (log d k f r : Option Writing) (all : are_written log d k f r ≡ true) where
  pub can_be_back : {state : Record} {memory disk frame : List ℕ}
      → NewWritten (is_data_length (length memory)) d
      → NewWritten (is_disk_length (length disk)) k
      → NewWritten (is_frame_length (length frame)) f
      → NewWritten (is_sound state) r
      → CanBeBack log state memory disk frame
  can_be_back {state} {memory} {disk} {frame} data-written disk-written frame-written record_written =
      let a = not (is_no_file log) in
      let b = not (is_no_file d) in
      let c = not (is_no_file k) in
      let e = not (is_no_file f) in
      let four = and_left (a && b && c && e) (not (is_no_file r)) all in
      let three = and_left (a && b && c) e four in
      let two = and_left (a && b) c three in
      record {
        log-whole = not-true (is_no_file log) (and_left a b two);
        sound = written-right (is_sound state) record_written (not-true (is_no_file r) (and_right (a && b && c && e) (not (is_no_file r)) all));
        data_length = written-right (is_data_length (length memory)) data-written (not-true (is_no_file d) (and_right a b two));
        disk-length = written-right (is_disk_length (length disk)) disk-written (not-true (is_no_file k) (and_right (a && b) c three));
        frame-length = written-right (is_frame_length (length frame)) frame-written (not-true (is_no_file f) (and_right (a && b && c) e four));
      }
