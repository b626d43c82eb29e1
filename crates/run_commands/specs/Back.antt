-- Memories, record and log written back.
use Rattle.std.specs.Prelude.{ℕ, ◌≡◌, Bool, true, false, not, ◌&&◌, List, length, Option}
use Rattle.console.specs.declared.Writing.{Writing}
use Rattle.console.specs.Writings.{is_no_file}
use Rattle.files.specs.Sizes.{is_data_length, is_disk_length, is_frame_length}
use Rattle.machine.specs.declared.Record.{Record}
use Rattle.saved.specs.Sound.{is_sound}

-- Of five files none is one that can't be written.
abbrev pub are_written : (a b c d e : Option Writing) → Bool
are_written a b c d e = not (is_no_file a) && not (is_no_file b) && not (is_no_file c) && not (is_no_file d) && not (is_no_file e)

-- What must hold of all that is written back: the log was written, the record is sound, the memories have their lengths.
pub record CanBeBack (log : Option Writing) (state : Record) (memory disk frame : List ℕ) : Type 0 where
  pub log-whole : is_no_file log ≡ false
  pub sound : is_sound state ≡ true
  pub data_length : is_data_length (length memory) ≡ true
  pub disk-length : is_disk_length (length disk) ≡ true
  pub frame-length : is_frame_length (length frame) ≡ true
