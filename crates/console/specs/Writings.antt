-- Files that are being written. What the operating system answers can't be named: these say what holds whatever it answers.
use Rattle.std.specs.Prelude.{◌≡◌, Bool, true, false, not, is_none, Option, Some, None, ◌⊎◌}
use Rattle.std.specs.declared.fs.File.{File}
use Rattle.console.specs.declared.Writing.{Writing}

-- The one answer for a file that can't be written.
abbrev pub no_file : Option Writing
no_file = None

-- The file can't be written: there is none that is open.
abbrev pub is_no_file : Option Writing → Bool
is_no_file w = is_none w

-- A new file beside the old one.
abbrev pub is_new : Option Writing → Bool
is_new None = false
is_new (Some w) = w.is_new

-- What stands at a path and stays there, open as this file.
unfoldable pub through : Option File → Option Writing
through None = no_file
through (Some f) = Some (record { file = f; is_new = false })

-- A file that was begun: one that can't be written is `no_file`.
abbrev pub Begun : Option Writing → Type 0
Begun w = is_no_file w ≡ true → w ≡ no_file

-- A new file beside the old one, if it can be written.
abbrev pub BegunNew : Option Writing → Type 0
BegunNew w = is_no_file w ≡ false → is_new w ≡ true

-- A file that was brought to the disk: it stays what it is, or can't be written.
abbrev pub Ended : Option Writing → Option Writing → Type 0
Ended w r = (r ≡ w) ⊎ (r ≡ no_file)

-- Whether a file is in its place: never one that can't be written, always one that can be written and is not new. Of a new file the operating system decides.
pub record Committed (w : Option Writing) (r : Bool) : Type 0 where
  pub written : r ≡ true → is_no_file w ≡ false
  pub in_place : is_new w ≡ false → r ≡ not (is_no_file w)
