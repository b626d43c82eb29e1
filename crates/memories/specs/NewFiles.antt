-- What writing a memory or a record as a new file promises.
use Rattle.std.specs.Prelude.{◌≡◌, Bool, false, Option}
use Rattle.console.specs.declared.Writing.{Writing}
use Rattle.console.specs.Writings.{no_file}

-- A file was begun; where its writer refuses, it is `no_file`.
abbrev pub NewWritten : Bool → Option Writing → Type 0
NewWritten is_right w = is_right ≡ false → w ≡ no_file
