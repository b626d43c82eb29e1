-- What reading a file's front promises.
use Rattle.std.specs.Prelude.{ℕ, List, Option, Some, None}
use Rattle.console.specs.Counts.{IsPrefixLen}

-- A count of bytes lies within the buffer.
abbrev pub CountIn : Option ℕ → List ℕ → Type 0
CountIn (Some n) buffer = IsPrefixLen n buffer
CountIn None buffer = Unit
