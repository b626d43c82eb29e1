-- What reading a file promises.
use Rattle.std.specs.Prelude.{ℕ, ◌≡◌, List, Option, Some, None, Result, Ok, Err}
use Rattle.console.specs.Counts.{IsPrefixLen}
use Rattle.console.specs.declared.NotRead.{NotRead}

-- A count of bytes lies within the buffer.
abbrev pub GotIn : Result ℕ NotRead → List ℕ → Type 0
GotIn (Ok n) buffer = IsPrefixLen n buffer
GotIn (Err _) buffer = Unit

-- A count of bytes is n.
abbrev pub EndOf : ℕ → Option ℕ → Type 0
EndOf n (Some k) = k ≡ n
EndOf n None = Unit
