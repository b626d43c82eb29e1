-- Counts within a buffer. Assumes nothing.
use Prim.Native.Nat.{ℕ, ◌≤◌}
use mathlib.Core.Path.{sym}
use mathlib.Core.List.{List}
use lib.ListN.{length}
use lib.Seq.{length-take-le}
use Rattle.std.specs.Prelude.{Option, Some, None, IfSome}
use Rattle.console.specs.Counts.{IsPrefixLen}
use Rattle.console.specs.Reading.{EndOf}

-- A number that is no larger than the length.
pub within : (n : ℕ) (buffer : List ℕ) → n ≤ length buffer → IsPrefixLen n buffer
within n buffer h = (h, sym (length-take-le n buffer h))

-- What a full buffer tells.
pub end_got : (n : ℕ) (r : Option ℕ) (buffer : List ℕ) → n ≤ length buffer → EndOf n r → IfSome r (λ k. IsPrefixLen k buffer)
end_got n (Some k) buffer h e = rw e (within n buffer h)
end_got n None buffer h e = tt
