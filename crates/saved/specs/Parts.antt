-- What the record of fields asks of them.
use Rattle.std.specs.Prelude.{ℕ, ◌+◌, ◌^◌, ◌≤◌, ◌<◌, List, length, get_or}

-- The fields have the registers from place n on, behind the scalars, and all but the age have at most 32 bits.
pub record HasRecord (n : ℕ) (f : List ℕ) : Type 0 where
  pub behind : 5 ≤ n
  pub room : n + 36 ≤ length f
  pub status : get_or f 1 0 < 2 ^ 32
  pub handler : get_or f 2 0 < 2 ^ 32
  pub pc : get_or f 3 0 < 2 ^ 32
  pub registers : (k : ℕ) → get_or f (n + k) 0 < 2 ^ 32
