-- The words of a program: those up to the last that is not zero in its low 48 bits; "bits above 47 are not read".
use Rattle.std.specs.Prelude.{ℕ, suc, ◌%◌, ◌^◌, ◌≤◌, ◌<◌, ◌≡◌, List, length, get_or}

-- The low 48 bits of word i are zero.
abbrev pub IsZero : List ℕ → ℕ → Type 0
IsZero words i = get_or words i 0 % 2 ^ 48 ≡ 0

-- So many words are used: the last of them is not zero, and all after it are.
pub record Used (words : List ℕ) (n : ℕ) : Type 0 where
  pub within : n ≤ length words
  pub last : (k : ℕ) → n ≡ suc k → IsZero words k → ⊥
  pub rest : (i : ℕ) → n ≤ i → i < length words → IsZero words i
