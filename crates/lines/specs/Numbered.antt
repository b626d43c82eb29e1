-- Names looked up among all that instructions are made of (for the code).
use Rattle.std.specs.Prelude.{ℕ, ◌<◌, ◌≡◌, true, false, Option, Some, None, List, ◌++◌, length}
use Rattle.isa.specs.Operations.{operation_names}
use Rattle.isa.specs.Registers.{register_names}
use Rattle.source.specs.Lookup.{is_among, place_of}

abbrev pub operation_count : ℕ
operation_count = 22

abbrev pub name_count : ℕ
name_count = 38

-- The operations, then the registers.
unfoldable pub all_names : List (List ℕ)
all_names = operation_names ++ register_names

-- A name is one of these, and n is its number.
pub record IsNumber (ns : List (List ℕ)) (t : List ℕ) (n : ℕ) : Type 0 where
  pub among : is_among ns t ≡ true
  pub is : n ≡ place_of ns t
  pub below : n < length ns

-- A name was looked up among these: its number, if it is one of them.
abbrev pub LookedUp : (ns : List (List ℕ)) (t : List ℕ) → Option ℕ → Type 0
LookedUp ns t None = is_among ns t ≡ false
LookedUp ns t (Some n) = IsNumber ns t n
