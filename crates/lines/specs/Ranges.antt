-- The ranges of numbers, and what is stored of them.
use Rattle.std.specs.Prelude.{ℕ, ◌-◌, ◌%◌, Bool, true, Option, Some, None, leb}
use Rattle.source.specs.declared.Number.{Number}
use Rattle.source.specs.declared.Number.TheVariants.{Decimal, Minus, Unsigned}

-- A number is at least -below; a decimal is at most `decimal`, a number of another form at most `other`. Of a token that is no number this isn't asked.
-- Document 02 (i): 0b "with the same ranges", those of 0x.
abbrev pub is_within : (below decimal other : ℕ) → Option Number → Bool
is_within below decimal other (Some (Decimal v)) = leb v decimal
is_within below decimal other (Some (Minus v)) = leb v below
is_within below decimal other (Some (Unsigned v)) = leb v other
is_within below decimal other None = true

-- "Immediates run from -2048 to 4095". Document 02 (iv): "A decimal immediate from 2048 to 4095 is now refused .. Hexadecimal, binary and labels keep
-- the wider range."
abbrev pub is_immediate : Option Number → Bool
is_immediate n = is_within 2048 2047 4095 n

-- ".word addresses 0 to 4095"
abbrev pub is_address : Option Number → Bool
is_address n = is_within 0 4095 4095 n

-- "data -2^31 to 2^32-1"
abbrev pub is_data : Option Number → Bool
is_data n = is_within 0x80000000 0xFFFFFFFF 0xFFFFFFFF n

-- "stored modulo 4096": a number modulo m.
abbrev pub modulo : (m : ℕ) → Option Number → ℕ
modulo m (Some (Decimal v)) = v % m
modulo m (Some (Minus v)) = (m - v % m) % m
modulo m (Some (Unsigned v)) = v % m
modulo m None = 0
