-- "Numbers: decimal of 1 to 10 digits, `-` allowed, or 0x and 1 to 8 digits of either case. A longer number or label is wrong form."
-- Document 02 (i): "A number may also be 0b and 1 to 32 binary digits, unsigned".
use Rattle.std.specs.Prelude.{ℕ, Bool, cond, ◌&&◌, Option, Some, None, is_some, List, leb, length, take, drop}
use Rattle.std.specs.Option.{option_map}
use Rattle.text.specs.Bytes.{bytes}
use Rattle.text.specs.Same.{same}
use Rattle.text.specs.Numerals.{numeral}
use Rattle.source.specs.declared.Number.{Number}
use Rattle.source.specs.declared.Prefix.{Prefix}
use Rattle.source.specs.declared.Number.TheVariants.{Decimal, Minus, Unsigned}

-- Digits of a base, 1 to `most` of them.
abbrev pub digits_up_to : (base most : ℕ) → List ℕ → Option ℕ
digits_up_to base most s = cond (leb 1 (length s) && leb (length s) most) (numeral base s) None

-- A numeral as a number that is written so.
abbrev pub written : (ℕ → Number) → Option ℕ → Option Number
written as_number n = option_map as_number n

-- "decimal of 1 to 10 digits, `-` allowed"
abbrev pub decimal_digits : ℕ
decimal_digits = 10

abbrev pub decimal_number : List ℕ → Option Number
decimal_number t =
    cond (same (take 1 t) (bytes "-")) (written Minus (digits_up_to 10 decimal_digits (drop 1 t)))
    (written Decimal (digits_up_to 10 decimal_digits t))

-- A prefix, of two bytes: the base of the digits after it, and how many there may be.
abbrev pub prefix : (base most : ℕ) → Prefix
prefix base most = record { base = base; most = most }

-- "or 0x and 1 to 8 digits of either case"; "also be 0b and 1 to 32 binary digits": the prefix of a token, if it has one.
abbrev pub prefix_of : List ℕ → Option Prefix
prefix_of t =
    cond (same (take 2 t) (bytes "0x")) (Some (prefix 16 8))
    (cond (same (take 2 t) (bytes "0b")) (Some (prefix 2 32))
    None)

-- "unsigned"
abbrev pub unsigned : Prefix → List ℕ → Option Number
unsigned p t = written Unsigned (digits_up_to p.base p.most (drop 2 t))

-- The number that a token with this prefix is, if it is one.
abbrev pub prefixed_number : Option Prefix → List ℕ → Option Number
prefixed_number None t = decimal_number t
prefixed_number (Some p) t = unsigned p t

-- The number that a token is, if it is one.
unfoldable pub number : List ℕ → Option Number
number t = prefixed_number (prefix_of t) t

abbrev pub is_number : Option Number → Bool
is_number n = is_some n
