-- Numerals in a base from 2 to 16, over the number of their digits.
use Rattle.std.specs.Prelude.{◌^◌, ℕ, zero, suc, ◌+◌, ◌-◌, ◌*◌, ◌/◌, ◌%◌, ◌<◌, ◌≡◌, Bool, true, cond, ◌&&◌, Option, Some, None, List, [], ◌∷◌, ◌++◌, ltb, leb, length, get_or}
use Prim.Native.Char.{Char, code}
use Rattle.text.specs.Bytes.{bytes}

-- ---- one digit

-- The byte of a digit from 0 to 15, in capitals.
abbrev pub digit : ℕ → ℕ
digit v = get_or (bytes "0123456789ABCDEF") v 0

-- The byte c stands between two characters, or is one of them.
abbrev pub is_between : Char → Char → ℕ → Bool
is_between first last c = leb (code first) c && leb c (code last)

-- What a byte is worth as a digit, letters of either case; 16 where it is no digit.
abbrev pub digit_value : ℕ → ℕ
digit_value c =
    cond (is_between "0" "9" c) (c - code "0")
    (cond (is_between "A" "F" c) (10 + (c - code "A"))
    (cond (is_between "a" "f" c) (10 + (c - code "a"))
    16))

-- ---- many digits

-- The last k digits of v in base b, the most significant first, leading zeros included.
unfoldable pub digits : ℕ → ℕ → ℕ → List ℕ
digits b zero v = []
digits b (suc k) v = digits b k (v / b) ++ (digit (v % b) ∷ [])

-- Each of these bytes is a digit of base b (2 to 16). Of no bytes at all this holds: who needs a digit asks for one.
unfoldable pub all_digits : ℕ → List ℕ → Bool
all_digits b [] = true
all_digits b (c ∷ cs) = ltb (digit_value c) b && all_digits b cs

-- The number that digits in base b stand for: each is worth its value times a power of b.
unfoldable pub value : ℕ → List ℕ → ℕ
value b [] = 0
value b (c ∷ cs) = digit_value c * b ^ length cs + value b cs

-- What reading bytes as digits of base b answers.
abbrev pub numeral : ℕ → List ℕ → Option ℕ
numeral b cs = cond (all_digits b cs) (Some (value b cs)) None

-- ---- no leading zeros

-- The count by at most f divisions; v are enough, since a number is at least the count of its digits, but for 0.
unfoldable pub digit_count_up_to : ℕ → ℕ → ℕ → ℕ
digit_count_up_to zero b v = 1
digit_count_up_to (suc f) b v = let more = suc (digit_count_up_to f b (v / b)) in cond (ltb v b) 1 more

-- How many digits v has in base b, leading zeros left out: the least count, one at least, with v < b ^ count (`count-holds`,
-- `count_least`). It divides until one digit is left.
unfoldable pub digit_count : ℕ → ℕ → ℕ
digit_count b v = digit_count_up_to v b v

-- "in decimal": v without leading zeros.
unfoldable pub decimal : ℕ → List ℕ
decimal v = digits 10 (digit_count 10 v) v

-- ---- tables of digits, filled once and lent

-- Entry c is what the byte c is worth as a digit.
abbrev pub DigitValues : List ℕ → Type 0
DigitValues t = (c : ℕ) → c < 256 → get_or t c 0 ≡ digit_value c

-- Entry n has the two hexadecimal digits of the byte n, the first of them in its low byte.
abbrev pub HexPairs : List ℕ → Type 0
HexPairs t = (n : ℕ) → n < 256 → get_or t n 0 ≡ digit (n / 16) + digit (n % 16) * 256

-- Entry 256 * i + n has the same, moved left by i pairs, for i below 4.
abbrev pub HexWords : List ℕ → Type 0
HexWords t = (i n : ℕ) → i < 4 → n < 256 → get_or t (256 * i + n) 0 ≡ (digit (n / 16) + digit (n % 16) * 256) * 65536 ^ i

-- The k low bytes of a number, the lowest first (for the code, which stores a number that holds digits: `paired-bytes` ties it to `digits`).
unfoldable pub low_bytes : ℕ → ℕ → List ℕ
low_bytes zero v = []
low_bytes (suc k) v = v % 256 ∷ low_bytes k (v / 256)
