-- A record of Intel HEX: a line of `:` and pairs of hexadecimal digits, each pair a byte. The bytes are the count of data bytes, the address (two
-- bytes, the high one first), the type, the data bytes and the checksum.
use Rattle.std.specs.Prelude.{ℕ, ◌+◌, ◌-◌, ◌*◌, ◌%◌, Bool, ◌&&◌, List, [], ◌∷◌, eqb, length, get_or, take, drop}
use Prim.Native.Char.{code}
use Rattle.text.specs.Numerals.{digit_value, all_digits}

-- ---- its bytes

-- The byte that two digits stand for.
abbrev pub pair_byte : ℕ → ℕ → ℕ
pair_byte c d = digit_value c * 16 + digit_value d

-- The bytes that pairs of digits stand for, "digits of either case".
unfoldable pub pair_values : List ℕ → List ℕ
pair_values [] = []
pair_values (c ∷ []) = []
pair_values (c ∷ d ∷ cs) = pair_byte c d ∷ pair_values cs

-- The bytes of the record that a line is.
abbrev pub line_bytes : List ℕ → List ℕ
line_bytes l = pair_values (drop 1 l)

-- The sum of bytes.
unfoldable pub total : List ℕ → ℕ
total [] = 0
total (b ∷ bs) = b + total bs

-- ---- what the bytes b of a record say

-- How many data bytes it has, ..
abbrev pub data_count : List ℕ → ℕ
data_count b = get_or b 0 0

-- .. the address of the first of them, ..
abbrev pub address : List ℕ → ℕ
address b = get_or b 1 0 * 256 + get_or b 2 0

-- .. its type: 0 is data, 1 the end; ..
abbrev pub kind : List ℕ → ℕ
kind b = get_or b 3 0

-- .. and the data bytes.
abbrev pub data_bytes : List ℕ → List ℕ
data_bytes b = take (data_count b) (drop 4 b)

-- ---- a line that is a record

-- Its form: `:`, then two digits for the count, four for the address, two for the type, two for each data byte and two for the checksum.
abbrev pub has_form : List ℕ → Bool
has_form l = eqb (get_or l 0 0) (code ":") && eqb (length l) (2 * data_count (line_bytes l) + 11)

-- After the `:` it has digits alone.
abbrev pub has_digits : List ℕ → Bool
has_digits l = all_digits 16 (drop 1 l)

-- The checksum of bytes makes the sum of all a multiple of 256: asked of a line, ..
abbrev pub has_checksum : List ℕ → Bool
has_checksum l = eqb (total (line_bytes l) % 256) 0

-- .. and the byte that does so after these (`WrittenLaws.sum_zero`).
abbrev pub checksum : List ℕ → ℕ
checksum bs = (256 - total bs % 256) % 256

-- The line has none of "a wrong form, digit or checksum".
unfoldable pub is_record : List ℕ → Bool
is_record l = has_form l && (has_digits l && has_checksum l)
