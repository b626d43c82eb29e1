-- The definitions computed on small widths.
use Rattle.std.specs.Prelude.{ℕ, ◌≡◌, refl, true, false, List, [], ◌∷◌, map}
use Rattle.std.proofs.Common.{arith}
use Rattle.bitpack.specs.Bits.{bits}
use Rattle.bitpack.specs.Packed.{packed, unpacked, fit, bytes_of, number_of}
use Rattle.bitpack.specs.Words.{word_of}
use Rattle.bitpack.specs.Needs.{Completes}

-- 1, 35, nothing, 0x456 and 7 in 1, 7, 0, 12 and 4 bits are the bytes A3 45 67, and come back.
three-bytes : bytes_of 3 (packed (1 ∷ 7 ∷ 0 ∷ 12 ∷ 4 ∷ []) (1 ∷ 0x23 ∷ 0 ∷ 0x456 ∷ 7 ∷ [])) ≡ 0xA3 ∷ 0x45 ∷ 0x67 ∷ []
unfolding bytes_of bits
three-bytes = refl

five_values : unpacked (1 ∷ 7 ∷ 0 ∷ 12 ∷ 4 ∷ []) (number_of (0xA3 ∷ 0x45 ∷ 0x67 ∷ [])) ≡ 1 ∷ 0x23 ∷ 0 ∷ 0x456 ∷ 7 ∷ []
unfolding number_of bits
five_values = refl

-- 0x55, 0x123456789A, 0x1CAFEBABE and 0x0F1E2D3C in 7, 40, 33 and 32 bits are three words and two bytes. Their bits were written one after the
-- other and cut by hand; the second value ends the first word and the third the second, the fourth stands in the last word and in the bytes left over.
some_widths : List ℕ
some_widths = 7 ∷ 40 ∷ 33 ∷ 32 ∷ []

some_values : List ℕ
some_values = 0x55 ∷ 0x123456789A ∷ 0x1CAFEBABE ∷ 0x0F1E2D3C ∷ []

three-words : map (word_of some_widths some_values) (0 ∷ 1 ∷ 2 ∷ []) ≡ 0xAA2468AC ∷ 0xF135CAFE ∷ 0xBABE0F1E ∷ []
unfolding some_widths some_values word_of bits
three-words = refl

their_bytes : bytes_of 14 (packed some_widths some_values)
    ≡ 0xAA ∷ 0x24 ∷ 0x68 ∷ 0xAC ∷ 0xF1 ∷ 0x35 ∷ 0xCA ∷ 0xFE ∷ 0xBA ∷ 0xBE ∷ 0x0F ∷ 0x1E ∷ 0x2D ∷ 0x3C ∷ []
unfolding some_widths some_values bytes_of bits
their_bytes = refl

-- In 25, 40 and 31 bits the second value ends the first word and the second: with the bits before it, it has 65.
two_at_once : map (word_of (25 ∷ 40 ∷ 31 ∷ []) (0x1ABCDEF ∷ 0xFEDCBA9876 ∷ 0x12345678 ∷ [])) (0 ∷ 1 ∷ 2 ∷ []) ≡ 0xD5E6F7FF ∷ 0x6E5D4C3B ∷ 0x12345678 ∷ []
unfolding word_of bits
two_at_once = refl

-- What the making of a word asks can be met: the second value completes the first word, after which 33 of its bits come, and the second, after which 1
-- comes. What is held above the first value's 25 bits does not count, and for the second word nothing that is held does.
completes_both : Completes (25 ∷ 40 ∷ 31 ∷ []) (0x1ABCDEF ∷ 0xFEDCBA9876 ∷ 0x12345678 ∷ []) 1 0xF9ABCDEF 33
    × Completes (25 ∷ 40 ∷ 31 ∷ []) (0x1ABCDEF ∷ 0xFEDCBA9876 ∷ 0x12345678 ∷ []) 1 0xF9ABCDEF 1
unfolding bits
completes_both = (
  record { fitting = refl; small = refl; there = omega arith; within = omega arith; above = refl },
  record { fitting = refl; small = refl; there = omega arith; within = omega arith; above = refl },
)

-- Nothing but 0 fits no bits, and there are as many values as widths.
no_bits : fit (0 ∷ []) (1 ∷ []) ≡ false
no_bits = refl

one_missing : fit (1 ∷ 7 ∷ []) (1 ∷ []) ≡ false
one_missing = refl

one_too_large : fit (7 ∷ []) (128 ∷ []) ≡ false
one_too_large = refl

one_too_many : fit [] (0 ∷ []) ≡ false
one_too_many = refl

all_ones : fit (1 ∷ 7 ∷ []) (1 ∷ 127 ∷ []) ≡ true
all_ones = refl
