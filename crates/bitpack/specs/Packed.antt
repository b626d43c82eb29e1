-- Values of given widths, "bit-packed, most significant first": the first value in the highest bits of one number.
use Rattle.std.specs.Prelude.{ℕ, ◌+◌, ◌*◌, ◌^◌, Bool, true, false, ◌&&◌, List, [], ◌∷◌, ltb, length, replicate}
use Rattle.bitpack.specs.Bits.{bits}

-- How many bits widths have together.
abbrev pub total : List ℕ → ℕ
total [] = 0
total (w ∷ ws) = w + total ws

-- The number of values, the first in the highest bits.
abbrev pub packed : List ℕ → List ℕ → ℕ
packed [] vs = 0
packed (w ∷ ws) [] = 0
packed (w ∷ ws) (v ∷ vs) = v * 2 ^ total ws + packed ws vs

-- The values that a number packs, in the order of their widths.
abbrev pub unpacked : List ℕ → ℕ → List ℕ
unpacked [] n = []
unpacked (w ∷ ws) n = bits n (total ws) w ∷ unpacked ws n

-- As many values as widths, and each fits its width. A width may be 0: its value is 0.
abbrev pub fit : List ℕ → List ℕ → Bool
fit [] [] = true
fit [] (v ∷ vs) = false
fit (w ∷ ws) [] = false
fit (w ∷ ws) (v ∷ vs) = ltb v (2 ^ w) && fit ws vs

-- Bytes are values of eight bits each.
unfoldable pub bytes_of : ℕ → ℕ → List ℕ
bytes_of k n = unpacked (replicate k 8) n

unfoldable pub number_of : List ℕ → ℕ
number_of bs = packed (replicate (length bs) 8) bs
