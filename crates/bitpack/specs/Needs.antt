-- What packing, unpacking and the making of a word ask of a list of widths.
use Rattle.std.specs.Prelude.{ℕ, ◌-◌, ◌*◌, ◌%◌, ◌^◌, ◌≤◌, ◌<◌, ◌≡◌, Bool, true, ◌&&◌, List, [], ◌∷◌, leb, length, get_or, drop}
use Rattle.bitpack.specs.Bits.{bits}
use Rattle.bitpack.specs.Packed.{total, packed, fit}

-- Every width is at most `most` bits.
abbrev pub narrow : ℕ → List ℕ → Bool
narrow most [] = true
narrow most (w ∷ ws) = leb w most && narrow most ws

-- "fields of 1 to 40 bits": the most that a width may be.
abbrev pub most_bits : ℕ
most_bits = 40

-- Values that fit their widths, which fill k bytes.
pub record Packs (ws vs : List ℕ) (k : ℕ) : Type 0 where
  pub fitting : fit ws vs ≡ true
  pub whole : total ws ≡ 8 * k
  pub small : narrow most_bits ws ≡ true

-- Widths that fill k bytes, and a place for the value of each.
pub record Unpacks (ws : List ℕ) (k places : ℕ) : Type 0 where
  pub room : places ≡ length ws
  pub whole : total ws ≡ 8 * k
  pub small : narrow most_bits ws ≡ true

-- Value i completes a word: `last` of its bits come after the word, and the others are the word's lowest bits (the lowest 32 of them, where they are
-- more). The bits of the word above those, if any, stand before value i; they are the lowest bits of `held`.
pub record Completes (ws vs : List ℕ) (i held last : ℕ) : Type 0 where
  pub fitting : fit ws vs ≡ true
  pub small : narrow most_bits ws ≡ true
  pub there : i < length ws
  pub within : last ≤ get_or ws i 0
  pub above : held % 2 ^ (32 - (get_or ws i 0 - last)) ≡ bits (packed ws vs) (total (drop i ws)) (32 - (get_or ws i 0 - last))
