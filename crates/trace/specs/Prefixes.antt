-- The prefix of the lines H, L and D (for the code): numbers that hold it. All but its last two characters are the same for up to a hundred cycles.
use Rattle.std.specs.Prelude.{ℕ, ◌+◌, ◌-◌, ◌*◌, ◌/◌, ◌%◌, ◌^◌, ◌≤◌, ◌<◌, ◌≡◌, List, ◌∷◌, ◌++◌, take}
use Rattle.text.specs.Numerals.{digit, digit_count, decimal, low_bytes}
use Rattle.trace.specs.LogLines.{field}

-- What such a line begins with: its letter, and the field of its cycle.
abbrev pub cycle_prefix : ℕ → ℕ → List ℕ
cycle_prefix letter c = letter ∷ field (decimal c)

-- The two decimal digits of a number below 100, the first of them lowered: by 16 a 0 becomes a blank.
abbrev pub last_two : ℕ → ℕ → List ℕ
last_two n lowered = low_bytes 2 (digit (n / 10) + digit (n % 10) * 256 - lowered)

-- The numbers give the prefix of cycle c: `count` bytes that are held, the letter added to the lowest, and the last two characters, by what c is above `base`.
pub record GivesPrefix (base lowered count held more c : ℕ) : Type 0 where
  pub above : base ≤ c
  pub near : c < base + 100
  pub slight : lowered ≤ 16
  pub counted : count ≡ digit_count 10 c
  pub few : count ≤ 13
  pub room : held + 256 ≤ 2 ^ 64
  pub front : (letter : ℕ) → letter < 256 → take count (low_bytes 8 (held + letter) ++ low_bytes 8 more) ++ last_two (c - base) lowered ≡ cycle_prefix letter c

-- They give it for each cycle from the first one to the one before `until`.
abbrev pub GivesEach : (first until base lowered count held more : ℕ) → Type 0
GivesEach first until base lowered count held more = (c : ℕ) → first ≤ c → c < until → GivesPrefix base lowered count held more c
