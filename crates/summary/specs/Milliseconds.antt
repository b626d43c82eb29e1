-- Cycles as time, and what rounding means.
use Rattle.std.specs.Prelude.{ℕ, ◌+◌, ◌-◌, ◌*◌, ◌/◌, ◌≤◌, ◌≡◌}

-- "milliseconds = age×125/128 rounded to nearest, halves up" (1,024 cycles a second)
unfoldable pub milliseconds : ℕ → ℕ
milliseconds age = (age * 125 + 64) / 128

-- How far apart two numbers are.
abbrev pub apart : ℕ → ℕ → ℕ
apart x y = (x - y) + (y - x)

-- m is x / d "rounded to nearest, halves up": no number is nearer, and none above m is as near (`milliseconds_rounded`).
pub record Rounded (x d m : ℕ) : Type 0 where
  pub nearest : (n : ℕ) → apart x (d * m) ≤ apart x (d * n)
  pub up : (n : ℕ) → apart x (d * n) ≡ apart x (d * m) → n ≤ m
