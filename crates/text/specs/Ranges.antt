-- Numbers below a limit.
use Rattle.std.specs.Prelude.{ℕ, ◌<◌, List, get_or}

-- Each number of the list is below the limit, as in every slice whose words have so many bits.
abbrev pub Below : ℕ → List ℕ → Type 0
Below limit l = (n : ℕ) → get_or l n 0 < limit
