-- A run of bits of one number, counted from the low end.
use Rattle.std.specs.Prelude.{ℕ, ◌/◌, ◌%◌, ◌^◌}

-- The `len` bits of n from bit `lo` up.
unfoldable pub bits : ℕ → ℕ → ℕ → ℕ
bits n lo len = n / 2 ^ lo % 2 ^ len
