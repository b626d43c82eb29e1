-- The most bytes and labels of a text.
use Rattle.std.specs.Prelude.{ℕ}

-- "source up to 262,144 bytes"
abbrev pub most_source : ℕ
most_source = 262144

-- "label among the first 1,024"
abbrev pub most_labels : ℕ
most_labels = 1024
