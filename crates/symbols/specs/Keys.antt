-- The key of a name: a 32-bit number made of its bytes. Names with other keys are other names.
use Rattle.std.specs.Prelude.{ℕ, ◌+◌, ◌*◌, ◌/◌, ◌%◌, ◌^◌, List, [], ◌∷◌}

-- The key of the bytes so far, made into that of those and the bytes after them.
unfoldable pub key_from : ℕ → List ℕ → ℕ
key_from key [] = key
key_from key (b ∷ s) = key_from ((key * 75 + b) % 2 ^ 32) s

-- The key of a name.
abbrev pub key_of : List ℕ → ℕ
key_of s = key_from 0 s

-- How many chains a table has, ..
abbrev pub buckets : ℕ
buckets = 4096

-- .. and the one that a name with this key is on.
abbrev pub bucket_of : ℕ → ℕ
bucket_of key = key % buckets

-- How many links to recent names a table has, ..
abbrev pub slots : ℕ
slots = 4096

-- .. and the place of the one for names with this key.
abbrev pub slot_of : ℕ → ℕ
slot_of key = key / buckets % slots
