-- Intel HEX written.
use Rattle.std.specs.Prelude.{ℕ, zero, suc, ◌+◌, ◌/◌, ◌%◌, List, [], ◌∷◌, ◌++◌, length, take, drop}
use Prim.Native.Char.{code}
use Rattle.text.specs.Bytes.{bytes}
use Rattle.text.specs.Numerals.{digits}
use Rattle.text.specs.Lines.{unlines}
use Rattle.intel_hex.specs.Record.{checksum}
use Rattle.intel_hex.specs.Words.{memory_bytes}

-- Bytes "in capitals", two digits each.
unfoldable pub byte_pairs : List ℕ → List ℕ
byte_pairs [] = []
byte_pairs (b ∷ bs) = digits 16 2 b ++ byte_pairs bs

-- The line of a record whose bytes before the checksum are these.
unfoldable pub record_line : List ℕ → List ℕ
record_line bs = code ":" ∷ byte_pairs (bs ++ (checksum bs ∷ []))

-- The bytes before the checksum of a record of type 00: count, address, type, data.
abbrev pub data_record : (address : ℕ) → List ℕ → List ℕ
data_record a bs = length bs ∷ a / 256 ∷ a % 256 ∷ 0 ∷ bs

-- "records of 16 data bytes": n of them, from an address on.
unfoldable pub data_lines : ℕ → (address : ℕ) → List ℕ → List (List ℕ)
data_lines zero a bs = []
data_lines (suc n) a bs = record_line (data_record a (take 16 bs)) ∷ data_lines n (a + 16) (drop 16 bs)

abbrev pub end_line : List ℕ
end_line = bytes ":00000001FF"

-- "Write records of 16 data bytes over the whole memory in capitals, then `:00000001FF`": of a memory that such records fill within 64 KiB.
unfoldable pub hex_text : List ℕ → List ℕ
hex_text words = unlines (data_lines (length words / 4) 0 (memory_bytes words) ++ (end_line ∷ []))
