-- The pieces of a line that are names, and the numbers that hold them (for the code, which puts a piece in one store).
use Rattle.std.specs.Prelude.{ℕ, ◌+◌, ◌-◌, ◌*◌, ◌/◌, ◌%◌, ◌^◌, ◌≤◌, ◌<◌, ◌≡◌, cond, List, ◌++◌, ltb, length, get_or}
use Rattle.text.specs.Bytes.{bytes}
use Rattle.text.specs.Numerals.{low_bytes}
use Rattle.text.specs.Place.{put}
use Rattle.isa.specs.Operations.{operation_name}
use Rattle.isa.specs.Registers.{register_name}

-- An operation with the blank after it, and an R register with the comma and the blank after it.
abbrev pub operation_piece : ℕ → List ℕ
operation_piece n = operation_name n ++ bytes " "

abbrev pub register_piece : ℕ → List ℕ
register_piece n = register_name n ++ bytes ", "

-- Four registers.
abbrev pub register_pieces : ℕ → ℕ → ℕ → ℕ → List ℕ
register_pieces rd rs rt rm = register_piece rd ++ register_piece rs ++ register_piece rt ++ register_piece rm

-- The place of the first register's piece among all: the operations stand before it, and the blank alone for an opcode that names none.
abbrev pub first_register : ℕ
first_register = 23

unfoldable pub piece_at : ℕ → List ℕ
piece_at n = cond (ltb n first_register) (operation_piece n) (register_piece (n - first_register))

-- How many bytes a number holds: the digit in its highest byte says it. They are its lowest.
abbrev pub held_length : ℕ → ℕ
held_length v = v / 2 ^ 56 % 2 ^ 4

abbrev pub held_bytes : ℕ → List ℕ
held_bytes v = low_bytes (held_length v) v

-- Four bytes from a place on as a number, the first the lowest; and eight.
abbrev pub four_at : List ℕ → ℕ → ℕ
four_at s at = get_or s at 0 + get_or s (at + 1) 0 * 2 ^ 8 + get_or s (at + 2) 0 * 2 ^ 16 + get_or s (at + 3) 0 * 2 ^ 24

abbrev pub eight_at : List ℕ → ℕ → ℕ
eight_at s at = four_at s at + four_at s (at + 4) * 2 ^ 32

-- A table of the numbers that each eight of some bytes are.
pub record Eights (s t : List ℕ) : Type 0 where
  pub entry : (n : ℕ) → n < 39 → get_or t n 0 ≡ eight_at s (n * 8)

-- The table of all pieces.
abbrev pub NamePieces : List ℕ → Type 0
NamePieces t = (n : ℕ) → n < 39 → held_bytes (get_or t n 0) ≡ piece_at n

-- xs was put at a place of d, which is e then, and other bytes after it: with any `least` bytes or more put at `to` it is as if both were put.
abbrev pub PutWith : (least : ℕ) (d : List ℕ) (at : ℕ) (xs e : List ℕ) (to : ℕ) → Type 0
PutWith least d at xs e to = (rest : List ℕ) → least ≤ length rest → put e to rest ≡ put d at (xs ++ rest)
