-- The lines of the log. "Lines end in LF, hex in capitals, one space between fields .. The letter stands first."
use Rattle.std.specs.Prelude.{ℕ, List, [], ◌∷◌, ◌++◌}
use Rattle.text.specs.Bytes.{bytes}
use Rattle.text.specs.Numerals.{digits, decimal}
use Rattle.text.specs.Lines.{LF}
use Rattle.isa.specs.Registers.{io_name}
use Rattle.isa.specs.declared.Access.{Access}
use Rattle.isa.specs.declared.Access.TheVariants.{Read, Write}

-- A space and a field.
abbrev pub field : List ℕ → List ℕ
field x = bytes " " ++ x

-- A space and eight hexadecimal digits for each register.
unfoldable pub register_fields : List ℕ → List ℕ
register_fields [] = []
register_fields (r ∷ rs) = field (digits 16 8 r) ++ register_fields rs

-- "T: PC (3 digits), word (12), R0 to R15 (8 each) before execution." Of the word its low 48 bits: 12 digits.
unfoldable pub line_t : ℕ → ℕ → List ℕ → List ℕ
line_t pc word rs = bytes "T" ++ field (digits 16 3 pc) ++ field (digits 16 12 word) ++ register_fields rs ++ (LF ∷ [])

-- "H: cycle c in decimal, READ or WRITE, register name, value read or R[rm] (8)."
unfoldable pub line_h : ℕ → List ℕ → ℕ → ℕ → List ℕ
line_h c access n x = bytes "H" ++ field (decimal c) ++ field access ++ field (io_name n) ++ field (digits 16 8 x) ++ (LF ∷ [])

-- "READ or WRITE"
abbrev pub access_name : Access → List ℕ
access_name Read = bytes "READ"
access_name Write = bytes "WRITE"

-- "L and D: cycle, new value (8)."
unfoldable pub line_ld : List ℕ → ℕ → ℕ → List ℕ
line_ld letter c x = letter ++ field (decimal c) ++ field (digits 16 8 x) ++ (LF ∷ [])

-- ---- a T line in two parts (for the code: `line_t_is`)

-- Its front: the letter, PC, the word, R0 and the immediates, R1 and R2.
unfoldable pub front_t : ℕ → ℕ → ℕ → ℕ → List ℕ
front_t pc word imm1 imm2 =
    bytes "T" ++ field (digits 16 3 pc) ++ field (digits 16 12 word)
    ++ (field (digits 16 8 0) ++ field (digits 16 8 imm1) ++ field (digits 16 8 imm2))

-- Its end, the text of R3 to R15.
unfoldable pub registers_text : List ℕ → List ℕ
registers_text rs = register_fields rs ++ (LF ∷ [])
