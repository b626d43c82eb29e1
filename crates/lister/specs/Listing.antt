-- "The lister writes each word as such a line with one blank after the op and each comma, signed decimal immediates, LF."
use Rattle.std.specs.Prelude.{ℕ, ◌-◌, ◌^◌, cond, List, [], ◌∷◌, ◌++◌, map, ltb}
use Rattle.text.specs.Bytes.{bytes}
use Rattle.text.specs.Numerals.{decimal}
use Rattle.text.specs.Lines.{unlines}
use Rattle.isa.specs.Word.{fields_of}
use Rattle.isa.specs.Operations.{operation_name}
use Rattle.isa.specs.Registers.{register_name}

-- An immediate of 12 bits as a signed decimal: 0x800 to 0xFFF are negative.
unfoldable pub signed_decimal : ℕ → List ℕ
signed_decimal i = cond (ltb i (2 ^ 11)) (decimal i) (bytes "-" ++ decimal (2 ^ 12 - i))

-- Texts with a comma and a blank between them.
unfoldable pub separated : List (List ℕ) → List ℕ
separated [] = []
separated (t ∷ []) = t
separated (t ∷ u ∷ ts) = t ++ (bytes ", " ++ separated (u ∷ ts))

-- The operands of a word: rd, rs, rt, rm, imm1, imm2.
abbrev pub operand_texts : ℕ → List (List ℕ)
operand_texts w =
    register_name (fields_of w).rd
    ∷ register_name (fields_of w).rs
    ∷ register_name (fields_of w).rt
    ∷ register_name (fields_of w).rm
    ∷ signed_decimal (fields_of w).imm1
    ∷ signed_decimal (fields_of w).imm2
    ∷ []

-- The line of a word, without its LF.
unfoldable pub listed_line : ℕ → List ℕ
listed_line w = operation_name (fields_of w).op ++ (bytes " " ++ separated (operand_texts w))

-- The text of words.
unfoldable pub listing : List ℕ → List ℕ
listing words = unlines (map listed_line words)
