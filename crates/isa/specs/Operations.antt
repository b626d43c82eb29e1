-- "Opcodes from 0: add sub mac and or xor sll sra srl beq bne blt bgt ble bge jal lw sw reti in out halt (21)."
use Rattle.std.specs.Prelude.{ℕ, ◌-◌, List, [], ◌∷◌, ◌++◌, map, slice_index_or}
use Rattle.text.specs.Bytes.{bytes}

-- What calculates R[rd] from R[rs], R[rt] and R[rm].
pub data Calculation : Type 0 where
  add sub mac and or xor sll sra srl : Calculation

-- What a branch compares R[rs] with R[rt] for.
pub data Comparison : Type 0 where
  beq bne blt bgt ble bge : Comparison

pub data Operation : Type 0 where
  calculate : Calculation → Operation
  branch : Comparison → Operation
  jal lw sw reti input output halt unknown : Operation

unfoldable pub calculations : List Calculation
calculations = add ∷ sub ∷ mac ∷ and ∷ or ∷ xor ∷ sll ∷ sra ∷ srl ∷ []

unfoldable pub comparisons : List Comparison
comparisons = beq ∷ bne ∷ blt ∷ bgt ∷ ble ∷ bge ∷ []

unfoldable pub operations : List Operation
unfolding calculations comparisons
operations = map calculate calculations ++ map branch comparisons ++ (jal ∷ lw ∷ sw ∷ reti ∷ input ∷ output ∷ halt ∷ [])

-- The operation of an opcode; above 21 there is none.
unfoldable pub operation_of : ℕ → Operation
unfolding operations
operation_of n = slice_index_or operations n unknown

-- The calculation of an opcode from 0 to 8, and the comparison of one from 9 to 14 (for the code: `calculation_at` and `comparison_at` tie them
-- to `operation_of`).
unfoldable pub calculation_of : ℕ → Calculation
unfolding calculations
calculation_of n = slice_index_or calculations n add

unfoldable pub comparison_of : ℕ → Comparison
unfolding comparisons
comparison_of n = slice_index_or comparisons (n - 9) beq

-- The names, by opcode.
unfoldable pub operation_names : List (List ℕ)
operation_names =
    bytes "add"
    ∷ bytes "sub"
    ∷ bytes "mac"
    ∷ bytes "and"
    ∷ bytes "or"
    ∷ bytes "xor"
    ∷ bytes "sll"
    ∷ bytes "sra"
    ∷ bytes "srl"
    ∷ bytes "beq"
    ∷ bytes "bne"
    ∷ bytes "blt"
    ∷ bytes "bgt"
    ∷ bytes "ble"
    ∷ bytes "bge"
    ∷ bytes "jal"
    ∷ bytes "lw"
    ∷ bytes "sw"
    ∷ bytes "reti"
    ∷ bytes "in"
    ∷ bytes "out"
    ∷ bytes "halt"
    ∷ []

unfoldable pub operation_name : ℕ → List ℕ
unfolding operation_names
operation_name n = slice_index_or operation_names n []
