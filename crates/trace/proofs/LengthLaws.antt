-- How long the log's lines are. Assumes nothing.
use Prim.Native.Nat.{ℕ, ◌+◌, ◌*◌}
use mathlib.Core.Path.{◌≡◌, refl}
use mathlib.Core.List.{List, [], ◌∷◌}
use native.Mathlib.Omega.{arith}
use lib.ListN.{length, length-append}
use Rattle.text.specs.Numerals.{digit_count}
use Rattle.text.proofs.DigitLaws.{length_digits}
use Rattle.text.proofs.DecimalLaws.{length-decimal}
use Rattle.isa.specs.Registers.{io_name}
use Rattle.trace.specs.LogLines.{register_fields, line_t, line_h, line_ld}

-- ---- T

-- Nine bytes a register: a space and eight digits.
pub length_fields : (rs : List ℕ) → length (register_fields rs) ≡ 9 * length rs
unfolding register_fields
length_fields [] = refl
length_fields (r ∷ rs) = simp (length-append, length_digits, length_fields rs) (omega arith)

-- The letter, PC and the word with their spaces, 18 bytes, and the LF.
pub length-T : (pc word : ℕ) (rs : List ℕ) → length (line_t pc word rs) ≡ 19 + 9 * length rs
unfolding line_t
length-T pc word rs = simp (length-append, length_digits, length_fields) (omega arith)

-- ---- H, L and D

-- The letter, four spaces, eight digits and the LF, beside the cycle, READ or WRITE and the name.
pub length-H : (c : ℕ) (access : List ℕ) (n x : ℕ) → length (line_h c access n x) ≡ 14 + digit_count 10 c + length access + length (io_name n)
unfolding line_h
length-H c access n x = simp (length-append, length_digits, length-decimal) (omega arith)

-- The letter, two spaces, eight digits and the LF, beside the cycle.
pub length-LD : (letter c x : ℕ) → length (line_ld (letter ∷ []) c x) ≡ 12 + digit_count 10 c
unfolding line_ld
length-LD letter c x = simp (length-append, length_digits, length-decimal) (omega arith)
