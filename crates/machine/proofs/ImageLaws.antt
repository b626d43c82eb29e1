-- "bits above 47 are not read, and two images are the same .. when their low 48 bits are". Assumes nothing.
use Prim.Native.Nat.{ℕ, ◌%◌, ◌^◌}
use mathlib.Core.Path.{◌≡◌, sym, ◌∙◌, ap}
use mathlib.Core.Bool.{Bool}
use mathlib.Core.List.{List, [], ◌∷◌, ◌++◌}
use native.Mathlib.Omega.{arith}
use lib.ListN.{get_or}
use Rattle.text.specs.Bytes.{bytes}
use Rattle.text.specs.Lines.{LF}
use Rattle.text.specs.Numerals.{digits}
use Rattle.text.proofs.DigitLaws.{digits_low}
use Rattle.isa.specs.declared.Fields.{Fields}
use Rattle.isa.specs.Operations.{operation_of}
use Rattle.isa.specs.Word.{fields_of}
use Rattle.isa.proofs.WordLaws.{high_bits_not_read}
use Rattle.trace.specs.LogLines.{field, register_fields, line_t}
use Rattle.machine.specs.State.{Machine}
use Rattle.machine.specs.Execution.{fetched, registers_of, operands_of, executed, fetched_and_executed}
use Rattle.machine.specs.Cycle.{finished, at_fetch, stepped}
use Rattle.machine.specs.Log.{io_lines, lines_at_fetch}

-- The low 48 bits of the two images are the same at each place.
abbrev pub SameWords : List ℕ → List ℕ → Type 0
SameWords a b = (n : ℕ) → get_or a n 0 % 2 ^ 48 ≡ get_or b n 0 % 2 ^ 48

module _ (a b : List ℕ) (same : SameWords a b) where
  same_fields : (m : Machine) → fields_of (fetched a m) ≡ fields_of (fetched b m)
  same_fields m = sym (high_bits_not_read (fetched a m)) ∙ ap fields_of (same m.core.pc) ∙ high_bits_not_read (fetched b m)

  same_digits : (m : Machine) → digits 16 12 (fetched a m) ≡ digits 16 12 (fetched b m)
  same_digits m = sym (digits_low 16 (omega arith) 12 (fetched a m)) ∙ ap (digits 16 12) (same m.core.pc) ∙ digits_low 16 (omega arith) 12 (fetched b m)

  -- Then the lines are the same, ..
  pub same_lines : (m : Machine) → lines_at_fetch a m ≡ lines_at_fetch b m
  unfolding lines_at_fetch line_t
  same_lines m =
      ap (λ (f : Fields). line_t m.core.pc (fetched a m) (registers_of f m) ++ io_lines m.core.age (operation_of f.op) (operands_of f m) m.io) (same_fields m)
      ∙ ap (λ (d : List ℕ). bytes "T" ++ field (digits 16 3 m.core.pc) ++ field d ++ register_fields (registers_of (fields_of (fetched b m)) m) ++ (LF ∷ []) ++ io_lines m.core.age (operation_of (fields_of (fetched b m)).op) (operands_of (fields_of (fetched b m)) m) m.io) (same_digits m)

  -- .. what is executed, ..
  same_execution : (m : Machine) → fetched_and_executed a m ≡ fetched_and_executed b m
  unfolding fetched_and_executed
  same_execution m = ap (λ (f : Fields). executed (operation_of f.op) (operands_of f m) m) (same_fields m)

  -- .. and the cycle.
  pub same-cycle : (hit : Bool) (m : Machine) → stepped a hit m ≡ stepped b hit m
  unfolding stepped
  same-cycle hit m = ap (λ (s : Machine). finished m.core.drive.left s) (same_execution (at_fetch hit m))
