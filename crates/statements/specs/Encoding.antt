-- The word of an instruction.
use Rattle.std.specs.Prelude.{ℕ, ◌%◌, cond, List}
use Rattle.isa.specs.Operations.{operation_names}
use Rattle.isa.specs.Registers.{register_names}
use Rattle.isa.specs.Word.{word_of}
use Rattle.source.specs.Numbers.{number, is_number}
use Rattle.source.specs.Lookup.{place_of}
use Rattle.lines.specs.Line.{form_of, operation, operand}
use Rattle.lines.specs.Ranges.{modulo}
use Rattle.labels.specs.Text.{value_of}

-- "Immediates .., stored modulo 4096": a number, or a label's value.
unfoldable pub immediate : (all : List (List ℕ)) → List ℕ → ℕ
immediate all t = cond (is_number (number t)) (modulo 4096 (number t)) (value_of all t % 4096)

-- The word of an instruction.
unfoldable pub encoded : (all : List (List ℕ)) → List ℕ → ℕ
encoded all line =
    let f = form_of line in
    word_of
    (record {
      op = place_of operation_names (operation f line);
      rd = place_of register_names (operand 0 f line);
      rs = place_of register_names (operand 1 f line);
      rt = place_of register_names (operand 2 f line);
      rm = place_of register_names (operand 3 f line);
      imm1 = immediate all (operand 4 f line);
      imm2 = immediate all (operand 5 f line);
    })
