-- What is asked of the names and numbers of a line.
use Rattle.std.specs.Prelude.{ℕ, Bool, ◌&&◌, List}
use Rattle.isa.specs.Operations.{operation_names}
use Rattle.isa.specs.Registers.{register_names}
use Rattle.source.specs.Numbers.{number}
use Rattle.source.specs.Lookup.{is_among}
use Rattle.lines.specs.declared.Form.{Form}
use Rattle.lines.specs.Line.{part, operation, operand}
use Rattle.lines.specs.Ranges.{is_immediate, is_address, is_data}

-- "Known op and registers? 4", of an instruction on a line of this form.
unfoldable pub is_known : Form → List ℕ → Bool
is_known f line =
    is_among operation_names (operation f line)
    && is_among register_names (operand 0 f line)
    && is_among register_names (operand 1 f line)
    && is_among register_names (operand 2 f line)
    && is_among register_names (operand 3 f line)

-- "Numbers in range? 5", of an instruction, ..
unfoldable pub are_in_range : Form → List ℕ → Bool
are_in_range f line = is_immediate (number (operand 4 f line)) && is_immediate (number (operand 5 f line))

-- .. and of `.word`.
unfoldable pub is_word_in_range : List ℕ → Bool
is_word_in_range line = is_address (number (part 1 line)) && is_data (number (part 2 line))
