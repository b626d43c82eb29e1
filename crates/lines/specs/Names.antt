-- The names of an instruction by their numbers (for the code).
use Rattle.std.specs.Prelude.{ℕ, ◌+◌, ◌≡◌, Bool, false, ◌&&◌, Option, Some, None, List}
use Rattle.isa.specs.declared.Fields.{Fields}
use Rattle.isa.specs.Operations.{operation_names}
use Rattle.isa.specs.Registers.{register_names}
use Rattle.source.specs.Lookup.{is_among}
use Rattle.lines.specs.declared.Names.{Names}
use Rattle.lines.specs.Line.{part}
use Rattle.lines.specs.Numbered.{IsNumber}

-- The op is an operation and the others are registers, of an instruction whose op is the token `first` of a line.
abbrev pub are_known : (first : ℕ) → List ℕ → Bool
are_known first line =
    is_among operation_names (part first line)
    && is_among register_names (part (first + 1) line)
    && is_among register_names (part (first + 3) line)
    && is_among register_names (part (first + 5) line)
    && is_among register_names (part (first + 7) line)

-- The numbers of its names are these.
pub record Numbered (line : List ℕ) (first : ℕ) (n : Names) : Type 0 where
  pub op : IsNumber operation_names (part first line) n.op
  pub rd : IsNumber register_names (part (first + 1) line) n.rd
  pub rs : IsNumber register_names (part (first + 3) line) n.rs
  pub rt : IsNumber register_names (part (first + 5) line) n.rt
  pub rm : IsNumber register_names (part (first + 7) line) n.rm

-- Its names were read.
abbrev pub NamesRead : (line : List ℕ) (first : ℕ) → Option Names → Type 0
NamesRead line first None = are_known first line ≡ false
NamesRead line first (Some n) = Numbered line first n

-- The fields of an instruction with these names and immediates.
abbrev pub fields_with : Names → ℕ → ℕ → Fields
fields_with n imm1 imm2 = record { op = n.op; rd = n.rd; rs = n.rs; rt = n.rt; rm = n.rm; imm1 = imm1; imm2 = imm2 }
