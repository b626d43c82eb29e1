-- The instruction word: "An instruction, high bits first: opcode 8, rd 4, rs 4, rt 4, rm 4, imm1 12, imm2 12."
use Rattle.std.specs.Prelude.{ℕ, ◌+◌, ◌-◌, ◌*◌, ◌/◌, ◌%◌, ◌^◌, ◌<◌, cond, nat_lt}
use Rattle.isa.specs.declared.Fields.{Fields}

-- The fields of a word. Bits above 47 are not read.
abbrev pub fields_of : ℕ → Fields
fields_of w =
    record {
      op = w / 2 ^ 40 % 2 ^ 8;
      rd = w / 2 ^ 36 % 2 ^ 4;
      rs = w / 2 ^ 32 % 2 ^ 4;
      rt = w / 2 ^ 28 % 2 ^ 4;
      rm = w / 2 ^ 24 % 2 ^ 4;
      imm1 = w / 2 ^ 12 % 2 ^ 12;
      imm2 = w % 2 ^ 12;
    }

-- Each field fits its bits.
pub record Fitting (f : Fields) : Type 0 where
  pub op : f.op < 2 ^ 8
  pub rd : f.rd < 2 ^ 4
  pub rs : f.rs < 2 ^ 4
  pub rt : f.rt < 2 ^ 4
  pub rm : f.rm < 2 ^ 4
  pub imm1 : f.imm1 < 2 ^ 12
  pub imm2 : f.imm2 < 2 ^ 12

-- The word of fields that fit.
abbrev pub word_of : Fields → ℕ
word_of f = f.op * 2 ^ 40 + f.rd * 2 ^ 36 + f.rs * 2 ^ 32 + f.rt * 2 ^ 28 + f.rm * 2 ^ 24 + f.imm1 * 2 ^ 12 + f.imm2

-- "Immediates are sign-extended": 12 bits to 32.
abbrev pub sign_extended : ℕ → ℕ
sign_extended i = cond (nat_lt i (2 ^ 11)) i (2 ^ 32 - 2 ^ 12 + i)
