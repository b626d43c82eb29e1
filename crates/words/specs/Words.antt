-- Words of 32 bits. "Arithmetic wraps at 2^32 and never traps."
use Rattle.std.specs.Prelude.{ℕ, ◌+◌, ◌-◌, ◌*◌, ◌/◌, ◌%◌, ◌^◌, Bool, not, ◌==◌, bit_and, bit_or, bit_xor, int_le, int_lt}
use Rattle.std.specs.Int.Signed.{shr_z}
use Rattle.std.specs.Int.{w32}
use Rattle.std.proofs.Common.{to_z, of_z}
use Rattle.isa.specs.Operations.{Calculation, Comparison, add, sub, mac, and, or, xor, sll, sra, srl, beq, bne, blt, bgt, ble, bge}

abbrev pub plus : ℕ → ℕ → ℕ
plus x y = (x + y) % 2 ^ 32

abbrev pub minus : ℕ → ℕ → ℕ
minus x y = (x + (2 ^ 32 - y)) % 2 ^ 32

abbrev pub times : ℕ → ℕ → ℕ
times x y = x * y % 2 ^ 32

-- "add, and, or, xor join R[rs], R[rt] and R[rm]; sub is rs-rt-rm; mac is rs×rt+rm". "Shifts move R[rs] by the low five bits of R[rt]; sra
-- copies the sign."
abbrev pub calculated : Calculation → ℕ → ℕ → ℕ → ℕ
calculated add rs rt rm = plus (plus rs rt) rm
calculated sub rs rt rm = minus (minus rs rt) rm
calculated mac rs rt rm = plus (times rs rt) rm
calculated and rs rt rm = bit_and (bit_and rs rt) rm
calculated or rs rt rm = bit_or (bit_or rs rt) rm
calculated xor rs rt rm = bit_xor (bit_xor rs rt) rm
calculated sll rs rt rm = rs * 2 ^ (rt % 32) % 2 ^ 32
calculated sra rs rt rm = of_z w32 (shr_z (to_z w32 rs) (2 ^ (rt % 32)))
calculated srl rs rt rm = rs / 2 ^ (rt % 32)

-- "Branches compare R[rs] with R[rt] as signed numbers".
abbrev pub holds : Comparison → ℕ → ℕ → Bool
holds beq rs rt = rs == rt
holds bne rs rt = not (rs == rt)
holds blt rs rt = int_lt (to_z w32 rs) (to_z w32 rt)
holds bgt rs rt = int_lt (to_z w32 rt) (to_z w32 rs)
holds ble rs rt = int_le (to_z w32 rs) (to_z w32 rt)
holds bge rs rt = int_le (to_z w32 rt) (to_z w32 rs)
