-- What is calculated from words is a word. Assumes nothing.
use Rattle.std.proofs.Common.{ℕ, ◌%◌, ◌^◌, ◌<◌, lt_of_le_of_lt, mod-lt, div-le_self, arith, w32, to_z, of_z}
use native.Mathlib.Nat.{one-le-pow}
use lib.Bits.{and_lt, or_lt, xor_lt}
use lib.Signed.{shr_z, mag_shr}
use mir.Facts.{Fits-of_z, sfits_to_z}
use Rattle.isa.specs.Operations.{Calculation, add, sub, mac, and, or, xor, sll, sra, srl}
use Rattle.words.specs.Words.{calculated}

-- What is kept of so many bits fits them.
pub wrapped : (bits x : ℕ) → x % 2 ^ bits < 2 ^ bits
wrapped bits x = mod-lt x (one-le-pow bits 2 (omega arith))

-- A word moved right, its sign copied, is a word.
moved : (x m : ℕ) → x < 2 ^ 32 → of_z w32 (shr_z (to_z w32 x) m) < 2 ^ 32
moved x m h =
    (Fits-of_z {w = w32} {z = shr_z (to_z w32 x) m} (record { sfits = lt_of_le_of_lt (mag_shr (to_z w32 x) m) (sfits_to_z {w = w32} {n = x} (record { fits = h })).sfits })).fits

-- Each calculation.
pub calculated_lt : (k : Calculation) (x y z : ℕ) → x < 2 ^ 32 → y < 2 ^ 32 → z < 2 ^ 32 → calculated k x y z < 2 ^ 32
calculated_lt add x y z hx hy hz = wrapped 32 _
calculated_lt sub x y z hx hy hz = wrapped 32 _
calculated_lt mac x y z hx hy hz = wrapped 32 _
calculated_lt and x y z hx hy hz = and_lt 32 _ z (and_lt 32 x y hx hy) hz
calculated_lt or x y z hx hy hz = or_lt 32 _ z (or_lt 32 x y hx hy) hz
calculated_lt xor x y z hx hy hz = xor_lt 32 _ z (xor_lt 32 x y hx hy) hz
calculated_lt sll x y z hx hy hz = wrapped 32 _
calculated_lt sra x y z hx hy hz = moved x (2 ^ (y % 32)) hx
calculated_lt srl x y z hx hy hz = lt_of_le_of_lt (div-le_self x (2 ^ (y % 32))) hx
