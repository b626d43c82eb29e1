-- "A record is sound when each field fits, status is at most 5, left at most 1024, and left > 0 exactly when diskstatus = 1 and exactly when
-- diskcmd is 1 or 2, else diskcmd is 0." What is said of the disk, document 02's part too, is devices' `SoundDrive`.
use Rattle.std.specs.Prelude.{ℕ, ◌≤◌, ◌<◌, ◌^◌, ◌≡◌, cond, List, eqb, length, get_or}
use Rattle.isa.specs.Registers.{io_bits, monitorcmd}
use Rattle.devices.specs.Soundness.{SoundDrive}
use Rattle.machine.specs.declared.Core.{Core}

-- The bits of an I/O register's field in a record: the register's own, but none for monitorcmd, which "always holds 0".
abbrev pub field_bits : ℕ → ℕ
field_bits n = cond (eqb n monitorcmd) 0 (io_bits n)

-- Each I/O register fits.
abbrev pub FittingIo : List ℕ → Type 0
FittingIo io = (n : ℕ) → get_or io n 0 < 2 ^ field_bits n

-- The scalars, the age below a limit.
pub record SoundCore (limit : ℕ) (c : Core) : Type 0 where
  pub status : c.status ≤ 5
  pub handler : c.handler < 2
  pub pc : c.pc < 2 ^ 12
  pub age : c.age < limit

-- All fields, the age below a limit.
pub record SoundTo (limit : ℕ) (c : Core) (regs io : List ℕ) : Type 0 where
  pub core : SoundCore limit c
  pub thirteen : length regs ≡ 13
  pub registers : (n : ℕ) → get_or regs n 0 < 2 ^ 32
  pub all : length io ≡ 23
  pub fitting : FittingIo io
  pub disk : SoundDrive c.drive io

-- A sound record: "age (cycles done, 40 bits)".
abbrev pub Sound : Core → List ℕ → List ℕ → Type 0
Sound c regs io = SoundTo (2 ^ 40) c regs io
