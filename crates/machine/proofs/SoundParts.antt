-- Parts of a sound record that change and leave it sound. Assumes nothing.
use Prim.Native.Nat.{ℕ, ◌+◌, ◌-◌, ◌^◌, ◌≤◌, ◌<◌}
use mathlib.Core.Path.{◌≡◌, refl, ◌∙◌}
use mathlib.Core.Bool.{Bool, true, false, cond}
use mathlib.Core.List.{List}
use native.Mathlib.Nat.{pow-le-pow_right}
use native.Mathlib.Omega.{arith}
use lib.ListN.{set, length-set}
use lib.Dec.{eqb, leb, ltb}
use borrow.Author.Tests.{leb-true, leb-false}
use Rattle.text.proofs.Truth.{below}
use Rattle.text.proofs.RangeLaws.{holds_after}
use Rattle.isa.specs.Registers.{io_bits, diskcmd, diskstatus, monitorcmd}
use Rattle.isa.specs.Word.{sign_extended}
use Rattle.isa.proofs.IoLaws.{no_bits-above}
use Rattle.devices.proofs.SoundLaws.{sound-set as sound-other}
use Rattle.machine.specs.declared.Core.{Core}
use Rattle.machine.specs.Soundness.{field_bits, SoundCore, SoundTo}

-- ---- one I/O register set

module _ (limit : ℕ) (c : Core) (regs io : List ℕ) (s : SoundTo limit c regs io) where
  -- A register that is not the disk's takes a value that fits.
  pub sound-io : (n x : ℕ) → x < 2 ^ field_bits n → (n ≡ diskcmd → ⊥) → (n ≡ diskstatus → ⊥) → SoundTo limit c regs (set io n x)
  sound-io n x fits a b =
      record {
        core = s.core;
        thirteen = s.thirteen;
        registers = s.registers;
        all = length-set io n x ∙ s.all;
        fitting = holds_after io n x (λ k v. v < 2 ^ field_bits k) s.fitting fits;
        disk = sound-other c.drive io n x a b s.disk;
      }

  -- The scalars may change, but for the drive.
  pub sound-core : (d : Core) → SoundCore limit d → d.drive ≡ c.drive → SoundTo limit d regs io
  sound-core d k e =
      record { core = k; thirteen = s.thirteen; registers = s.registers; all = s.all; fitting = s.fitting; disk = rw e s.disk }

  -- A register takes a word.
  pub sound-set : (n x : ℕ) → x < 2 ^ 32 → SoundTo limit c (set regs n x) io
  sound-set n x fits =
      record {
        core = s.core;
        thirteen = length-set regs n x ∙ s.thirteen;
        registers = holds_after regs n x (λ k v. v < 2 ^ 32) s.registers fits;
        all = s.all;
        fitting = s.fitting;
        disk = s.disk;
      }

-- The limit of the age, changed with the scalars.
pub sound-core_to : {limit below : ℕ} {c : Core} {regs io : List ℕ} → SoundTo limit c regs io → SoundCore below c → SoundTo below c regs io
sound-core_to s k = record { core = k; thirteen = s.thirteen; registers = s.registers; all = s.all; fitting = s.fitting; disk = s.disk }

-- ---- words

pub bits_le : (n : ℕ) → io_bits n ≤ 32
unfolding io_bits
bits_le n = go (leb n 22) refl
  where
    go : (t : Bool) → leb n 22 ≡ t → io_bits n ≤ 32
    go true e = let low = leb-true n 22 e in leb-true _ _ (below (λ k. leb (io_bits k) 32) 23 refl n (omega arith))
    go false e = let high = leb-false n 22 e in rw (no_bits-above n (omega arith)) (omega arith)

pub field-bits_le : (n : ℕ) → 2 ^ field_bits n ≤ 2 ^ 32
field-bits_le n = go (eqb n monitorcmd)
  where
    go : (t : Bool) → 2 ^ cond t 0 (io_bits n) ≤ 2 ^ 32
    go true = omega arith
    go false = pow-le-pow_right {n = 2} (omega arith) (bits_le n)

pub sign_lt : (i : ℕ) → i < 2 ^ 12 → sign_extended i < 2 ^ 32
sign_lt i h = go (ltb i (2 ^ 11))
  where
    go : (t : Bool) → cond t i (2 ^ 32 - 2 ^ 12 + i) < 2 ^ 32
    go true = omega arith
    go false = omega arith
