-- Steps 1 and 5 to 7, and instructions that log nothing but T. Assumes nothing.
use Prim.Native.Nat.{ℕ, zero, suc, ◌+◌, ◌-◌, ◌^◌, ◌<◌}
use mathlib.Core.Path.{◌≡◌, refl, sym, ap, subst}
use mathlib.Core.Bool.{Bool, true, false, cond}
use mathlib.Core.List.{List, []}
use native.Mathlib.Omega.{arith}
use lib.Dec.{ltb}
use lib.ListN.{set, drop}
use borrow.Author.Tests.{ltb-true, ltb-false}
use Rattle.devices.specs.declared.Drive.{Drive}
use Rattle.devices.specs.Bus.{Bus, bus}
use Rattle.devices.specs.Devices.{devices_stepped}
use Rattle.isa.specs.Operations.{operation_of}
use Rattle.isa.specs.Registers.{irq2status}
use Rattle.isa.proofs.OperationLaws.{calculation_at, comparison_at, unknown_above}
use Rattle.machine.specs.declared.Core.{Core}
use Rattle.machine.specs.declared.Operands.{Operands}
use Rattle.machine.specs.State.{core_drive, core_age, with_age, with_bus}
use Rattle.executor.specs.Lent.{packed}
use Rattle.machine.specs.Interrupts.{irq2_raised}
use Rattle.machine.specs.Cycle.{finished, at_fetch}
use Rattle.machine.specs.Soundness.{Sound}
use Rattle.machine.proofs.SoundLaws.{SoundMachine, sound-at_fetch}
use Rattle.machine.specs.Log.{io_lines}

-- The I/O registers after step 1.
pub raised_is : (c : Core) (regs io after memory disk frame : List ℕ) (hit : Bool) → after ≡ cond hit (set io irq2status 1) io
    → packed c regs after memory disk frame ≡ irq2_raised hit (packed c regs io memory disk frame)
unfolding irq2_raised
raised_is c regs io after memory disk frame true e = ap (λ (x : List ℕ). packed c regs x memory disk frame) e
raised_is c regs io after memory disk frame false e = ap (λ (x : List ℕ). packed c regs x memory disk frame) e

-- A sound machine is sound at the fetch.
pub sound-begun : (hit : Bool) (c s : Core) (regs io after memory disk frame : List ℕ) → Sound c (drop 3 regs) io
    → packed s regs after memory disk frame ≡ at_fetch hit (packed c regs io memory disk frame) → Sound s (drop 3 regs) after
sound-begun hit c s regs io after memory disk frame sound e =
    (subst (SoundMachine (2 ^ 40)) (sym e) (sound-at_fetch (2 ^ 40) hit (packed c regs io memory disk frame) (record { record_is = sound }))).record_is

-- The devices' steps and the age are steps 5 to 7.
pub finished-is : (began : ℕ) (c : Core) (d : Drive) (regs io after memory moved disk sectors frame : List ℕ)
    → bus d after moved sectors ≡ devices_stepped began (bus c.drive io memory disk)
    → packed (core_drive d (core_age (c.age + 1) c)) regs after moved sectors frame ≡ finished began (packed c regs io memory disk frame)
unfolding finished
finished-is began c d regs io after memory moved disk sectors frame e =
    ap (λ (b : Bus). with_age (c.age + 1) (with_bus b (packed c regs io memory disk frame))) e

-- 15 to 18 and 21 by themselves.
single_lines : (c : ℕ) (o : Operands) (io : List ℕ) (k : ℕ) → k < 7 → (k ≡ 4 → ⊥) → (k ≡ 5 → ⊥) → io_lines c (operation_of (15 + k)) o io ≡ []
unfolding operation_of io_lines
single_lines c o io zero h r w = refl
single_lines c o io (suc zero) h r w = refl
single_lines c o io (suc (suc zero)) h r w = refl
single_lines c o io (suc (suc (suc zero))) h r w = refl
single_lines c o io (suc (suc (suc (suc zero)))) h r w = absurd (r refl)
single_lines c o io (suc (suc (suc (suc (suc zero))))) h r w = absurd (w refl)
single_lines c o io (suc (suc (suc (suc (suc (suc zero)))))) h r w = refl
single_lines c o io (suc (suc (suc (suc (suc (suc (suc k))))))) h r w = absurd (omega arith)

-- Only in and out, 19 and 20, log more than T.
pub no_lines : (c op : ℕ) (o : Operands) (io : List ℕ) → (op ≡ 19 → ⊥) → (op ≡ 20 → ⊥) → io_lines c (operation_of op) o io ≡ []
unfolding io_lines
no_lines c op o io read write = go (ltb op 9) refl (ltb op 15) refl (ltb op 22) refl
  where
    go : (x : Bool) → ltb op 9 ≡ x → (y : Bool) → ltb op 15 ≡ y → (z : Bool) → ltb op 22 ≡ z → io_lines c (operation_of op) o io ≡ []
    go true e y f z g = rw (calculation_at op (ltb-true op 9 e)) refl
    go false e true f z g = rw (comparison_at op (ltb-false op 9 e) (ltb-true op 15 f)) refl
    go false e false f true g =
        let low = ltb-false op 15 f in
        let high = ltb-true op 22 g in
        let from : op ≡ 15 + (op - 15) = omega arith in
        rw from (single_lines c o io (op - 15) (omega arith) (λ q. read (omega arith)) (λ q. write (omega arith)))
    go false e false f false g = rw (unknown_above op (ltb-false op 22 g)) refl
