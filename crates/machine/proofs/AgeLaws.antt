-- "age + 1": a cycle adds one to the age, and nothing else in it changes the age. Assumes nothing.
use Prim.Native.Nat.{ℕ, ◌+◌, ◌%◌}
use mathlib.Core.Path.{◌≡◌, refl, ◌∙◌, ap}
use mathlib.Core.Bool.{Bool, ◌&&◌}
use mathlib.Core.List.{List}
use lib.Dec.{eqb, ltb}
use Rattle.devices.specs.Command.{taken}
use Rattle.isa.specs.Word.{fields_of}
use Rattle.isa.specs.Operations.{Operation, operation_of, calculate, branch, jal, lw, sw, reti, input, output, halt, unknown}
use Rattle.isa.specs.Registers.{is_listed, diskcmd, diskstatus, monitorcmd}
use Rattle.words.specs.Words.{holds}
use Rattle.machine.specs.State.{Machine}
use Rattle.machine.specs.declared.Operands.{Operands}
use Rattle.machine.specs.Interrupts.{is_requested, irq2_raised, interrupted}
use Rattle.machine.specs.Execution.{fetched, operands_of, address, onward, commanded, painted, outputted, executed, fetched_and_executed}
use Rattle.machine.specs.Cycle.{finished, at_fetch, stepped}
use Rattle.machine.proofs.Choice.{either, proceeds}

-- s has the age of m.
pub record KeepsAge (m s : Machine) : Type 0 where
  pub same : s.core.age ≡ m.core.age

and-onward : (m s : Machine) → KeepsAge m s → KeepsAge m (onward s)
and-onward m s k = record { same = k.same }

-- Steps 1 and 2, ..
pub age-at_fetch : (hit : Bool) (m : Machine) → KeepsAge m (at_fetch hit m)
unfolding at_fetch interrupted irq2_raised
age-at_fetch hit m =
    let r = irq2_raised hit m in
    let raised = either (KeepsAge m) hit (record { same = refl }) (record { same = refl }) in
    either (KeepsAge m) (is_requested r.io && eqb r.core.handler 0) (record { same = raised.same }) raised

-- .. a disk command, ..
age-commanded : (low : ℕ) (m : Machine) → KeepsAge m (commanded low m)
unfolding commanded
age-commanded low m = proceeds (KeepsAge m) (taken low m.io) _ (record { same = refl }) (record { same = refl })

-- .. and every instruction keep the age.
age-executed : (k : Operation) (o : Operands) (m : Machine) → KeepsAge m (executed k o m)
unfolding executed outputted painted
age-executed (calculate k) o m = record { same = refl }
age-executed (branch k) o m = either (KeepsAge m) (holds k o.rs o.rt) (record { same = refl }) (record { same = refl })
age-executed jal o m = record { same = refl }
age-executed lw o m = either (KeepsAge m) (ltb (address o) 4096) (record { same = refl }) (record { same = refl })
age-executed sw o m = either (KeepsAge m) (ltb (address o) 4096) (record { same = refl }) (record { same = refl })
age-executed reti o m = record { same = refl }
age-executed input o m = either (KeepsAge m) (is_listed (address o)) (record { same = refl }) (record { same = refl })
age-executed output o m =
    either (KeepsAge m) (is_listed (address o))
    (either (KeepsAge m) (eqb (address o) diskcmd)
    (age-commanded (o.rm % 4) m)
    (and-onward m _
    (either (KeepsAge m) (eqb (address o) diskstatus) (record { same = refl })
    (either (KeepsAge m) (eqb (address o) monitorcmd) (either (KeepsAge m) (eqb (o.rm % 2) 1) (record { same = refl }) (record { same = refl })) (record { same = refl })))))
    (record { same = refl })
age-executed halt o m = record { same = refl }
age-executed unknown o m = record { same = refl }

-- So a cycle adds one.
pub age-after : (image : List ℕ) (hit : Bool) (m : Machine) → (stepped image hit m).core.age ≡ m.core.age + 1
unfolding stepped finished fetched_and_executed
age-after image hit m =
    let s = at_fetch hit m in
    let f = fields_of (fetched image s) in
    ap (λ (n : ℕ). n + 1) ((age-executed (operation_of f.op) (operands_of f s) s).same ∙ (age-at_fetch hit m).same)
