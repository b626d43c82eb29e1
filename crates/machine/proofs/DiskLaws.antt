-- What no instruction changes while the disk is busy, and what a command that is accepted takes. Assumes nothing.
use Prim.Native.Nat.{ℕ, ◌%◌}
use mathlib.Core.Path.{◌≡◌, refl, sym, ◌∙◌, ap}
use mathlib.Core.Bool.{Bool, true, false, ◌&&◌, false≢true}
use mathlib.Core.List.{List}
use native.Mathlib.Omega.{arith}
use lib.Dec.{eqb, ltb}
use lib.ListN.{get_or, set}
use lib.Seq.{get_or-set_other}
use borrow.Author.Tests.{eqb-true, eqb-false}
use Rattle.text.proofs.Truth.{and_left, and_right}
use Rattle.devices.specs.Command.{is_free, is_read_or_write, has_room, new_drive, taken}
use Rattle.devices.specs.Transfer.{Keeps}
use Rattle.devices.specs.declared.Taken.TheVariants.{Ignored}
use Rattle.isa.specs.Word.{fields_of}
use Rattle.isa.specs.Operations.{Operation, operation_of, calculate, branch, jal, lw, sw, reti, input, output, halt, unknown}
use Rattle.isa.specs.Registers.{is_listed, io_bits, irq2status, irqreturn, diskcmd, diskstatus, monitorcmd}
use Rattle.words.specs.Words.{holds}
use Rattle.machine.specs.State.{Machine, bus_of, put_io}
use Rattle.machine.specs.Interrupts.{is_requested, irq2_raised, interrupted}
use Rattle.machine.specs.declared.Operands.{Operands}
use Rattle.machine.specs.Execution.{fetched, operands_of, address, onward, commanded, painted, outputted, executed, fetched_and_executed}
use Rattle.machine.specs.Cycle.{is_output, at_fetch, is_command, accepts_at_fetch, command_at_fetch}
use Rattle.machine.proofs.Choice.{either}

-- s keeps what no instruction changes while the disk of m is busy.
pub record KeepsDisk (m s : Machine) : Type 0 where
  pub keeps : Keeps (bus_of m) (bus_of s)

-- A machine with the same drive and I/O registers does, ..
same : {m s : Machine} → s.core.drive ≡ m.core.drive → s.io ≡ m.io → KeepsDisk m s
same d e = record { keeps = record { drive = d; command = ap (λ (io : List ℕ). get_or io diskcmd 0) e; status = ap (λ (io : List ℕ). get_or io diskstatus 0) e } }

-- .. and so does one with another I/O register set.
put_other : (m : Machine) (n x : ℕ) → (n ≡ diskcmd → ⊥) → (n ≡ diskstatus → ⊥) → KeepsDisk m (put_io n x m)
put_other m n x a b =
    record { keeps = record { drive = refl; command = get_or-set_other m.io n diskcmd x 0 (λ e. a (sym e)); status = get_or-set_other m.io n diskstatus x 0 (λ e. b (sym e)) } }

pub and_then : (m s t : Machine) → KeepsDisk m s → KeepsDisk s t → KeepsDisk m t
and_then m s t a b =
    record { keeps = record { drive = b.keeps.drive ∙ a.keeps.drive; command = b.keeps.command ∙ a.keeps.command; status = b.keeps.status ∙ a.keeps.status } }

and-onward : (m s : Machine) → KeepsDisk m s → KeepsDisk m (onward s)
and-onward m s k = record { keeps = record { drive = k.keeps.drive; command = k.keeps.command; status = k.keeps.status } }

-- Steps 1 and 2 do.
pub kept-at_fetch : (hit : Bool) (m : Machine) → KeepsDisk m (at_fetch hit m)
unfolding at_fetch interrupted irq2_raised
kept-at_fetch hit m =
    let r = irq2_raised hit m in
    let raised = either (KeepsDisk m) hit (put_other m irq2status 1 (λ e. omega arith) (λ e. omega arith)) (same refl refl) in
    let put = (put_other r irqreturn r.core.pc (λ e. omega arith) (λ e. omega arith)).keeps in
    and_then m r _ raised
    (either (KeepsDisk r) (is_requested r.io && eqb r.core.handler 0) (record { keeps = record { drive = put.drive; command = put.command; status = put.status } }) (same refl refl))

-- An out that finds the disk busy does, ..
kept-outputted : (a x : ℕ) (m : Machine) → taken (x % 4) m.io ≡ Ignored → KeepsDisk m (outputted a x m)
unfolding outputted commanded painted
kept-outputted a x m ignored = go (eqb a diskcmd) refl (eqb a diskstatus) refl
  where
    go : (t : Bool) → eqb a diskcmd ≡ t → (u : Bool) → eqb a diskstatus ≡ u → KeepsDisk m (outputted a x m)
    go true e u f = rw (e, ignored) (same refl refl)
    go false e true f = rw (e, f) (same refl refl)
    go false e false f =
        rw (e, f)
        (and-onward m _
        (either (KeepsDisk m) (eqb a monitorcmd) (either (KeepsDisk m) (eqb (x % 2) 1) (same refl refl) (same refl refl))
        (put_other m a _ (eqb-false a diskcmd e) (eqb-false a diskstatus f))))

-- .. and so does every instruction.
pub kept-executed : (k : Operation) (o : Operands) (m : Machine) → ((low : ℕ) → taken low m.io ≡ Ignored) → KeepsDisk m (executed k o m)
unfolding executed
kept-executed (calculate k) o m busy = same refl refl
kept-executed (branch k) o m busy = either (KeepsDisk m) (holds k o.rs o.rt) (same refl refl) (same refl refl)
kept-executed jal o m busy = same refl refl
kept-executed lw o m busy = either (KeepsDisk m) (ltb (address o) 4096) (same refl refl) (same refl refl)
kept-executed sw o m busy = either (KeepsDisk m) (ltb (address o) 4096) (same refl refl) (same refl refl)
kept-executed reti o m busy = same refl refl
kept-executed input o m busy = either (KeepsDisk m) (is_listed (address o)) (same refl refl) (same refl refl)
kept-executed output o m busy = either (KeepsDisk m) (is_listed (address o)) (kept-outputted (address o) o.rm m (busy (o.rm % 4))) (same refl refl)
kept-executed halt o m busy = same refl refl
kept-executed unknown o m busy = same refl refl

-- ---- a command that is accepted

-- It takes sector and buffer, diskcmd holds it, and diskstatus is 1.
command_does : (k : Operation) (o : Operands) (m : Machine) → is_command k o m ≡ true
    → ((executed k o m).core.drive ≡ new_drive m.io) × ((executed k o m).io ≡ set (set m.io diskcmd (o.rm % 4)) diskstatus 1)
unfolding is_command executed outputted commanded taken io_bits
command_does (calculate k) o m h = absurd (false≢true h)
command_does (branch k) o m h = absurd (false≢true h)
command_does jal o m h = absurd (false≢true h)
command_does lw o m h = absurd (false≢true h)
command_does sw o m h = absurd (false≢true h)
command_does reti o m h = absurd (false≢true h)
command_does input o m h = absurd (false≢true h)
command_does output o m h =
    let a = eqb (address o) diskcmd in
    let b = is_read_or_write (o.rm % 4) in
    let f = is_free m.io in
    let buffer = and_right (a && b && f) (has_room m.io) h in
    let three = and_left (a && b && f) (has_room m.io) h in
    let two = and_left (a && b) f three in
    let at = eqb-true (address o) diskcmd (and_left a b two) in
    (rw (at, and_right (a && b) f three, and_right a b two, buffer), rw (at, and_right (a && b) f three, and_right a b two, buffer))
command_does halt o m h = absurd (false≢true h)
command_does unknown o m h = absurd (false≢true h)

-- It finds the disk free.
pub command-free : (k : Operation) (o : Operands) (m : Machine) → is_command k o m ≡ true → is_free m.io ≡ true
unfolding is_command
command-free k o m h =
    let a = is_output k && eqb (address o) diskcmd && is_read_or_write (o.rm % 4) in
    and_right a (is_free m.io) (and_left (a && is_free m.io) (has_room m.io) h)

pub accepted_does : (image : List ℕ) (m : Machine) → accepts_at_fetch image m ≡ true
    → ((fetched_and_executed image m).core.drive ≡ new_drive m.io) × ((fetched_and_executed image m).io ≡ set (set m.io diskcmd (command_at_fetch image m)) diskstatus 1)
unfolding accepts_at_fetch fetched_and_executed
accepted_does image m h =
    let f = fields_of (fetched image m) in
    command_does (operation_of f.op) (operands_of f m) m h
