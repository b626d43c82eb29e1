-- A cycle keeps the lengths of the data memory, the disk and the frame, and the range of what they hold. Assumes nothing.
use Prim.Native.Nat.{ℕ, ◌%◌, ◌^◌, ◌<◌}
use mathlib.Core.Path.{◌≡◌, refl, ◌∙◌}
use mathlib.Core.Bool.{Bool, ◌&&◌}
use mathlib.Core.List.{List}
use lib.Dec.{eqb, ltb}
use lib.ListN.{length, length-set}
use Rattle.text.specs.Ranges.{Below}
use Rattle.text.proofs.RangeLaws.{holds_after}
use Rattle.devices.specs.Command.{taken}
use Rattle.devices.proofs.FitLaws.{lengths-stepped, below_stepped}
use Rattle.isa.specs.Word.{fields_of}
use Rattle.isa.specs.Operations.{Operation, operation_of, calculate, branch, jal, lw, sw, reti, input, output, halt, unknown}
use Rattle.isa.specs.Registers.{is_listed, io_bits, diskcmd, diskstatus, monitorcmd, monitoraddr, monitordata}
use Rattle.words.specs.Words.{holds, plus}
use Rattle.machine.specs.declared.Core.{Core}
use Rattle.machine.specs.State.{Machine, bus_of, io_at}
use Rattle.machine.specs.Interrupts.{is_requested, irq2_raised, interrupted}
use Rattle.machine.specs.declared.Operands.{Operands}
use Rattle.machine.specs.Execution.{fetched, operands_of, address, commanded, painted, outputted, executed, fetched_and_executed}
use Rattle.machine.specs.Cycle.{finished, at_fetch, stepped}
use Rattle.machine.specs.Soundness.{Sound}
use Rattle.words.proofs.FitLaws.{wrapped}
use Rattle.machine.proofs.SoundLaws.{sound-at_fetch}
use Rattle.machine.proofs.Choice.{either, proceeds}

-- The memories of s are as long as those of m.
pub record KeepsLengths (m s : Machine) : Type 0 where
  pub memory : length s.memory ≡ length m.memory
  pub disk : length s.disk ≡ length m.disk
  pub frame : length s.frame ≡ length m.frame

-- So are those of a machine that has these memories, whatever its record is.
same : {m : Machine} {c : Core} {regs io : List ℕ} → KeepsLengths m (record { core = c; regs = regs; io = io; memory = m.memory; disk = m.disk; frame = m.frame })
same = record { memory = refl; disk = refl; frame = refl }

and_then : (m s t : Machine) → KeepsLengths m s → KeepsLengths s t → KeepsLengths m t
and_then m s t a b =
    record { memory = b.memory ∙ a.memory; disk = b.disk ∙ a.disk; frame = b.frame ∙ a.frame }

lengths-at_fetch : (hit : Bool) (m : Machine) → KeepsLengths m (at_fetch hit m)
unfolding at_fetch interrupted irq2_raised
lengths-at_fetch hit m =
    and_then m (irq2_raised hit m) _ (either (KeepsLengths m) (hit) same same)
    (either (KeepsLengths (irq2_raised hit m)) (is_requested (irq2_raised hit m).io && eqb (irq2_raised hit m).core.handler 0) same same)

lengths-commanded : (low : ℕ) (m : Machine) → KeepsLengths m (commanded low m)
unfolding commanded
lengths-commanded low m = proceeds (KeepsLengths m) (taken low m.io) _ same same

lengths-painted : (x : ℕ) (m : Machine) → KeepsLengths m (painted x m)
unfolding painted
lengths-painted x m =
    either (KeepsLengths m) (eqb (x % 2) 1)
    (record { memory = refl; disk = refl; frame = length-set m.frame (io_at monitoraddr m) (io_at monitordata m) })
    same

lengths-outputted : (a x : ℕ) (m : Machine) → KeepsLengths m (outputted a x m)
unfolding outputted
lengths-outputted a x m =
    let rest = either (KeepsLengths m) (eqb a diskstatus) same (either (KeepsLengths m) (eqb a monitorcmd) (lengths-painted x m) same) in
    either (KeepsLengths m) (eqb a diskcmd) (lengths-commanded (x % 4) m) (record { memory = rest.memory; disk = rest.disk; frame = rest.frame })

lengths-executed : (k : Operation) (o : Operands) (m : Machine) → KeepsLengths m (executed k o m)
unfolding executed
lengths-executed (calculate k) o m = same
lengths-executed (branch k) o m =
    either (KeepsLengths m) (holds k o.rs o.rt) same same
lengths-executed jal o m = same
lengths-executed lw o m =
    either (KeepsLengths m) (ltb (address o) 4096) same same
lengths-executed sw o m =
    either (KeepsLengths m) (ltb (address o) 4096)
    (record { memory = length-set m.memory (address o) (plus o.rm o.rd); disk = refl; frame = refl })
    same
lengths-executed reti o m = same
lengths-executed input o m =
    either (KeepsLengths m) (is_listed (address o)) same same
lengths-executed output o m =
    either (KeepsLengths m) (is_listed (address o)) (lengths-outputted (address o) o.rm m) same
lengths-executed halt o m = same
lengths-executed unknown o m = same

-- Over a whole cycle.
pub lengths-kept : (image : List ℕ) (hit : Bool) (m : Machine) → KeepsLengths m (stepped image hit m)
unfolding stepped finished fetched_and_executed
lengths-kept image hit m =
    let s = at_fetch hit m in
    let f = fields_of (fetched image s) in
    let done = and_then m s _ (lengths-at_fetch hit m) (lengths-executed (operation_of f.op) (operands_of f s) s) in
    let moved = lengths-stepped m.core.drive.left (bus_of (executed (operation_of f.op) (operands_of f s) s)) in
    record { memory = moved.memory ∙ done.memory; disk = moved.disk ∙ done.disk; frame = done.frame }

-- ---- ranges

-- "The data memory is 4,096 words of 32 bits, the disk 16,384 such words .., the frame 65,536 bytes": each fits.
pub record Fits (m : Machine) : Type 0 where
  pub memory : Below (2 ^ 32) m.memory
  pub disk : Below (2 ^ 32) m.disk
  pub frame : Below (2 ^ 8) m.frame

fits : {m : Machine} {c : Core} {regs io : List ℕ} → Fits m → Fits (record { core = c; regs = regs; io = io; memory = m.memory; disk = m.disk; frame = m.frame })
fits h = record { memory = h.memory; disk = h.disk; frame = h.frame }

fits-at_fetch : (hit : Bool) (m : Machine) → Fits m → Fits (at_fetch hit m)
unfolding at_fetch interrupted irq2_raised
fits-at_fetch hit m h =
    let raised = either Fits (hit) (fits h) h in
    either Fits (is_requested (irq2_raised hit m).io && eqb (irq2_raised hit m).core.handler 0) (fits raised) raised

fits-commanded : (low : ℕ) (m : Machine) → Fits m → Fits (commanded low m)
unfolding commanded
fits-commanded low m h = proceeds Fits (taken low m.io) _ (fits h) (fits h)

fits-painted : (x : ℕ) (m : Machine) → io_at monitordata m < 2 ^ 8 → Fits m → Fits (painted x m)
unfolding painted
fits-painted x m byte h =
    either Fits (eqb (x % 2) 1)
    (record { memory = h.memory; disk = h.disk; frame = holds_after m.frame (io_at monitoraddr m) (io_at monitordata m) (λ k v. v < 2 ^ 8) h.frame byte })
    h

fits-outputted : (a x : ℕ) (m : Machine) → io_at monitordata m < 2 ^ 8 → Fits m → Fits (outputted a x m)
unfolding outputted
fits-outputted a x m byte h =
    either Fits (eqb a diskcmd) (fits-commanded (x % 4) m h)
    (fits (either Fits (eqb a diskstatus) h (either Fits (eqb a monitorcmd) (fits-painted x m byte h) (fits h))))

fits-executed : (k : Operation) (o : Operands) (m : Machine) → io_at monitordata m < 2 ^ 8 → Fits m → Fits (executed k o m)
unfolding executed
fits-executed (calculate k) o m byte h = fits h
fits-executed (branch k) o m byte h = either Fits (holds k o.rs o.rt) (fits h) (fits h)
fits-executed jal o m byte h = fits h
fits-executed lw o m byte h = either Fits (ltb (address o) 4096) (fits h) (fits h)
fits-executed sw o m byte h =
    either Fits (ltb (address o) 4096)
    (record { memory = holds_after m.memory (address o) (plus o.rm o.rd) (λ k v. v < 2 ^ 32) h.memory (wrapped 32 _); disk = h.disk; frame = h.frame })
    (fits h)
fits-executed reti o m byte h = fits h
fits-executed input o m byte h = either Fits (is_listed (address o)) (fits h) (fits h)
fits-executed output o m byte h = either Fits (is_listed (address o)) (fits-outputted (address o) o.rm m byte h) (fits h)
fits-executed halt o m byte h = fits h
fits-executed unknown o m byte h = fits h

-- Over a whole cycle of a machine whose record is sound.
pub fits_kept : (image : List ℕ) (hit : Bool) (m : Machine) → Sound m.core m.regs m.io → Fits m → Fits (stepped image hit m)
unfolding stepped finished fetched_and_executed io_bits
fits_kept image hit m sound h =
    let s = at_fetch hit m in
    let f = fields_of (fetched image s) in
    let byte = (sound-at_fetch (2 ^ 40) hit m (record { record_is = sound })).record_is.fitting monitordata in
    let done = fits-executed (operation_of f.op) (operands_of f s) s byte (fits-at_fetch hit m h) in
    let moved = below_stepped (2 ^ 32) m.core.drive.left (bus_of (executed (operation_of f.op) (operands_of f s) s)) done.memory done.disk in
    record { memory = moved.0; disk = moved.1; frame = done.frame }
