-- A sound record stays sound over a cycle. Assumes nothing.
use Prim.Native.Nat.{ℕ, zero, suc, ◌+◌, ◌-◌, ◌%◌, ◌^◌, ◌≤◌, ◌<◌, zero-le}
use mathlib.Core.Path.{◌≡◌, refl, ◌∙◌}
use mathlib.Core.Bool.{Bool, true, false, cond, ◌&&◌}
use mathlib.Core.List.{List}
use native.Mathlib.Nat.{lt_of_lt_of_le, not-suc-le-zero, one-le-pow}
use native.Mathlib.Omega.{arith}
use lib.ListN.{length, get_or, set, replicate}
use lib.Dec.{eqb, ltb}
use borrow.Author.Tests.{eqb-true, eqb-false, ltb-true, ltb-false}
use Rattle.isa.specs.Operations.{Operation, operation_of, calculate, branch, jal, lw, sw, reti, input, output, halt, unknown}
use Rattle.isa.specs.Registers.{io_bits, is_listed, irq2status, irqhandler, irqreturn, diskcmd, disksector, diskbuffer, diskstatus, monitorcmd}
use Rattle.devices.specs.Command.{is_free, new_drive, taken, drive_after, io_after}
use Rattle.devices.specs.Transfer.{Keeps, Cycled, Busy}
use Rattle.devices.specs.declared.Taken.TheVariants.{Ignored}
use Rattle.devices.proofs.DriveLaws.{drive-stays, left-falls as left-falls-one}
use Rattle.devices.proofs.CommandLaws.{begins-busy}
use Rattle.devices.proofs.SoundLaws.{sound-stepped, sound-taken, busy_ignores}
use Rattle.devices.proofs.FitLaws.{Lets, holds-taken, holds-stepped, length_taken, lengths-stepped}
use Rattle.isa.specs.Word.{sign_extended, fields_of}
use Rattle.words.specs.Words.{holds}
use Rattle.machine.specs.State.{Machine, bus_of, fresh_core, registers, put_register, io_at, put_io, with_pc, with_status, with_handler, with_drive, with_regs, with_io}
use Rattle.machine.specs.Interrupts.{is_requested, irq2_raised, interrupted}
use Rattle.machine.specs.declared.Operands.{Operands}
use Rattle.machine.specs.Execution.{fetched, operands_of, address, onward, jumped, commanded, painted, outputted, executed, fetched_and_executed}
use Rattle.machine.specs.Cycle.{accepts_at_fetch, command_at_fetch, at_fetch, finished, stepped}
use Rattle.machine.specs.Soundness.{field_bits, SoundTo, Sound}
use Rattle.words.proofs.FitLaws.{wrapped, calculated_lt}
use Rattle.machine.proofs.SoundParts.{sound-io, sound-core, sound-set, sound-core_to, field-bits_le, sign_lt}
use Rattle.machine.proofs.DiskLaws.{and_then, kept-at_fetch, kept-executed, command-free, accepted_does}
use Rattle.machine.proofs.Choice.{either, proceeds}

-- ---- the machine

-- Zeros are 0 at each place, and past their end.
all-zero : (k n : ℕ) → get_or {A = ℕ} (replicate k 0) n 0 ≡ 0
all-zero zero n = refl
all-zero (suc k) zero = refl
all-zero (suc k) (suc n) = all-zero k n

-- The machine's record is sound, its age below a limit.
pub record SoundMachine (limit : ℕ) (m : Machine) : Type 0 where
  pub record_is : SoundTo limit m.core m.regs m.io

-- What the devices write into the I/O registers fits them.
abbrev Fits : ℕ → ℕ → Type 0
Fits n v = v < 2 ^ field_bits n

lets_in : Lets Fits
unfolding io_bits
lets_in =
    record {
      timer-asks = omega arith;
      current = λ x. wrapped 32 x;
      disk-asks = omega arith;
      command = omega arith;
      status = omega arith;
      clock = λ x. wrapped 32 x;
    }

module _ (limit : ℕ) where
  pc-set : (m : Machine) (x : ℕ) → x < 2 ^ 12 → SoundMachine limit m → SoundMachine limit (with_pc x m)
  pc-set m x h s =
      let k = s.record_is.core in
      record {
        record_is =
            sound-core limit m.core m.regs m.io s.record_is _
            (record { status = k.status; handler = k.handler; pc = h; age = k.age }) refl;
      }

  status-set : (m : Machine) (x : ℕ) → x ≤ 5 → SoundMachine limit m → SoundMachine limit (with_status x m)
  status-set m x h s =
      let k = s.record_is.core in
      record {
        record_is =
            sound-core limit m.core m.regs m.io s.record_is _
            (record { status = h; handler = k.handler; pc = k.pc; age = k.age }) refl;
      }

  handler-set : (m : Machine) (x : ℕ) → x < 2 → SoundMachine limit m → SoundMachine limit (with_handler x m)
  handler-set m x h s =
      let k = s.record_is.core in
      record {
        record_is =
            sound-core limit m.core m.regs m.io s.record_is _
            (record { status = k.status; handler = h; pc = k.pc; age = k.age }) refl;
      }

  register-put : (m : Machine) (n x : ℕ) → x < 2 ^ 32 → SoundMachine limit m → SoundMachine limit (put_register n x m)
  register-put m n x h s = go (ltb n 3)
    where
      go : (t : Bool) → SoundMachine limit (with_regs (cond t m.regs (set m.regs (n - 3) x)) m)
      go true = record { record_is = s.record_is }
      go false = record { record_is = sound-set limit m.core m.regs m.io s.record_is (n - 3) x h }

  io-put : (m : Machine) (n x : ℕ) → x < 2 ^ field_bits n → (n ≡ diskcmd → ⊥) → (n ≡ diskstatus → ⊥) → SoundMachine limit m → SoundMachine limit (put_io n x m)
  io-put m n x h a b s = record { record_is = sound-io limit m.core m.regs m.io s.record_is n x h a b }

  went_on : (m : Machine) → SoundMachine limit m → SoundMachine limit (onward m)
  went_on m s = pc-set m ((m.core.pc + 1) % 4096) (omega arith) s

  jumped_to : (m : Machine) (to : ℕ) → SoundMachine limit m → SoundMachine limit (jumped to m)
  jumped_to m to s = pc-set m (to % 4096) (omega arith) s

  -- What an I/O register holds is a word.
  io-word : (m : Machine) (n : ℕ) → SoundMachine limit m → io_at n m < 2 ^ 32
  io-word m n s = lt_of_lt_of_le (s.record_is.fitting n) (field-bits_le n)

  -- ---- steps 1 and 2

  pub sound-at_fetch : (hit : Bool) (m : Machine) → SoundMachine limit m → SoundMachine limit (at_fetch hit m)
  unfolding at_fetch interrupted irq2_raised io_bits
  sound-at_fetch hit m s =
      let raised = either (SoundMachine limit) (hit) (io-put m irq2status 1 (omega arith) (λ e. omega arith) (λ e. omega arith) s) s in
      let r = irq2_raised hit m in
      either (SoundMachine limit) (is_requested r.io && eqb r.core.handler 0)
      (handler-set _ 1 (omega arith)
      (pc-set _ (io_at irqhandler r) (raised.record_is.fitting irqhandler)
      (io-put r irqreturn r.core.pc raised.record_is.core.pc (λ e. omega arith) (λ e. omega arith) raised)))
      raised

  -- ---- step 4

  -- R0 to R15 are words.
  operand_lt : (m : Machine) (i j n : ℕ) → i < 2 ^ 12 → j < 2 ^ 12 → SoundMachine limit m → get_or (registers (sign_extended i) (sign_extended j) m) n 0 < 2 ^ 32
  operand_lt m i j zero hi hj s = omega arith
  operand_lt m i j (suc zero) hi hj s = sign_lt i hi
  operand_lt m i j (suc (suc zero)) hi hj s = sign_lt j hj
  operand_lt m i j (suc (suc (suc n))) hi hj s = s.record_is.registers n

  -- An out to diskcmd.
  sound-commanded : (low : ℕ) (m : Machine) → low < 4 → SoundMachine limit m → SoundMachine limit (commanded low m)
  unfolding commanded io_bits
  sound-commanded low m less s =
      let r = s.record_is in
      let k = r.core in
      let all : length m.io ≡ 23 = r.all in
      let t = taken low m.io in
      let u = with_drive (drive_after t m.core.drive) (with_io (io_after low t m.io) m) in
      let done : SoundMachine limit u = record {
        record_is =
            record {
              core = record { status = k.status; handler = k.handler; pc = k.pc; age = k.age };
              thirteen = r.thirteen;
              registers = r.registers;
              all = length_taken low t m.io ∙ all;
              fitting = holds-taken Fits lets_in low t m.io less (omega arith) r.fitting;
              disk = sound-taken low m.core.drive m.io (omega arith) r.disk (r.fitting disksector);
            };
      } in
      proceeds (SoundMachine limit) t u (went_on u done) (status-set u 5 (omega arith) done)

  sound-outputted : (a x : ℕ) (m : Machine) → SoundMachine limit m → SoundMachine limit (outputted a x m)
  unfolding outputted painted
  sound-outputted a x m s = go (eqb a diskcmd) refl (eqb a diskstatus) refl (eqb a monitorcmd) refl
    where
      go : (t : Bool) → eqb a diskcmd ≡ t → (u : Bool) → eqb a diskstatus ≡ u → (v : Bool) → eqb a monitorcmd ≡ v
          → SoundMachine limit (cond t (commanded (x % 4) m) (onward (cond u m (cond v (painted x m) (put_io a (x % 2 ^ io_bits a) m)))))
      go true e u f v g = sound-commanded (x % 4) m (omega arith) s
      go false e true f v g = went_on m s
      go false e false f true g = went_on _ (either (SoundMachine limit) (eqb (x % 2) 1) (record { record_is = s.record_is }) s)
      go false e false f false g = went_on _ (io-put m a (x % 2 ^ io_bits a) (rw g (wrapped (io_bits a) x)) (eqb-false a diskcmd e) (eqb-false a diskstatus f) s)

  -- Each operation, on operands that are words.
  sound-executed : (k : Operation) (o : Operands) (m : Machine) → o.rs < 2 ^ 32 → o.rt < 2 ^ 32 → o.rm < 2 ^ 32 → SoundMachine limit m → SoundMachine limit (executed k o m)
  unfolding executed io_bits
  sound-executed (calculate k) o m hs ht hm s = went_on _ (register-put m o.target _ (calculated_lt k o.rs o.rt o.rm hs ht hm) s)
  sound-executed (branch k) o m hs ht hm s = either (SoundMachine limit) (holds k o.rs o.rt) (jumped_to m o.rm s) (went_on m s)
  sound-executed jal o m hs ht hm s = jumped_to _ o.rm (register-put m o.target ((m.core.pc + 1) % 4096) (omega arith) s)
  sound-executed lw o m hs ht hm s =
      either (SoundMachine limit) (ltb (address o) 4096) (went_on _ (register-put m o.target _ (wrapped 32 _) s)) (status-set m 3 (omega arith) s)
  sound-executed sw o m hs ht hm s =
      either (SoundMachine limit) (ltb (address o) 4096) (went_on _ (record { record_is = s.record_is })) (status-set m 3 (omega arith) s)
  sound-executed reti o m hs ht hm s = handler-set _ 0 (omega arith) (pc-set m (io_at irqreturn m) (s.record_is.fitting irqreturn) s)
  sound-executed input o m hs ht hm s =
      either (SoundMachine limit) (is_listed (address o)) (went_on _ (register-put m o.target (io_at (address o) m) (io-word m (address o) s) s)) (status-set m 4 (omega arith) s)
  sound-executed output o m hs ht hm s = either (SoundMachine limit) (is_listed (address o)) (sound-outputted (address o) o.rm m s) (status-set m 4 (omega arith) s)
  sound-executed halt o m hs ht hm s = status-set m 1 (omega arith) s
  sound-executed unknown o m hs ht hm s = status-set m 2 (omega arith) s

  pub sound-fetched : (image : List ℕ) (m : Machine) → SoundMachine limit m → SoundMachine limit (fetched_and_executed image m)
  unfolding fetched_and_executed
  sound-fetched image m s =
      let w = fetched image m in
      let f = fields_of w in
      let one : f.imm1 < 2 ^ 12 = omega arith in
      let two : f.imm2 < 2 ^ 12 = omega arith in
      sound-executed (operation_of f.op) (operands_of f m) m (operand_lt m f.imm1 f.imm2 f.rs one two s)
      (operand_lt m f.imm1 f.imm2 f.rt one two s) (operand_lt m f.imm1 f.imm2 f.rm one two s) s

  -- ---- steps 5 to 7

  sound-finished : (began : ℕ) (m : Machine) → SoundMachine limit m → SoundMachine (limit + 1) (finished began m)
  unfolding finished
  sound-finished began m s =
      let r = s.record_is in
      let k = r.core in
      let all : length m.io ≡ 23 = r.all in
      record {
        record_is =
            record {
              core = record { status = k.status; handler = k.handler; pc = k.pc; age = omega (arith, k.age) };
              thirteen = r.thirteen;
              registers = r.registers;
              all = (lengths-stepped began (bus_of m)).io ∙ all;
              fitting = holds-stepped Fits lets_in began (bus_of m) r.fitting;
              disk = sound-stepped began (bus_of m) (omega arith) r.disk;
            };
      }

  -- ---- the cycle

  pub sound-cycle_to : (image : List ℕ) (hit : Bool) (m : Machine) → SoundMachine limit m → SoundMachine (limit + 1) (stepped image hit m)
  unfolding stepped
  sound-cycle_to image hit m s = sound-finished m.core.drive.left _ (sound-fetched image _ (sound-at_fetch hit m s))

-- A sound machine that is not at the cycle limit is sound after a cycle, whatever the image, the irq2 list and the memories.
pub sound-cycle : (image : List ℕ) (hit : Bool) (m : Machine) → SoundMachine (2 ^ 40) m → m.core.age < 2 ^ 40 - 1 → SoundMachine (2 ^ 40) (stepped image hit m)
sound-cycle image hit m s young =
    let r = s.record_is in
    let k = r.core in
    sound-cycle_to (2 ^ 40 - 1) image hit m
    (record {
      record_is =
          sound-core_to r
          (record { status = k.status; handler = k.handler; pc = k.pc; age = young });
    })

-- The fresh record is sound.
pub sound-fresh : Sound fresh_core (replicate 13 0) (replicate 23 0)
sound-fresh =
    record {
      core = record { status = zero-le; handler = omega arith; pc = omega arith; age = omega arith };
      thirteen = refl;
      registers = λ n. rw (all-zero 13 n) (omega arith);
      all = refl;
      fitting = λ n. rw (all-zero 23 n) (one-le-pow (field_bits n) 2 (omega arith));
      disk = record { left = zero-le; sector = zero-le; buffer = zero-le; busy = λ h. absurd (not-suc-le-zero h); free = λ e. (refl, refl, refl, refl) };
    }

-- ---- the disk of a sound machine

module _ (limit : ℕ) (image : List ℕ) (hit : Bool) (m : Machine) (s : SoundMachine limit m) where
  at_fetch_all : length (at_fetch hit m).io ≡ 23
  at_fetch_all = (sound-at_fetch limit hit m s).record_is.all

  -- While it is busy, steps 1 to 4 keep what devices asks.
  keeps-busy : 0 < m.core.drive.left → Keeps (bus_of m) (bus_of (fetched_and_executed image (at_fetch hit m)))
  unfolding fetched_and_executed
  keeps-busy h =
      let d = at_fetch hit m in
      let f = fields_of (fetched image d) in
      let a = kept-at_fetch hit m in
      let all = at_fetch_all in
      let ignored : (low : ℕ) → taken low d.io ≡ Ignored = λ low. busy_ignores low d.core.drive d.io (omega arith) (sound-at_fetch limit hit m s).record_is.disk (rw a.keeps.drive h) in
      (and_then m d _ a (kept-executed (operation_of f.op) (operands_of f d) d ignored)).keeps

  -- This computer's cycle, as devices sees it.
  pub cycled : Cycled (bus_of m) (bus_of (fetched_and_executed image (at_fetch hit m))) (bus_of (stepped image hit m))
  unfolding stepped finished
  cycled =
      let all = (sound-fetched limit image (at_fetch hit m) (sound-at_fetch limit hit m s)).record_is.all in
      record { all = omega arith; keeps = keeps-busy; ends = refl }

  -- While cycles are to go each cycle takes one, whatever it does.
  pub left-falls : 0 < m.core.drive.left → (stepped image hit m).core.drive.left ≡ m.core.drive.left - 1
  left-falls going = left-falls-one (bus_of m) _ _ cycled going

  -- A disk that an instruction finds free has no cycles to go.
  free_idle : is_free (at_fetch hit m).io ≡ true → m.core.drive.left ≡ 0
  free_idle free = go (eqb m.core.drive.left 0) refl
    where
      go : (t : Bool) → eqb m.core.drive.left 0 ≡ t → m.core.drive.left ≡ 0
      go true e = eqb-true m.core.drive.left 0 e
      go false e =
          let none = eqb-true (io_at diskstatus (at_fetch hit m)) 0 free in
          let more = eqb-false m.core.drive.left 0 e in
          let some : 0 < m.core.drive.left = omega arith in
          let one = ((sound-at_fetch limit hit m s).record_is.disk.busy (rw (kept-at_fetch hit m).keeps.drive some)).0 in
          absurd (omega arith)

  -- A command that is accepted finds the disk free and takes sector and buffer; 1,024 cycles are to go then.
  module _ (h : accepts_at_fetch image (at_fetch hit m) ≡ true) where
    pub was_free : m.core.drive.left ≡ 0
    unfolding accepts_at_fetch
    was_free = let d = at_fetch hit m in let f = fields_of (fetched image d) in free_idle (command-free (operation_of f.op) (operands_of f d) d h)

    pub drive-accepted : (stepped image hit m).core.drive ≡ new_drive (at_fetch hit m).io
    drive-accepted = drive-stays (bus_of m) _ _ cycled was_free ∙ (accepted_does image (at_fetch hit m) h).0

    -- The disk is busy with it.
    pub busy-accepted : Busy 1024 (command_at_fetch image (at_fetch hit m)) (io_at disksector (at_fetch hit m)) (io_at diskbuffer (at_fetch hit m)) (bus_of (stepped image hit m))
    busy-accepted =
        let does = accepted_does image (at_fetch hit m) h in
        let all = at_fetch_all in
        begins-busy (command_at_fetch image (at_fetch hit m)) (at_fetch hit m).io (bus_of m) _ _ cycled was_free (omega arith) does.0 does.1

  -- No instruction makes left less.
  pub left_not_less : m.core.drive.left ≤ (fetched_and_executed image (at_fetch hit m)).core.drive.left
  left_not_less = go (ltb 0 m.core.drive.left) refl
    where
      go : (t : Bool) → ltb 0 m.core.drive.left ≡ t → m.core.drive.left ≤ (fetched_and_executed image (at_fetch hit m)).core.drive.left
      go true e = rw (keeps-busy (ltb-true 0 m.core.drive.left e)).drive (omega arith)
      go false e = let none = ltb-false 0 m.core.drive.left e in omega arith
