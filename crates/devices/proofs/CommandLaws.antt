-- A command over its 1,024 cycles, whatever computer it is given in and whatever its instructions do that leave the drive, diskcmd and diskstatus of a busy disk
-- alone. Assumes nothing.
use Rattle.std.proofs.Common.{◌≡◌, ℕ, zero, suc, ◌+◌, ◌-◌, ◌*◌, ◌%◌, ◌<◌, ◌≤◌, List, length, get_or, set, ap, ◌∙◌, arith, length-set, get_or-set_other, get_or-set_same}
use Rattle.devices.specs.declared.Drive.{Drive}
use Rattle.devices.specs.Numbers.{irq0status, clks, timercurrent, diskcmd, disksector, diskbuffer, diskstatus, device_registers}
use Rattle.devices.specs.Bus.{Bus}
use Rattle.devices.specs.Command.{new_drive}
use Rattle.devices.specs.Disk.{word_due}
use Rattle.devices.specs.Transfer.{Cycled, Busy, GotFree, NoWord, WordMoved}
use Rattle.devices.proofs.DriveLaws.{drive-stays, register-stays, no_word-free, no_word-due, word-due, last-cycle, busy_on}

-- A command that step 4 accepts: the disk is busy with it after the cycle, with the sector and the buffer taken; and no word moves in that cycle.
module _ (low : ℕ) (io : List ℕ) (b four after : Bus) (c : Cycled b four after) (was_free : b.drive.left ≡ 0) where
  pub begins-busy : device_registers ≤ length io → four.drive ≡ new_drive io → four.io ≡ set (set io diskcmd low) diskstatus 1
      → Busy 1024 low (get_or io disksector 0) (get_or io diskbuffer 0) after
  begins-busy all drive registers =
      let stays : (n : ℕ) → (n ≡ irq0status → ⊥) → (n ≡ timercurrent → ⊥) → (n ≡ clks → ⊥) → get_or after.io n 0 ≡ get_or (set (set io diskcmd low) diskstatus 1) n 0 =
      λ n x y z. register-stays b four after c was_free n x y z ∙ ap (λ (l : List ℕ). get_or l n 0) registers in
      record {
        drive = drive-stays b four after c was_free ∙ drive;
        command-is =
            stays diskcmd (λ e. omega arith) (λ e. omega arith) (λ e. omega arith)
            ∙ get_or-set_other (set io diskcmd low) diskstatus diskcmd 1 0 (λ e. omega arith) ∙ get_or-set_same io diskcmd low 0 (omega arith);
        status = stays diskstatus (λ e. omega arith) (λ e. omega arith) (λ e. omega arith) ∙ get_or-set_same (set io diskcmd low) diskstatus 1 0 (simp length-set (omega arith));
      }

  pub none_in_c : NoWord four after
  none_in_c = no_word-free b four after c was_free

-- A command is accepted in cycle c, after which `made` cycles are made. `four j` is the bus after step 4 of cycle c+j, `after j` the bus after cycle c+j.
module _ (four after : ℕ → Bus) (made command sector buffer : ℕ) (begins : Busy 1024 command sector buffer (after 0))
    (cycles : (j : ℕ) → j < made → Cycled (after j) (four (suc j)) (after (suc j))) where
  -- left is 1024 - j after cycle c+j; sector, buffer and command stay, and the disk is busy.
  pub busy-at : (j : ℕ) → j < 1024 → j ≤ made → Busy (1024 - j) command sector buffer (after j)
  busy-at zero h m = begins
  busy-at (suc j) h m =
      let one : 1024 - suc j ≡ 1024 - j - 1 = omega arith in
      let before = busy-at j (omega arith) (omega arith) in
      rw one (busy_on (1024 - j) command sector buffer (after j) (four (suc j)) (after (suc j)) (cycles j (omega arith)) (omega arith) before)

  -- It is free at the end of cycle c+1024.
  pub free-at : 1024 ≤ made → GotFree (after 1024)
  free-at m =
      let left = ap (λ (d : Drive). d.left) (busy-at 1023 (omega arith) (omega arith)).drive in
      last-cycle (after 1023) (four 1024) (after 1024) (cycles 1023 (omega arith)) (omega arith) left

  -- "moves word k of the sector, k from 0 to 127, in the disk's step of cycle c+8(k+1)"
  pub word_moves : (k : ℕ) → k < 128 → 8 * (k + 1) ≤ made → WordMoved k command sector buffer (four (8 * (k + 1))) (after (8 * (k + 1)))
  word_moves k h m =
      let j = 8 * k + 7 in
      let next : suc j ≡ 8 * (k + 1) = omega arith in
      let b = busy-at j (omega arith) (omega arith) in
      let left : (after j).drive.left ≡ 1024 - j = ap (λ (d : Drive). d.left) b.drive in
      let due : word_due (1024 - j - 1) ≡ k = omega arith in
      let w = word-due (after j) (four (suc j)) (after (suc j)) (cycles j (omega arith)) (omega arith) (omega arith) in
      rw (b.drive, b.command-is, due, next) at w

  -- and in no other cycle of these the disk moves anything, whatever an instruction stores.
  pub no_other : (j : ℕ) → j < 1024 → j < made → (suc j % 8 ≡ 0 → ⊥) → NoWord (four (suc j)) (after (suc j))
  no_other j h m other =
      let b = busy-at j h (omega arith) in
      let left : (after j).drive.left ≡ 1024 - j = ap (λ (d : Drive). d.left) b.drive in
      no_word-due (after j) (four (suc j)) (after (suc j)) (cycles j m) (omega arith) (λ e. other (omega arith))
