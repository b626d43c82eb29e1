-- One cycle of a disk, whatever computer it stands in. Assumes nothing.
use Rattle.std.proofs.Common.{◌≡◌, ℕ, ◌+◌, ◌-◌, ◌%◌, ◌^◌, ◌<◌, ◌≤◌, Bool, true, false, cond, eqb, List, length, get_or, set, sym, refl, ap, ◌∙◌, arith, length-set, get_or-set_other, get_or-set_same, lt-ltb, eq-eqb, ne_eqb, eqb-true}
use Rattle.devices.specs.declared.Drive.{Drive}
use Rattle.devices.specs.Numbers.{irq0status, irq1status, clks, timerenable, timercurrent, timermax, diskcmd, diskstatus, device_registers}
use Rattle.devices.specs.Timer.{timed}
use Rattle.devices.specs.Bus.{Bus, drive_of, free_drive, with_io}
use Rattle.devices.specs.Disk.{word_due, memory_served, disk_served, freed, drive_fallen, io_fallen, served, disk_stepped}
use Rattle.devices.specs.Devices.{clocked, devices_stepped}
use Rattle.devices.specs.Transfer.{Cycled, Busy, GotFree, NoWord, WordMoved}
use Rattle.devices.proofs.TimerLaws.{length-timed}

-- ---- the I/O registers that the timer, the clock and the disk leave alone

pub timed-keeps : (io : List ℕ) (n : ℕ) → (n ≡ irq0status → ⊥) → (n ≡ timercurrent → ⊥) → get_or (timed io) n 0 ≡ get_or io n 0
unfolding timed
timed-keeps io n a b = go (eqb (get_or io timerenable 0) 1) (eqb (get_or io timercurrent 0) (get_or io timermax 0))
  where
    go : (t u : Bool)
        → get_or (cond t (cond u (set (set io irq0status 1) timercurrent 0) (set io timercurrent ((get_or io timercurrent 0 + 1) % 2 ^ 32))) io) n 0 ≡ get_or io n 0
    go true true = get_or-set_other (set io irq0status 1) timercurrent n 0 0 b ∙ get_or-set_other io irq0status n 1 0 a
    go true false = get_or-set_other io timercurrent n _ 0 b
    go false u = refl

pub clocked-keeps : (io : List ℕ) (n : ℕ) → (n ≡ clks → ⊥) → get_or (clocked io) n 0 ≡ get_or io n 0
unfolding clocked
clocked-keeps io n a = get_or-set_other io clks n _ 0 a

pub length-clocked : (io : List ℕ) → length (clocked io) ≡ length io
unfolding clocked
length-clocked io = length-set io clks _

pub length-freed : (io : List ℕ) → length (freed io) ≡ length io
unfolding freed
length-freed io = simp length-set

-- A disk that gets free: no command, not busy, its interrupt asked for.
pub free-disk : (io : List ℕ) → device_registers ≤ length io
    → (get_or (freed io) diskcmd 0 ≡ 0) × (get_or (freed io) diskstatus 0 ≡ 0) × (get_or (freed io) irq1status 0 ≡ 1)
unfolding freed
free-disk io has =
    let a = set io diskcmd 0 in
    let b = set a diskstatus 0 in (
      get_or-set_other b irq1status diskcmd 1 0 (omega arith) ∙ get_or-set_other a diskstatus diskcmd 0 0 (omega arith) ∙ get_or-set_same io diskcmd 0 0 (omega arith),
      get_or-set_other b irq1status diskstatus 1 0 (omega arith) ∙ get_or-set_same a diskstatus 0 0 (simp length-set (omega arith)),
      get_or-set_same b irq1status 1 0 (simp length-set (omega arith)),
    )

-- ---- a cycle

module _ (b four after : Bus) (c : Cycled b four after) where
  -- A disk that was free when the cycle began: what step 4 left of it stays, and no word moves.
  module _ (free : b.drive.left ≡ 0) where
    began_free : after ≡ with_io (clocked (timed four.io)) four
    unfolding devices_stepped disk_stepped
    began_free = c.ends ∙ ap (λ (n : ℕ). devices_stepped n four) free

    pub drive-stays : after.drive ≡ four.drive
    drive-stays = ap (λ (x : Bus). x.drive) began_free

    pub register-stays : (n : ℕ) → (n ≡ irq0status → ⊥) → (n ≡ timercurrent → ⊥) → (n ≡ clks → ⊥) → get_or after.io n 0 ≡ get_or four.io n 0
    register-stays n a b c = ap (λ (x : Bus). get_or x.io n 0) began_free ∙ clocked-keeps (timed four.io) n c ∙ timed-keeps four.io n a b

    pub no_word-free : NoWord four after
    no_word-free = record { memory = ap (λ (x : Bus). x.memory) began_free; disk = ap (λ (x : Bus). x.disk) began_free }

  -- A disk that was busy.
  module _ (busy : 0 < b.drive.left) where
    four_timed : Bus
    four_timed = with_io (timed four.io) four

    began_busy : after ≡ with_io (clocked (served four_timed).io) (served four_timed)
    unfolding devices_stepped disk_stepped four_timed
    began_busy = c.ends ∙ rw (lt-ltb 0 b.drive.left busy)

    command-kept : get_or (timed four.io) diskcmd 0 ≡ get_or b.io diskcmd 0
    command-kept = timed-keeps four.io diskcmd (λ e. omega arith) (λ e. omega arith) ∙ (c.keeps busy).command

    status-kept : get_or (timed four.io) diskstatus 0 ≡ get_or b.io diskstatus 0
    status-kept = timed-keeps four.io diskstatus (λ e. omega arith) (λ e. omega arith) ∙ (c.keeps busy).status

    pub drive-falls : after.drive ≡ drive_fallen (b.drive.left - 1) b.drive
    unfolding served four_timed
    drive-falls = ap (λ (x : Bus). x.drive) began_busy ∙ ap (λ (d : Drive). drive_fallen (d.left - 1) d) (c.keeps busy).drive

    pub left-falls : after.drive.left ≡ b.drive.left - 1
    unfolding drive_fallen
    left-falls = ap (λ (d : Drive). d.left) drive-falls ∙ go (eqb (b.drive.left - 1) 0) refl
      where
        go : (t : Bool) → eqb (b.drive.left - 1) 0 ≡ t
            → (cond t free_drive (drive_of (b.drive.left - 1) b.drive.sector b.drive.buffer)).left ≡ b.drive.left - 1
        go true e = sym (eqb-true (b.drive.left - 1) 0 e)
        go false e = refl

    io-falls : after.io ≡ clocked (io_fallen (b.drive.left - 1) (timed four.io))
    unfolding served four_timed
    io-falls = ap (λ (x : Bus). x.io) began_busy ∙ ap (λ (d : Drive). clocked (io_fallen (d.left - 1) (timed four.io))) (c.keeps busy).drive

    -- Where no word is due, none moves.
    pub no_word-due : ((b.drive.left - 1) % 8 ≡ 0 → ⊥) → NoWord four after
    unfolding served memory_served disk_served four_timed
    no_word-due h =
        let none = ne_eqb ((b.drive.left - 1) % 8) 0 h in
        record {
          memory = ap (λ (x : Bus). x.memory) began_busy ∙ rw ((c.keeps busy).drive, none);
          disk = ap (λ (x : Bus). x.disk) began_busy ∙ rw ((c.keeps busy).drive, none);
        }

    -- Where one is due, it moves.
    pub word-due : (b.drive.left - 1) % 8 ≡ 0 → WordMoved (word_due (b.drive.left - 1)) (get_or b.io diskcmd 0) b.drive.sector b.drive.buffer four after
    unfolding served memory_served disk_served four_timed
    word-due h =
        let due = eq-eqb ((b.drive.left - 1) % 8) 0 h in
        record {
          memory = ap (λ (x : Bus). x.memory) began_busy ∙ rw ((c.keeps busy).drive, due, command-kept);
          disk = ap (λ (x : Bus). x.disk) began_busy ∙ rw ((c.keeps busy).drive, due, command-kept);
        }

    -- In its last cycle the disk gets free;
    pub last-cycle : b.drive.left ≡ 1 → GotFree after
    unfolding drive_fallen io_fallen
    last-cycle e =
        let io : List ℕ = timed four.io in
        let all : device_registers ≤ length io = rw (length-timed four.io) c.all in
        let is : after.io ≡ clocked (freed io) = io-falls ∙ rw e in
        let gone = free-disk io all in
        record {
          drive = drive-falls ∙ rw e;
          command = rw is (clocked-keeps (freed io) diskcmd (λ e. omega arith) ∙ gone.0);
          status = rw is (clocked-keeps (freed io) diskstatus (λ e. omega arith) ∙ gone.1);
          asks = rw is (clocked-keeps (freed io) irq1status (λ e. omega arith) ∙ gone.2);
        }

-- in any other it stays busy with its command.
pub busy_on : (left command sector buffer : ℕ) (b four after : Bus) → Cycled b four after → 1 < left → Busy left command sector buffer b → Busy (left - 1) command sector buffer after
unfolding drive_fallen io_fallen
busy_on left command sector buffer b four after c some h =
    let left_is = ap (λ (d : Drive). d.left) h.drive in
    let busy : 0 < b.drive.left = omega arith in
    let io : List ℕ = timed four.io in
    let more = ne_eqb (b.drive.left - 1) 0 (λ e. omega arith) in
    let is : after.io ≡ clocked io = io-falls b four after c busy ∙ rw more in
    record {
      drive = drive-falls b four after c busy ∙ rw (more, h.drive);
      command-is = rw is (clocked-keeps io diskcmd (λ e. omega arith) ∙ command-kept b four after c busy ∙ h.command-is);
      status = rw is (clocked-keeps io diskstatus (λ e. omega arith) ∙ status-kept b four after c busy ∙ h.status);
    }
