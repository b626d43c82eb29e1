-- A sound drive stays sound, over the devices' steps and over an out to diskcmd. Assumes nothing.
use Rattle.std.proofs.Common.{◌≡◌, ℕ, ◌-◌, ◌<◌, ◌≤◌, Bool, true, false, cond, ◌&&◌, eqb, ltb, leb, List, length, get_or, set, sym, refl, ◌∙◌, zero-le, arith, length-set, get_or-set_other, get_or-set_same, eqb-true, le-leb, leb-true}
use borrow.Author.Tests.{eqb-false}
use Rattle.text.proofs.Truth.{and_left, and_right}
use Rattle.devices.specs.declared.Drive.{Drive}
use Rattle.devices.specs.declared.Taken.TheVariants.{Ignored, Cleared, Accepted, NoRoom}
use Rattle.devices.specs.Numbers.{diskcmd, disksector, diskbuffer, diskstatus, device_registers}
use Rattle.devices.specs.Timer.{timed}
use Rattle.devices.specs.Bus.{Bus, free_drive, drive_of, with_io}
use Rattle.devices.specs.Command.{is_free, is_read_or_write, has_room, new_drive, taken, drive_after, io_after}
use Rattle.devices.specs.Disk.{freed, drive_fallen, io_fallen, served, disk_stepped}
use Rattle.devices.specs.Soundness.{SoundDrive, is_sound_free, is_sound_busy, is_sound_drive}
use Rattle.devices.specs.Devices.{clocked, devices_stepped}
use Rattle.devices.specs.Transfer.{Cycled}
use Rattle.devices.proofs.TimerLaws.{length-timed}
use Rattle.devices.proofs.DriveLaws.{timed-keeps, clocked-keeps, free-disk}

-- I/O registers with the same command and status.
pub sound-same : (d : Drive) (io to : List ℕ) → get_or to diskcmd 0 ≡ get_or io diskcmd 0 → get_or to diskstatus 0 ≡ get_or io diskstatus 0 → SoundDrive d io → SoundDrive d to
sound-same d io to a b s = record { left = s.left; sector = s.sector; buffer = s.buffer; busy = rw (a, b) s.busy; free = rw (a, b) s.free }

pub sound-set : (d : Drive) (io : List ℕ) (n x : ℕ) → (n ≡ diskcmd → ⊥) → (n ≡ diskstatus → ⊥) → SoundDrive d io → SoundDrive d (set io n x)
sound-set d io n x a b s =
    sound-same d io (set io n x) (get_or-set_other io n diskcmd x 0 (λ e. a (sym e))) (get_or-set_other io n diskstatus x 0 (λ e. b (sym e))) s

-- ---- the devices' steps

sound-timed : (d : Drive) (io : List ℕ) → SoundDrive d io → SoundDrive d (timed io)
sound-timed d io s =
    sound-same d io (timed io) (timed-keeps io diskcmd (λ e. omega arith) (λ e. omega arith)) (timed-keeps io diskstatus (λ e. omega arith) (λ e. omega arith)) s

sound-clocked : (d : Drive) (io : List ℕ) → SoundDrive d io → SoundDrive d (clocked io)
sound-clocked d io s = sound-same d io (clocked io) (clocked-keeps io diskcmd (λ e. omega arith)) (clocked-keeps io diskstatus (λ e. omega arith)) s

sound_fallen : (d : Drive) (io : List ℕ) → device_registers ≤ length io → SoundDrive d io → SoundDrive (drive_fallen (d.left - 1) d) (io_fallen (d.left - 1) io)
unfolding drive_fallen io_fallen
sound_fallen d io all s = go (eqb (d.left - 1) 0) refl
  where
    go : (t : Bool) → eqb (d.left - 1) 0 ≡ t → SoundDrive (cond t free_drive (drive_of (d.left - 1) d.sector d.buffer)) (cond t (freed io) io)
    go true e =
        let gone = free-disk io all in
        record { left = zero-le; sector = zero-le; buffer = zero-le; busy = λ h. absurd (omega arith); free = λ q. (gone.1, gone.0, refl, refl) }
    go false e =
        let more = eqb-false (d.left - 1) 0 e in
        let left = s.left in
        record { left = omega arith; sector = s.sector; buffer = s.buffer; busy = λ h. s.busy (omega arith); free = λ q. absurd (more q) }

-- Steps 5 to 7.
pub sound-stepped : (began : ℕ) (b : Bus) → device_registers ≤ length b.io → SoundDrive b.drive b.io
    → SoundDrive (devices_stepped began b).drive (devices_stepped began b).io
unfolding devices_stepped disk_stepped served
sound-stepped began b all s = go (ltb 0 began)
  where
    t : Bus
    t = with_io (timed b.io) b

    go : (u : Bool) → SoundDrive (cond u (served t) t).drive (clocked (cond u (served t) t).io)
    go true =
        sound-clocked _ (io_fallen (b.drive.left - 1) (timed b.io))
        (sound_fallen b.drive (timed b.io) (rw (length-timed b.io) all) (sound-timed b.drive b.io s))
    go false = sound-clocked b.drive (timed b.io) (sound-timed b.drive b.io s)

-- A cycle of any computer: while the disk is busy, step 4 keeping what it has to, the drive stays sound.
pub busy-stays-sound : (b four after : Bus) → Cycled b four after → 0 < b.drive.left → SoundDrive b.drive b.io → SoundDrive after.drive after.io
busy-stays-sound b four after c busy s =
    let k = c.keeps busy in
    let at-four : SoundDrive four.drive four.io = rw k.drive (sound-same b.drive b.io four.io k.command k.status s) in
    rw c.ends (sound-stepped b.drive.left four c.all at-four)

-- ---- an out to diskcmd

module _ (low : ℕ) (d : Drive) (io : List ℕ) (all : device_registers ≤ length io) (s : SoundDrive d io) where
  sound-begun : 1 ≤ low → low ≤ 2 → get_or io disksector 0 < 128 → get_or io diskbuffer 0 ≤ 3968 → SoundDrive (new_drive io) (set (set io diskcmd low) diskstatus 1)
  sound-begun some few fits room =
      let status = get_or-set_same (set io diskcmd low) diskstatus 1 0 (simp length-set (omega arith)) in
      let command = get_or-set_other (set io diskcmd low) diskstatus diskcmd 1 0 (omega arith) ∙ get_or-set_same io diskcmd low 0 (omega arith) in
      record { left = omega arith; sector = omega arith; buffer = room; busy = λ h. (status, rw command some, rw command few); free = λ e. absurd (omega arith) }

  sound_cleared : get_or io diskstatus 0 ≡ 0 → SoundDrive d (set io diskcmd 0)
  sound_cleared none =
      let status = get_or-set_other io diskcmd diskstatus 0 0 (omega arith) in
      record {
        left = s.left;
        sector = s.sector;
        buffer = s.buffer;
        busy = λ h. absurd (let one = (s.busy h).0 in omega arith);
        free = λ e. (status ∙ none, get_or-set_same io diskcmd 0 0 (omega arith), (s.free e).2, (s.free e).3);
      }

  pub sound-taken : get_or io disksector 0 < 128 → SoundDrive (drive_after (taken low io) d) (io_after low (taken low io) io)
  unfolding taken
  sound-taken fits = go (is_free io) refl (is_read_or_write low) refl (has_room io) refl
    where
      go : (a : Bool) → is_free io ≡ a → (b : Bool) → is_read_or_write low ≡ b → (r : Bool) → has_room io ≡ r
          → SoundDrive (drive_after (cond a (cond b (cond r (Accepted (new_drive io)) NoRoom) Cleared) Ignored) d) (io_after low (cond a (cond b (cond r (Accepted (new_drive io)) NoRoom) Cleared) Ignored) io)
      go true e true q true p =
          sound-begun (leb-true 1 low (and_left (leb 1 low) (leb low 2) q)) (leb-true low 2 (and_right (leb 1 low) (leb low 2) q)) fits (leb-true _ 3968 p)
      go true e true q false p = s
      go true e false q r p = sound_cleared (eqb-true _ 0 e)
      go false e b q r p = s

  -- While the disk is busy a write to diskcmd is ignored.
  pub busy_ignores : 0 < d.left → taken low io ≡ Ignored
  unfolding taken
  busy_ignores h = let one = (s.busy h).0 in rw one

-- ---- the test

module _ (d : Drive) (io : List ℕ) where
  pub test_sound : is_sound_drive d (get_or io diskstatus 0) (get_or io diskcmd 0) ≡ true → SoundDrive d io
  test_sound = go (eqb d.left 0) refl
    where
      go : (t : Bool) → eqb d.left 0 ≡ t → cond t (is_sound_free d (get_or io diskstatus 0) (get_or io diskcmd 0)) (is_sound_busy d (get_or io diskstatus 0) (get_or io diskcmd 0)) ≡ true → SoundDrive d io
      go true e h =
          let left = eqb-true d.left 0 e in
          let a = eqb (get_or io diskstatus 0) 0 in
          let b = eqb (get_or io diskcmd 0) 0 in
          let s = eqb d.sector 0 in
          let three = and_left (a && b && s) (eqb d.buffer 0) h in
          let two = and_left (a && b) s three in
          let status = eqb-true (get_or io diskstatus 0) 0 (and_left a b two) in
          let command = eqb-true (get_or io diskcmd 0) 0 (and_right a b two) in
          let sector = eqb-true d.sector 0 (and_right (a && b) s three) in
          let buffer = eqb-true d.buffer 0 (and_right (a && b && s) (eqb d.buffer 0) h) in
          record { left = omega arith; sector = omega arith; buffer = omega arith; busy = λ q. absurd (omega arith); free = λ q. (status, command, sector, buffer) }
      go false e h =
          let more = eqb-false d.left 0 e in
          let a = eqb (get_or io diskstatus 0) 1 in
          let b = is_read_or_write (get_or io diskcmd 0) in
          let l = leb d.left 1024 in
          let s = leb d.sector 127 in
          let four = and_left (a && b && l && s) (leb d.buffer 3968) h in
          let three = and_left (a && b && l) s four in
          let two = and_left (a && b) l three in
          let command = and_right a b two in
          let some = leb-true 1 (get_or io diskcmd 0) (and_left (leb 1 (get_or io diskcmd 0)) (leb (get_or io diskcmd 0) 2) command) in
          let few = leb-true (get_or io diskcmd 0) 2 (and_right (leb 1 (get_or io diskcmd 0)) (leb (get_or io diskcmd 0) 2) command) in
          record {
            left = leb-true d.left 1024 (and_right (a && b) l three);
            sector = leb-true d.sector 127 (and_right (a && b && l) s four);
            buffer = leb-true d.buffer 3968 (and_right (a && b && l && s) (leb d.buffer 3968) h);
            busy = λ q. (eqb-true (get_or io diskstatus 0) 1 (and_left a b two), some, few);
            free = λ q. absurd (more q);
          }

  pub sound_test : SoundDrive d io → is_sound_drive d (get_or io diskstatus 0) (get_or io diskcmd 0) ≡ true
  sound_test s = go (eqb d.left 0) refl
    where
      go : (t : Bool) → eqb d.left 0 ≡ t → cond t (is_sound_free d (get_or io diskstatus 0) (get_or io diskcmd 0)) (is_sound_busy d (get_or io diskstatus 0) (get_or io diskcmd 0)) ≡ true
      go true e = let f = s.free (eqb-true d.left 0 e) in rw (f.0, f.1, f.2, f.3)
      go false e =
          let more = eqb-false d.left 0 e in
          let b = s.busy (omega arith) in
          rw (b.0, le-leb 1 (get_or io diskcmd 0) b.1, le-leb (get_or io diskcmd 0) 2 b.2, le-leb d.left 1024 s.left, le-leb d.sector 127 s.sector, le-leb d.buffer 3968 s.buffer)
