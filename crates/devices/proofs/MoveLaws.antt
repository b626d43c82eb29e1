-- What the code of the disk's step leaves. Assumes nothing.
use Rattle.std.proofs.Common.{◌≡◌, ℕ, ◌+◌, ◌-◌, ◌%◌, ◌<◌, ◌≤◌, Bool, true, false, ◌&&◌, leb, List, length, get_or, take, drop, set, refl, ap, ◌∙◌, arith, get_or-drop, get_or-take, eq-eqb, ne_eqb, leb-true}
use borrow.Rule.Slice.PartMut.{put_mid, mid_len, set_mid_at}
use Rattle.devices.specs.declared.Drive.{Drive}
use Rattle.devices.specs.Numbers.{diskcmd}
use Rattle.devices.specs.Timer.{timed}
use Rattle.devices.specs.Bus.{Bus, bus, drive_of, free_drive, with_io}
use Rattle.devices.specs.Command.{is_read_or_write}
use Rattle.devices.specs.Disk.{in_memory, on_disk, memory_moved, disk_moved, word_due, memory_served, disk_served, freed, drive_fallen, io_fallen, served, disk_stepped}
use Rattle.devices.specs.Devices.{clocked, devices_stepped}

-- A word set in a part of a list, from the same place of a part of another, is one set in the whole.
pub part-set : (d s ys : List ℕ) (k at from n : ℕ) → k < n → at + n ≤ length d → from + n ≤ length s
    → ys ≡ set (take (at + n - at) (drop at d)) k (get_or (take (from + n - from) (drop from s)) k 0)
    → put_mid at (at + n - at) d ys ≡ set d (at + k) (get_or s (from + k) 0)
part-set d s ys k at from n h room whole e =
    let word : get_or (take (from + n - from) (drop from s)) k 0 ≡ get_or s (from + k) 0 = get_or-take (from + n - from) (drop from s) k 0 (omega arith) ∙ get_or-drop from s k 0 in
    let size = mid_len at (at + n) d room in
    rw (e, word) (set_mid_at at (at + n - at) k d (get_or s (from + k) 0) (omega arith))

-- A number that is neither 1 nor 2 is no command.
pub no_command : (low : ℕ) → (low ≡ 1 → ⊥) → (low ≡ 2 → ⊥) → is_read_or_write low ≡ false
no_command low one two = go (leb 1 low) refl (leb low 2) refl
  where
    go : (a : Bool) → leb 1 low ≡ a → (b : Bool) → leb low 2 ≡ b → (a && b) ≡ false
    go true e true q = let x = leb-true 1 low e in let y = leb-true low 2 q in absurd (omega arith)
    go true e false q = refl
    go false e b q = refl

-- ---- the step's three ends

module _ (d : Drive) (io memory disk : List ℕ) where
  -- No word is due, and so the disk stays busy.
  pub no_word : ((d.left - 1) % 8 ≡ 0 → ⊥) → bus (drive_of (d.left - 1) d.sector d.buffer) io memory disk ≡ served (bus d io memory disk)
  unfolding served drive_fallen io_fallen memory_served disk_served
  no_word h = rw (ne_eqb ((d.left - 1) % 8) 0 h, ne_eqb (d.left - 1) 0 (λ e. h (rw e)))

  module _ (memory-after disk-after : List ℕ) (due : (d.left - 1) % 8 ≡ 0)
      (m : memory-after ≡ memory_moved (get_or io diskcmd 0) (in_memory d (word_due (d.left - 1))) (on_disk d (word_due (d.left - 1))) memory disk)
      (s : disk-after ≡ disk_moved (get_or io diskcmd 0) (in_memory d (word_due (d.left - 1))) (on_disk d (word_due (d.left - 1))) memory disk) where
    -- A word moves, and the disk stays busy;
    pub stays-busy : (d.left - 1 ≡ 0 → ⊥) → bus (drive_of (d.left - 1) d.sector d.buffer) io memory-after disk-after ≡ served (bus d io memory disk)
    unfolding served drive_fallen io_fallen memory_served disk_served
    stays-busy h = rw (m, s, eq-eqb ((d.left - 1) % 8) 0 due, ne_eqb (d.left - 1) 0 h)

    -- or gets free.
    pub gets_free : (io-after : List ℕ) → io-after ≡ freed io → d.left - 1 ≡ 0 → bus free_drive io-after memory-after disk-after ≡ served (bus d io memory disk)
    unfolding served drive_fallen io_fallen memory_served disk_served
    gets_free io-after f h = rw (m, s, f, eq-eqb ((d.left - 1) % 8) 0 due, eq-eqb (d.left - 1) 0 h)

-- ---- steps 5 to 7

pub steps_are : (began : ℕ) (d r : Drive) (io timer after last memory disk memory-after disk-after : List ℕ) → timer ≡ timed io
    → bus r after memory-after disk-after ≡ disk_stepped began (bus d timer memory disk) → last ≡ clocked after
    → bus r last memory-after disk-after ≡ devices_stepped began (bus d io memory disk)
unfolding devices_stepped
steps_are began d r io timer after last memory disk memory-after disk-after t e q =
    rw q (ap (λ (b : Bus). with_io (clocked b.io) b) (e ∙ ap (λ (x : List ℕ). disk_stepped began (bus d x memory disk)) t))
