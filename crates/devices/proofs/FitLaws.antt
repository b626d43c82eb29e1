-- The devices' steps keep what fits: the I/O registers, and the lengths and words of the data memory and the disk. Assumes nothing.
use Rattle.std.proofs.Common.{◌≡◌, ℕ, ◌+◌, ◌-◌, ◌%◌, ◌^◌, ◌<◌, Bool, true, false, cond, eqb, ltb, List, length, get_or, set, refl, ◌∙◌, length-set}
use Rattle.text.specs.Ranges.{Below}
use Rattle.text.proofs.RangeLaws.{holds_after}
use Rattle.devices.specs.declared.Taken.{Taken}
use Rattle.devices.specs.declared.Taken.TheVariants.{Ignored, Cleared, Accepted, NoRoom}
use Rattle.devices.specs.Numbers.{irq0status, irq1status, clks, timerenable, timercurrent, timermax, diskcmd, diskstatus}
use Rattle.devices.specs.Timer.{timed}
use Rattle.devices.specs.Bus.{Bus, with_io}
use Rattle.devices.specs.Command.{io_after}
use Rattle.devices.specs.Disk.{in_memory, on_disk, is_due, word_due, memory_served, disk_served, freed, io_fallen, served, disk_stepped}
use Rattle.devices.specs.Devices.{clocked, devices_stepped}
use Rattle.devices.proofs.TimerLaws.{length-timed}
use Rattle.devices.proofs.DriveLaws.{length-clocked, length-freed}

-- ---- the I/O registers

-- A rule of what I/O register n may hold, that lets in what the devices write.
pub record Lets (P : ℕ → ℕ → Type 0) : Type 0 where
  pub timer-asks : P irq0status 1
  pub current : (x : ℕ) → P timercurrent (x % 2 ^ 32)
  pub disk-asks : P irq1status 1
  pub command : P diskcmd 0
  pub status : P diskstatus 0
  pub clock : (x : ℕ) → P clks (x % 2 ^ 32)

abbrev pub Holds : (ℕ → ℕ → Type 0) → List ℕ → Type 0
Holds P io = (n : ℕ) → P n (get_or io n 0)

module _ (P : ℕ → ℕ → Type 0) (lets : Lets P) where
  holds-timed : (io : List ℕ) → Holds P io → Holds P (timed io)
  unfolding timed
  holds-timed io h = go (eqb (get_or io timerenable 0) 1) (eqb (get_or io timercurrent 0) (get_or io timermax 0))
    where
      go : (t u : Bool)
          → Holds P (cond t (cond u (set (set io irq0status 1) timercurrent 0) (set io timercurrent ((get_or io timercurrent 0 + 1) % 2 ^ 32))) io)
      go true true = holds_after (set io irq0status 1) timercurrent 0 P (holds_after io irq0status 1 P h lets.timer-asks) (lets.current 0)
      go true false = holds_after io timercurrent _ P h (lets.current (get_or io timercurrent 0 + 1))
      go false u = h

  holds-clocked : (io : List ℕ) → Holds P io → Holds P (clocked io)
  unfolding clocked
  holds-clocked io h = holds_after io clks _ P h (lets.clock (get_or io clks 0 + 1))

  holds_fallen : (left : ℕ) (io : List ℕ) → Holds P io → Holds P (io_fallen left io)
  unfolding io_fallen freed
  holds_fallen left io h = go (eqb left 0)
    where
      go : (t : Bool) → Holds P (cond t (freed io) io)
      go true =
          holds_after (set (set io diskcmd 0) diskstatus 0) irq1status 1 P
          (holds_after (set io diskcmd 0) diskstatus 0 P (holds_after io diskcmd 0 P h lets.command) lets.status) lets.disk-asks
      go false = h

  pub holds-stepped : (began : ℕ) (b : Bus) → Holds P b.io → Holds P (devices_stepped began b).io
  unfolding devices_stepped disk_stepped served
  holds-stepped began b h = go (ltb 0 began)
    where
      t : Bus
      t = with_io (timed b.io) b

      go : (u : Bool) → Holds P (clocked (cond u (served t) t).io)
      go true = holds-clocked _ (holds_fallen (b.drive.left - 1) (timed b.io) (holds-timed b.io h))
      go false = holds-clocked _ (holds-timed b.io h)

  -- An out to diskcmd.
  pub holds-taken : (low : ℕ) (t : Taken) (io : List ℕ) → P diskcmd low → P diskstatus 1 → Holds P io → Holds P (io_after low t io)
  holds-taken low Ignored io c one h = h
  holds-taken low Cleared io c one h = holds_after io diskcmd 0 P h lets.command
  holds-taken low (Accepted d) io c one h = holds_after (set io diskcmd low) diskstatus 1 P (holds_after io diskcmd low P h c) one
  holds-taken low NoRoom io c one h = h

-- ---- lengths

pub length_taken : (low : ℕ) (t : Taken) (io : List ℕ) → length (io_after low t io) ≡ length io
length_taken low Ignored io = refl
length_taken low Cleared io = length-set io diskcmd 0
length_taken low (Accepted d) io = simp length-set
length_taken low NoRoom io = refl

pub record SameLengths (b after : Bus) : Type 0 where
  pub io : length after.io ≡ length b.io
  pub memory : length after.memory ≡ length b.memory
  pub disk : length after.disk ≡ length b.disk

length_fallen : (left : ℕ) (io : List ℕ) → length (io_fallen left io) ≡ length io
unfolding io_fallen
length_fallen left io = go (eqb left 0)
  where
    go : (t : Bool) → length (cond t (freed io) io) ≡ length io
    go true = length-freed io
    go false = refl

length-set_if : (t u : Bool) (l : List ℕ) (n x : ℕ) → (length (cond t (cond u (set l n x) l) l) ≡ length l) × (length (cond t (cond u l (set l n x)) l) ≡ length l)
length-set_if true true l n x = (length-set l n x, refl)
length-set_if true false l n x = (refl, length-set l n x)
length-set_if false u l n x = (refl, refl)

pub lengths-stepped : (began : ℕ) (b : Bus) → SameLengths b (devices_stepped began b)
unfolding devices_stepped disk_stepped served memory_served disk_served
lengths-stepped began b = go (ltb 0 began)
  where
    t : Bus
    t = with_io (timed b.io) b

    left : ℕ
    left = b.drive.left - 1

    go : (u : Bool) → SameLengths b (with_io (clocked (cond u (served t) t).io) (cond u (served t) t))
    go true =
        record {
          io = length-clocked _ ∙ length_fallen left (timed b.io) ∙ length-timed b.io;
          memory = (length-set_if (is_due left) (eqb (get_or (timed b.io) diskcmd 0) 1) b.memory (in_memory b.drive (word_due left)) _).0;
          disk = (length-set_if (is_due left) (eqb (get_or (timed b.io) diskcmd 0) 1) b.disk (on_disk b.drive (word_due left)) _).1;
        }
    go false = record { io = length-clocked _ ∙ length-timed b.io; memory = refl; disk = refl }

-- ---- words

below_set_if : (limit : ℕ) (t u : Bool) (l : List ℕ) (n x : ℕ) → Below limit l → x < limit
    → Below limit (cond t (cond u (set l n x) l) l) × Below limit (cond t (cond u l (set l n x)) l)
below_set_if limit true true l n x h less = (holds_after l n x (λ k v. v < limit) h less, h)
below_set_if limit true false l n x h less = (h, holds_after l n x (λ k v. v < limit) h less)
below_set_if limit false u l n x h less = (h, h)

pub below_stepped : (limit began : ℕ) (b : Bus) → Below limit b.memory → Below limit b.disk → Below limit (devices_stepped began b).memory × Below limit (devices_stepped began b).disk
unfolding devices_stepped disk_stepped served memory_served disk_served
below_stepped limit began b m d = go (ltb 0 began)
  where
    t : Bus
    t = with_io (timed b.io) b

    left : ℕ
    left = b.drive.left - 1

    go : (u : Bool) → Below limit (cond u (served t) t).memory × Below limit (cond u (served t) t).disk
    go true =
        let read = eqb (get_or (timed b.io) diskcmd 0) 1 in
        let at = in_memory b.drive (word_due left) in
        let from = on_disk b.drive (word_due left) in
        ((below_set_if limit (is_due left) read b.memory at _ m (d from)).0, (below_set_if limit (is_due left) read b.disk from _ d (m at)).1)
    go false = (m, d)
