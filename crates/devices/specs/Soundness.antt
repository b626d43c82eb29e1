-- Which drives are sound beside the I/O registers.
use Rattle.std.specs.Prelude.{◌≡◌, ℕ, ◌<◌, ◌≤◌, Bool, cond, ◌&&◌, List, ◌==◌, nat_le, slice_index}
use Rattle.devices.specs.declared.Drive.{Drive}
use Rattle.devices.specs.Numbers.{diskcmd, diskstatus}
use Rattle.devices.specs.Command.{is_read_or_write}

-- "left at most 1024, and left > 0 exactly when diskstatus = 1 and exactly when diskcmd is 1 or 2, else diskcmd is 0"; "that sector (7 bits)
-- and buffer (12), both zero when free"; "While busy the buffer is at most 3968".
pub record SoundDrive (d : Drive) (io : List ℕ) : Type 0 where
  pub left : d.left ≤ 1024
  pub sector : d.sector ≤ 127
  pub buffer : d.buffer ≤ 3968
  pub busy : 0 < d.left → (slice_index io diskstatus ≡ 1) × (1 ≤ slice_index io diskcmd) × (slice_index io diskcmd ≤ 2)
  pub free : d.left ≡ 0 → (slice_index io diskstatus ≡ 0) × (slice_index io diskcmd ≡ 0) × (d.sector ≡ 0) × (d.buffer ≡ 0)

-- The same as a test, of diskstatus and diskcmd: sound and free, sound and busy.
abbrev pub is_sound_free : Drive → ℕ → ℕ → Bool
is_sound_free d status command = status == 0 && command == 0 && d.sector == 0 && d.buffer == 0

abbrev pub is_sound_busy : Drive → ℕ → ℕ → Bool
is_sound_busy d status command = status == 1 && is_read_or_write command && nat_le d.left 1024 && nat_le d.sector 127 && nat_le d.buffer 3968

abbrev pub is_sound_drive : Drive → ℕ → ℕ → Bool
is_sound_drive d status command = cond (d.left == 0) (is_sound_free d status command) (is_sound_busy d status command)
