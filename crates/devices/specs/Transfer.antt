-- A command and its 1,024 cycles in any computer, of which the bus alone is seen.
use Rattle.std.specs.Prelude.{◌≡◌, ℕ, ◌+◌, ◌*◌, ◌<◌, ◌≤◌, length, slice_index, slice_index_or}
use Rattle.devices.specs.Numbers.{irq1status, diskcmd, diskstatus, device_registers}
use Rattle.devices.specs.Bus.{Bus, drive_of, free_drive}
use Rattle.devices.specs.Disk.{memory_moved, disk_moved}
use Rattle.devices.specs.Devices.{devices_stepped}

-- What no instruction changes while the disk is busy.
pub record Keeps (b four : Bus) : Type 0 where
  pub drive : four.drive ≡ b.drive
  pub command : slice_index_or four.io diskcmd 0 ≡ slice_index b.io diskcmd
  pub status : slice_index_or four.io diskstatus 0 ≡ slice_index b.io diskstatus

-- A cycle of any computer: its bus before the cycle, after step 4 (`four`) and after the cycle. `keeps` is all that the laws ask of step 4.
pub record Cycled (b four after : Bus) : Type 0 where
  pub all : device_registers ≤ length four.io
  pub keeps : 0 < b.drive.left → Keeps b four
  pub ends : after ≡ devices_stepped b.drive.left four

-- The disk is busy with a command, with so many cycles to go.
pub record Busy (left command sector buffer : ℕ) (b : Bus) : Type 0 where
  pub drive : b.drive ≡ drive_of left sector buffer
  pub command-is : slice_index_or b.io diskcmd 0 ≡ command
  pub status : slice_index_or b.io diskstatus 0 ≡ 1

-- The disk got free in this cycle and asks for its interrupt.
pub record GotFree (b : Bus) : Type 0 where
  pub drive : b.drive ≡ free_drive
  pub command : slice_index_or b.io diskcmd 0 ≡ 0
  pub status : slice_index_or b.io diskstatus 0 ≡ 0
  pub asks : slice_index_or b.io irq1status 0 ≡ 1

-- The disk moved no word in this cycle.
pub record NoWord (four after : Bus) : Type 0 where
  pub memory : after.memory ≡ four.memory
  pub disk : after.disk ≡ four.disk

-- In its step of this cycle the disk moved word k of that sector, and nothing else.
pub record WordMoved (k command sector buffer : ℕ) (four after : Bus) : Type 0 where
  pub memory : after.memory ≡ memory_moved command (buffer + k) (128 * sector + k) four.memory four.disk
  pub disk : after.disk ≡ disk_moved command (buffer + k) (128 * sector + k) four.memory four.disk
