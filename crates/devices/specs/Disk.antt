-- The disk's step of a cycle, step 6.
use Rattle.std.specs.Prelude.{ℕ, ◌+◌, ◌-◌, ◌*◌, ◌/◌, ◌%◌, ◌≤◌, Bool, cond, List, length, ◌==◌, nat_lt, slice_index, slice_set}
use Rattle.devices.specs.declared.Drive.{Drive}
use Rattle.devices.specs.Numbers.{irq1status, diskcmd, diskstatus, device_registers}
use Rattle.devices.specs.Bus.{Bus, bus, drive_of, free_drive}

-- ---- a word moves

-- Where word k of the sector stands in the data memory and on the disk: at the buffer and in the sector that were taken.
abbrev pub in_memory : Drive → ℕ → ℕ
in_memory d k = d.buffer + k

abbrev pub on_disk : Drive → ℕ → ℕ
on_disk d k = 128 * d.sector + k

-- The data memory and the disk after a word has moved between an address of the one and a place of the other: 1 is read, 2 write.
abbrev pub memory_moved : ℕ → ℕ → ℕ → List ℕ → List ℕ → List ℕ
memory_moved command address place memory disk = cond (command == 1) (slice_set memory address (slice_index disk place)) memory

abbrev pub disk_moved : ℕ → ℕ → ℕ → List ℕ → List ℕ → List ℕ
disk_moved command address place memory disk = cond (command == 1) disk (slice_set disk place (slice_index memory address))

-- "A command accepted in cycle c moves word k of the sector, k from 0 to 127, in the disk's step of cycle c+8(k+1)": that is the step after
-- which `left` is 1024 - 8(k+1). The word is the one that stands there after step 4 of this cycle, not the one at the command.
abbrev pub is_due : ℕ → Bool
is_due left = left % 8 == 0

abbrev pub word_due : ℕ → ℕ
word_due left = 127 - left / 8

-- ---- the step of a busy disk; `left` are the cycles to go after it

unfoldable pub memory_served : ℕ → Bus → List ℕ
memory_served left b =
    let k = word_due left in
    cond (is_due left) (memory_moved (slice_index b.io diskcmd) (in_memory b.drive k) (on_disk b.drive k) b.memory b.disk) b.memory

unfoldable pub disk_served : ℕ → Bus → List ℕ
disk_served left b =
    let k = word_due left in
    cond (is_due left) (disk_moved (slice_index b.io diskcmd) (in_memory b.drive k) (on_disk b.drive k) b.memory b.disk) b.disk

-- The I/O registers of a disk that gets free: "diskcmd = 0, diskstatus = 0, irq1status = 1".
unfoldable pub freed : List ℕ → List ℕ
freed io = slice_set (slice_set (slice_set io diskcmd 0) diskstatus 0) irq1status 1

-- "it falls by one; on reaching 0, diskcmd = 0, diskstatus = 0, irq1status = 1", and sector and buffer are zero.
unfoldable pub drive_fallen : ℕ → Drive → Drive
drive_fallen left d = cond (left == 0) free_drive (drive_of left d.sector d.buffer)

unfoldable pub io_fallen : ℕ → List ℕ → List ℕ
io_fallen left io = cond (left == 0) (freed io) io

unfoldable pub served : Bus → Bus
served b =
    let left = b.drive.left - 1 in
    bus (drive_fallen left b.drive) (io_fallen left b.io) (memory_served left b) (disk_served left b)

-- ---- "6. If left was above 0 when the cycle began ..": `began` are the cycles to go then

unfoldable pub disk_stepped : ℕ → Bus → Bus
disk_stepped began b = cond (nat_lt 0 began) (served b) b

-- What the code is lent has the I/O registers of the devices and the whole sector.
pub record HasSector (d : Drive) (io memory disk : List ℕ) : Type 0 where
  pub all : device_registers ≤ length io
  pub left : d.left ≤ 1024
  pub buffer-fits : d.buffer + 128 ≤ length memory
  pub sector-fits : 128 * d.sector + 128 ≤ length disk
