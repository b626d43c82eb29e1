-- An out to diskcmd: when a command is taken, and what it starts.
use Rattle.std.specs.Prelude.{ℕ, Bool, cond, ◌&&◌, List, ◌==◌, nat_le, slice_index, slice_set}
use Rattle.devices.specs.declared.Drive.{Drive}
use Rattle.devices.specs.declared.Taken.{Taken}
use Rattle.devices.specs.declared.Taken.TheVariants.{Ignored, Cleared, Accepted, NoRoom}
use Rattle.devices.specs.Numbers.{diskcmd, disksector, diskbuffer, diskstatus}
use Rattle.devices.specs.Bus.{drive_of}

-- "The disk is free when diskstatus is 0."
abbrev pub is_free : List ℕ → Bool
is_free io = slice_index io diskstatus == 0

-- "1 (read) or 2 (write)"
abbrev pub is_read_or_write : ℕ → Bool
is_read_or_write low = nat_le 1 low && nat_le low 2

-- "diskbuffer at most 3968": a sector from diskbuffer up lies within M.
abbrev pub has_room : List ℕ → Bool
has_room io = nat_le (slice_index io diskbuffer) 3968

-- "left = 1024"; "Sector and buffer are taken at acceptance."
abbrev pub new_drive : List ℕ → Drive
new_drive io = drive_of 1024 (slice_index io disksector) (slice_index io diskbuffer)

-- A read or write that finds the disk free: "5 diskbuffer above 3968 at a disk command, which is then not accepted".
abbrev pub attempted : List ℕ → Taken
attempted io = cond (has_room io) (Accepted (new_drive io)) NoRoom

-- "diskcmd ignores writes while diskstatus is 1; free, it takes 1 (read) or 2 (write) as a command and stores 0 for 0 or 3". `low` are the
-- low bits.
unfoldable pub taken : ℕ → List ℕ → Taken
taken low io = cond (is_free io) (cond (is_read_or_write low) (attempted io) Cleared) Ignored

-- The disk's part of the record after it, ..
abbrev pub drive_after : Taken → Drive → Drive
drive_after Ignored d = d
drive_after Cleared d = d
drive_after (Accepted n) d = n
drive_after NoRoom d = d

-- .. and the I/O registers: "diskstatus = 1", and diskcmd holds the command.
abbrev pub io_after : ℕ → Taken → List ℕ → List ℕ
io_after low Ignored io = io
io_after low Cleared io = slice_set io diskcmd 0
io_after low (Accepted n) io = slice_set (slice_set io diskcmd low) diskstatus 1
io_after low NoRoom io = io
