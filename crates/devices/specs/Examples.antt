-- The definitions computed on small cases.
use Rattle.std.specs.Prelude.{◌≡◌, ℕ, true, false, List, [], ◌∷◌, get_or, replicate, slice_index_or, slice_set, refl}
use Rattle.devices.specs.declared.Taken.TheVariants.{Ignored, Cleared, Accepted, NoRoom}
use Rattle.devices.specs.Numbers.{irq0status, irq1status, clks, timerenable, timercurrent, timermax, diskcmd, disksector, diskbuffer, diskstatus}
use Rattle.devices.specs.Bus.{Bus, bus, with_io, drive_of, free_drive}
use Rattle.devices.specs.Timer.{timed}
use Rattle.devices.specs.Command.{taken}
use Rattle.devices.specs.Disk.{is_due, word_due, memory_served, disk_served, freed, drive_fallen, io_fallen, served, disk_stepped}
use Rattle.devices.specs.Soundness.{is_sound_drive}
use Rattle.devices.specs.Devices.{clocked, devices_stepped}

-- "timermax 2, timercurrent 0, enabled in cycle 5: irq0status rises at the end of 7": not in its first and second step, but in the third.
enabled : List ℕ
enabled = slice_set (slice_set (replicate 23 0) timermax 2) timerenable 1

two_steps : get_or (timed (timed enabled)) irq0status 0 ≡ 0
unfolding enabled timed
two_steps = refl

three_steps : get_or (timed (timed (timed enabled))) irq0status 0 ≡ 1
unfolding enabled timed
three_steps = refl

-- Above timermax the timer counts on, and wraps.
counts_on : get_or (timed (slice_set enabled timercurrent 3)) timercurrent 7 ≡ 4
unfolding enabled timed
counts_on = refl

wraps : get_or (timed (slice_set enabled timercurrent 0xFFFFFFFF)) timercurrent 7 ≡ 0
unfolding enabled timed
wraps = refl

-- ---- a command: sector 5, buffer 3968

asked : List ℕ
asked = slice_set (slice_set (replicate 18 0) disksector 5) diskbuffer 3968

accepted : taken 1 asked ≡ Accepted (drive_of 1024 5 3968)
unfolding asked taken
accepted = refl

-- "diskbuffer 3968 accepted, 3969 status 5"
no_room : taken 2 (slice_set asked diskbuffer 3969) ≡ NoRoom
unfolding asked taken
no_room = refl

no_command : taken 3 asked ≡ Cleared
unfolding asked taken
no_command = refl

-- Busy, a command is ignored whatever diskbuffer holds.
ignored : taken 1 (slice_set (slice_set asked diskbuffer 3969) diskstatus 1) ≡ Ignored
unfolding asked taken
ignored = refl

-- ---- the disk's step: a disk of two sectors, of which sector 1 has 0xFFFFFFFE first and 1127 last, and a memory of 130 words with the buffer at 2

-- A command accepted in cycle c: word 0 moves in c+8, word 1 in c+16, word 127 in c+1024, none in c+1 to c+7 nor in c+1023.
due : (is_due 1016 ≡ true) × (word_due 1016 ≡ 0) × (is_due 1008 ≡ true) × (word_due 1008 ≡ 1) × (is_due 0 ≡ true) × (word_due 0 ≡ 127)
due = (refl, refl, refl, refl, refl, refl)

not_due : (is_due 1023 ≡ false) × (is_due 1020 ≡ false) × (is_due 1017 ≡ false) × (is_due 1 ≡ false)
not_due = (refl, refl, refl, refl)

-- The bus with so many cycles to go and that command; the disk registers hold another sector and another buffer by now, and most others hold something.
at_work : ℕ → ℕ → Bus
at_work left command =
    bus (drive_of left 1 2) (0 ∷ 1 ∷ 0 ∷ 1 ∷ 0 ∷ 1 ∷ 6 ∷ 7 ∷ 8 ∷ 9 ∷ 10 ∷ 0 ∷ 12 ∷ 13 ∷ command ∷ 3 ∷ 99 ∷ 1 ∷ []) (slice_set (replicate 130 7) 3 0xFFFFFFFF) (slice_set (slice_set (replicate 256 0) 128 0xFFFFFFFE) 255 1127)

-- Word 0 is read to place 2, the buffer taken, from word 128, the sector taken, and the rest stays.
first_word : served (at_work 1017 1) ≡ bus (drive_of 1016 1 2) (at_work 1017 1).io (slice_set (at_work 1017 1).memory 2 0xFFFFFFFE) (at_work 1017 1).disk
unfolding at_work served drive_fallen io_fallen memory_served disk_served
first_word = refl

-- A write moves it the other way.
first-word-back : served (at_work 1017 2) ≡ bus (drive_of 1016 1 2) (at_work 1017 2).io (at_work 1017 2).memory (slice_set (at_work 1017 2).disk 128 7)
unfolding at_work served drive_fallen io_fallen memory_served disk_served
first-word-back = refl

-- The cycle before moves none.
no_word_yet : served (at_work 1018 1) ≡ bus (drive_of 1017 1 2) (at_work 1018 1).io (at_work 1018 1).memory (at_work 1018 1).disk
unfolding at_work served drive_fallen io_fallen memory_served disk_served
no_word_yet = refl

-- With one cycle to go the last word moves and the disk gets free, with sector and buffer zero and its interrupt asked for; its registers stay.
last_word : served (at_work 1 1) ≡ bus free_drive (slice_set (slice_set (slice_set (at_work 1 1).io diskcmd 0) diskstatus 0) irq1status 1) (slice_set (at_work 1 1).memory 129 1127) (at_work 1 1).disk
unfolding at_work served drive_fallen io_fallen memory_served disk_served freed
last_word = refl

-- A command of this very cycle does not count yet; the clock does.
accepted_now : devices_stepped 0 (at_work 1024 1) ≡ bus (drive_of 1024 1 2) (slice_set (at_work 1024 1).io clks 9) (at_work 1024 1).memory (at_work 1024 1).disk
unfolding at_work devices_stepped disk_stepped clocked timed
accepted_now = refl

-- A write moves word 1, all 32 bits of it.
second-word-back : get_or (served (at_work 1009 2)).disk 129 0 ≡ 0xFFFFFFFF
unfolding at_work served memory_served disk_served
second-word-back = refl

-- Steps 5, 6 and 7 of one cycle: with the timer on, timercurrent goes on, the disk's word moves, and the clock goes on.
all_three : devices_stepped 1017 (with_io (slice_set (at_work 1017 1).io timerenable 1) (at_work 1017 1))
    ≡ bus (drive_of 1016 1 2) (slice_set (slice_set (slice_set (at_work 1017 1).io timerenable 1) timercurrent 13) clks 9) (slice_set (at_work 1017 1).memory 2 0xFFFFFFFE) (at_work 1017 1).disk
unfolding at_work devices_stepped disk_stepped served drive_fallen io_fallen memory_served disk_served clocked timed
all_three = refl

-- ---- the clock: "clks + 1, wrapping"

clock_wraps : (slice_index_or (clocked (slice_set (replicate 18 0) clks 0xFFFFFFFF)) clks 7 ≡ 0) × (slice_index_or (clocked (slice_set (replicate 18 0) clks 0x7FFFFFFF)) clks 7 ≡ 0x80000000)
unfolding clocked
clock_wraps = (refl, refl)

-- ---- soundness

-- Free: sector and buffer are zero. Busy: 1 to 1024 cycles to go, a buffer up to 3968, status 1 and a command.
sound : (is_sound_drive free_drive 0 0 ≡ true) × (is_sound_drive (drive_of 1024 127 3968) 1 2 ≡ true) × (is_sound_drive (drive_of 1 0 0) 1 1 ≡ true)
sound = (refl, refl, refl)

unsound-free : (is_sound_drive (drive_of 0 1 0) 0 0 ≡ false) × (is_sound_drive (drive_of 0 0 1) 0 0 ≡ false) × (is_sound_drive free_drive 1 0 ≡ false) × (is_sound_drive free_drive 0 1 ≡ false)
unsound-free = (refl, refl, refl, refl)

unsound-busy : (is_sound_drive (drive_of 1025 0 0) 1 1 ≡ false) × (is_sound_drive (drive_of 1 128 0) 1 1 ≡ false) × (is_sound_drive (drive_of 1 0 3969) 1 1 ≡ false)
unsound-busy = (refl, refl, refl)

unsound-command : (is_sound_drive (drive_of 1 0 0) 0 1 ≡ false) × (is_sound_drive (drive_of 1 0 0) 1 0 ≡ false) × (is_sound_drive (drive_of 1 0 0) 1 3 ≡ false)
unsound-command = (refl, refl, refl)
