-- The lengths that document 01 names, and question 1.
use Rattle.std.specs.Prelude.{ℕ, ◌+◌, ◌*◌, ◌%◌, ◌^◌, ◌-◌, Bool, ◌&&◌, eqb, leb, ltb}

-- "The instruction image is 4,096 words held in 64 bits .. The data memory is 4,096 words of 32 bits, the disk 16,384 such words (128
-- sectors of 128), the frame 65,536 bytes."
abbrev pub image_words : ℕ
image_words = 4096

abbrev pub data_words : ℕ
data_words = 4096

abbrev pub frame_bytes : ℕ
frame_bytes = 65536

abbrev pub sector_words : ℕ
sector_words = 128

abbrev pub disk_sectors : ℕ
disk_sectors = 128

abbrev pub disk_words : ℕ
disk_words = disk_sectors * sector_words

-- "one word a line, 12, 8 or 2 hex digits (instructions, words, frame)"
abbrev pub image_digits : ℕ
image_digits = 12

abbrev pub word_digits : ℕ
word_digits = 8

abbrev pub frame_digits : ℕ
frame_digits = 2

-- "below 2^40-1": the cycle limit, which cycles of the irq2 file lie below. "1 to 13 digits": as many as it has.
abbrev pub cycle_limit : ℕ
cycle_limit = 2 ^ 40 - 1

abbrev pub cycle_digits : ℕ
cycle_digits = 13

-- "are the lent lengths those above .. ? 1". Several wrong ones are one no.
abbrev pub is_image_length : ℕ → Bool
is_image_length n = eqb n image_words

abbrev pub is_data_length : ℕ → Bool
is_data_length n = eqb n data_words

abbrev pub is_disk_length : ℕ → Bool
is_disk_length n = eqb n disk_words

abbrev pub is_frame_length : ℕ → Bool
is_frame_length n = eqb n frame_bytes

-- "hold whole sectors, at least one; its reader fills such a part": as many words as a part of the disk can have. Where a lent slice starts in
-- the disk can't be asked of it.
abbrev pub is_part_length : ℕ → Bool
is_part_length n = eqb (n % sector_words) 0 && leb sector_words n && leb n disk_words

-- "The disk is written from parts that start at a sector's first word and hold whole sectors, at least one": the disk, n words, is lent whole,
-- and so many of its sectors are named, from sector `first` on.
abbrev pub is_disk_part : ℕ → ℕ → ℕ → Bool
is_disk_part n first sectors = is_disk_length n && ltb 0 sectors && leb (first + sectors) disk_sectors
