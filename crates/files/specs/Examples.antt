-- The definitions computed on small files.
use Rattle.std.specs.Prelude.{◌≡◌, refl, true, false, [], ◌∷◌, ◌++◌, replicate}
use Rattle.text.specs.Bytes.{bytes}
use Rattle.text.specs.Questions.{accepted, refused, first_bad}
use Rattle.text.specs.Numerals.{digits, all_digits, value}
use Rattle.text.specs.Lines.{lines, unlines}
use Rattle.files.specs.Sizes.{is_frame_length, is_part_length, is_disk_part}
use Rattle.files.specs.MemoryFile.{lines_outcome, read_outcome, write_outcome, file_words, file_text, sectors_of}
use Rattle.files.specs.Irq2File.{is_cycle, irq2_outcome, file_cycles}

-- The bytes 0x0A and 0xFF are written `0A` LF `FF` LF.
written : file_text 2 (0x0A ∷ 0xFF ∷ []) ≡ bytes "0A\nFF\n"
unfolding file_text unlines digits
written = refl

-- `0a` LF `FF` fills three bytes, the third with zero.
filled : file_words 3 (lines (bytes "0a\nFF")) ≡ 0x0A ∷ 0xFF ∷ 0 ∷ []
unfolding file_words lines value
filled = refl

-- It is accepted where there is room for it, and refused where its second line has none.
room_for_both : lines_outcome 2 3 (bytes "0a\nFF") ≡ accepted 0
unfolding lines_outcome first_bad lines all_digits
room_for_both = refl

room_for_one : lines_outcome 2 1 (bytes "0a\nFF") ≡ refused 10 2
unfolding lines_outcome first_bad lines all_digits
room_for_one = refl

-- `00` LF LF: the empty line is 9 where a word is left for it, 10 where none is.
empty_line : lines_outcome 2 3 (bytes "00\n\n") ≡ refused 9 2
unfolding lines_outcome first_bad lines all_digits
empty_line = refl

empty_line_past_the_end : lines_outcome 2 1 (bytes "00\n\n") ≡ refused 10 2
unfolding lines_outcome first_bad lines all_digits
empty_line_past_the_end = refl

-- `00` CR LF.
carriage_return : lines_outcome 2 3 (bytes "00\r\n") ≡ refused 9 1
unfolding lines_outcome first_bad lines all_digits
carriage_return = refl

-- A wrong length is asked first.
wrong_length : read_outcome 2 is_frame_length 3 (bytes "\n") ≡ refused 1 0
unfolding read_outcome
wrong_length = refl

-- `5` LF `05` is no rising file; `5` LF `06` is one, of two cycles.
equal_cycles : irq2_outcome 9 (bytes "5\n05") ≡ refused 12 2
unfolding irq2_outcome first_bad lines all_digits value
equal_cycles = refl

rising-cycles : irq2_outcome 9 (bytes "5\n06") ≡ accepted 2
unfolding irq2_outcome first_bad lines all_digits value
rising-cycles = refl

two_cycles : file_cycles (bytes "5\n06") ≡ 5 ∷ 6 ∷ []
unfolding lines value
two_cycles = refl

-- Sectors 126 and 127 are a part of the disk; 127 and 128 are not. 256 words are a part, 200 are not.
last_sectors : is_disk_part 16384 126 2 ≡ true
last_sectors = refl

past_the_disk : is_disk_part 16384 127 2 ≡ false
past_the_disk = refl

whole_sectors : is_part_length 256 ≡ true
whole_sectors = refl

no_whole_sectors : is_part_length 200 ≡ false
no_whole_sectors = refl

-- Of two sectors the second is the part from sector 1 on.
second-sector : sectors_of (replicate 128 7 ++ replicate 128 8) 1 1 ≡ replicate 128 8
second-sector = refl

-- A file of no lines is good.
empty_file : lines_outcome 2 3 [] ≡ accepted 0
unfolding lines_outcome first_bad lines
empty_file = refl

-- Bits above 47 are not written.
high_bits : file_text 12 (0xFFFF_8000_0000_0001 ∷ []) ≡ bytes "800000000001\n"
unfolding file_text unlines digits
high_bits = refl

-- Three bytes of text fit three, and not two; question 1 comes first.
exact_room : write_outcome true (bytes "0A\n") 3 ≡ accepted 3
unfolding write_outcome
exact_room = refl

one_byte_short : write_outcome true (bytes "0A\n") 2 ≡ refused 15 0
unfolding write_outcome
one_byte_short = refl

length-first : write_outcome false (bytes "0A\n") 2 ≡ refused 1 0
unfolding write_outcome
length-first = refl

-- 2^40-2 is the last good cycle; 14 digits are too many, whatever they stand for.
last-cycle : is_cycle (bytes "1099511627774") ≡ true
unfolding all_digits value
last-cycle = refl

limit : is_cycle (bytes "1099511627775") ≡ false
unfolding all_digits value
limit = refl

fourteen_digits : is_cycle (bytes "00000000000001") ≡ false
unfolding all_digits value
fourteen_digits = refl
