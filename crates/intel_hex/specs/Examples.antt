-- The definitions computed on small texts, by the sentences of document 02.
use Rattle.std.specs.Prelude.{ℕ, ◌≡◌, refl, List, [], ◌∷◌, ◌++◌, map, replicate}
use Prim.Native.Char.{code}
use Prim.Native.String.{String}
use Rattle.text.specs.declared.Outcome.{Outcome}
use Rattle.text.specs.Bytes.{bytes}
use Rattle.text.specs.Questions.{accepted, refused, first_bad}
use Rattle.text.specs.Numerals.{digits, all_digits}
use Rattle.text.specs.Lines.{lines, unlines}
use Rattle.text.specs.Place.{put}
use Rattle.intel_hex.specs.Words.{words_of, memory_bytes}
use Rattle.intel_hex.specs.Record.{pair_values, total, is_record}
use Rattle.intel_hex.specs.Reading.{without_cr, record_lines, free_after_all, has_end, records_outcome, hex_outcome, put_records, hex_words}
use Rattle.intel_hex.specs.Writing.{hex_text, record_line, data_record, data_lines, end_line, byte_pairs}

-- ---- written

-- Four words are one record.
four_words : hex_text (0x01020304 ∷ 0 ∷ 0xFFFFFFFF ∷ 1 ∷ []) ≡ bytes ":100000000102030400000000FFFFFFFF00000001E9\n:00000001FF\n"
unfolding hex_text unlines record_line data_lines memory_bytes byte_pairs digits total
four_words = refl

-- Eight are two, "over the whole memory", zero words too.
eight_words : hex_text (replicate 8 0) ≡ bytes ":1000000000000000000000000000000000000000F0\n:1000100000000000000000000000000000000000E0\n:00000001FF\n"
unfolding hex_text unlines record_line data_lines memory_bytes byte_pairs digits total
eight_words = refl

-- ---- read

-- Digits "of either case"; "a CR before it allowed"; "The last LF may be missing, with that CR".
read-words : hex_words 2 (bytes ":0300020001fF02F9\r\n:00000001ff\r") ≡ 0x000001FF ∷ 0x02000000 ∷ []
unfolding hex_words words_of put_records lines without_cr pair_values put
read-words = refl

-- "bytes not named are zero": those between two records and those of a word in which a record ends.
read_gap : hex_words 3 (bytes ":0100000011EE\n:0100050022D8\n:00000001FF\n") ≡ 0x11000000 ∷ 0x00220000 ∷ 0 ∷ []
unfolding hex_words words_of put_records lines without_cr pair_values put
read_gap = refl

-- The memory's length is asked first: one too short, one too long.
wrong_length : map (λ n. hex_outcome 2 n (bytes "\n")) (1 ∷ 3 ∷ []) ≡ replicate 2 (refused 1 0)
unfolding hex_outcome
wrong_length = refl

-- Two words have 8 bytes: the last one, and one past them.
memory-end : map (λ s. hex_outcome 2 2 (bytes s)) (":0100070011E7\n:00000001FF" ∷ ":0100080011E6\n:00000001FF" ∷ []) ≡ accepted 0 ∷ refused 19 1 ∷ []
unfolding hex_outcome records_outcome first_bad free_after_all has_end is_record lines without_cr pair_values total all_digits
memory-end = refl

-- All 255 bytes of a record are put.
most_bytes-put : put_records (replicate 255 0) (record_line (data_record 0 (replicate 255 1)) ∷ []) ≡ replicate 255 1
unfolding put_records put pair_values total record_line byte_pairs digits
most_bytes-put = refl

-- ---- what the records each_tells

-- Of a text, where the memory has so many bytes; and of texts where it has 8.
abbrev tells : (room : ℕ) → String → Outcome
tells room text = records_outcome room (record_lines (bytes text))

abbrev each_tells : List String → List Outcome
each_tells texts = map (tells 8) texts

-- Both texts that are read above.
good : each_tells (":0300020001fF02F9\r\n:00000001ff\r" ∷ ":0100000011EE\n:0100050022D8\n:00000001FF\n" ∷ []) ≡ replicate 2 (accepted 0)
unfolding records_outcome first_bad free_after_all has_end is_record lines without_cr pair_values total all_digits
good = refl

-- "an end record with data": 17 at its line. "or text after it": too, whether that text is a record or none.
bad_end : each_tells (":0100000111ED\n" ∷ ":00000001FF\n:0100000011EE\n" ∷ ":00000001FF\nx" ∷ []) ≡ replicate 3 (refused 17 1)
unfolding records_outcome first_bad free_after_all has_end is_record lines without_cr pair_values total all_digits
bad_end = refl

-- Any byte is text after the end: LF, CR, blank; and so is a second end.
text-after-end : each_tells (":00000001FF\n\n" ∷ ":00000001FF\n\r" ∷ ":00000001FF\n " ∷ ":00000001FF\n:00000001FF\n" ∷ []) ≡ replicate 4 (refused 17 1)
unfolding records_outcome first_bad free_after_all has_end is_record lines without_cr pair_values total all_digits
text-after-end = refl

control_z_after-end : records_outcome 8 (record_lines (bytes ":00000001FF\n" ++ (0x1A ∷ []))) ≡ refused 17 1
unfolding records_outcome first_bad free_after_all has_end is_record lines without_cr pair_values total all_digits
control_z_after-end = refl

-- An end record may have any address.
end-address : tells 8 ":00123401B9" ≡ accepted 0
unfolding records_outcome first_bad free_after_all has_end is_record lines without_cr pair_values total all_digits
end-address = refl

-- A record without bytes may have any address, past the memory or below the last byte, and the next one is asked as if it weren't there.
no_bytes : each_tells (":0100000011EE\n:00FFFF0002\n:0100010022DC\n:00000001FF" ∷ ":0100050022D8\n:0000000000\n:0100060022D7\n:00000001FF" ∷ []) ≡ replicate 2 (accepted 0)
unfolding records_outcome first_bad free_after_all has_end is_record lines without_cr pair_values total all_digits
no_bytes = refl

no_bytes_between : tells 8 ":0100050022D8\n:0000000000\n:0100050022D8\n:00000001FF" ≡ refused 19 3
unfolding records_outcome first_bad free_after_all has_end is_record lines without_cr pair_values total all_digits
no_bytes_between = refl

-- "a byte past the memory": the second byte of two from the last address on, also at the end of the disk.
last_byte : tells 8 ":0100070011E7\n:00000001FF" ≡ accepted 0
unfolding records_outcome first_bad free_after_all has_end is_record lines without_cr pair_values total all_digits
last_byte = refl

past_the_memory : tells 8 ":020007001122C4\n:00000001FF" ≡ refused 19 1
unfolding records_outcome first_bad free_after_all has_end is_record lines without_cr pair_values total all_digits
past_the_memory = refl

past_the_disk : tells 65536 ":02FFFF001122CD\n:00000001FF" ≡ refused 19 1
unfolding records_outcome first_bad free_after_all has_end is_record lines without_cr pair_values total all_digits
past_the_disk = refl

-- The disk's last byte named twice.
last_of_the_disk : tells 65536 ":01FFFF0011F0\n:01FFFF0011F0\n:00000001FF" ≡ refused 19 2
unfolding records_outcome first_bad free_after_all has_end is_record lines without_cr pair_values total all_digits
last_of_the_disk = refl

-- The ends that the last line may have; two CRs, a CR within a line, one before it and one as the only end, and a blank are of wrong form.
line-ends : each_tells (":00000001FF" ∷ ":00000001FF\r" ∷ ":00000001FF\n" ∷ ":00000001FF\r\n" ∷ []) ≡ replicate 4 (accepted 0)
unfolding records_outcome first_bad free_after_all has_end is_record lines without_cr pair_values total all_digits
line-ends = refl

wrong_ends : each_tells (":00000001FF\r\r\n" ∷ ":0000\r0001FF\n" ∷ "\r:00000001FF" ∷ ":0100000011EE\r:00000001FF\r" ∷ ":00000001FF \n" ∷ []) ≡ replicate 5 (refused 17 1)
unfolding records_outcome first_bad free_after_all has_end is_record lines without_cr pair_values total all_digits
wrong_ends = refl

-- An empty line is of wrong form, also one of a CR or a blank; after a record it is so at its own line.
empty_line : each_tells ("\n" ∷ "\r\n" ∷ "\r" ∷ " \n" ∷ []) ≡ replicate 4 (refused 17 1)
unfolding records_outcome first_bad free_after_all has_end is_record lines without_cr pair_values total all_digits
empty_line = refl

second_lf : tells 8 ":0100000011EE\n\n" ≡ refused 17 2
unfolding records_outcome first_bad free_after_all has_end is_record lines without_cr pair_values total all_digits
second_lf = refl

-- "a missing end (18, at the line after the last)": of no lines, and of one with its LF or without.
empty_text : tells 8 "" ≡ refused 18 1
unfolding records_outcome first_bad free_after_all has_end is_record lines without_cr pair_values total all_digits
empty_text = refl

missing_end : each_tells (":0100000011EE" ∷ ":0100000011EE\n" ∷ []) ≡ replicate 2 (refused 18 2)
unfolding records_outcome first_bad free_after_all has_end is_record lines without_cr pair_values total all_digits
missing_end = refl

missing_end_of_two : tells 8 ":0100000011EE\n:0100010022DC\n" ≡ refused 18 3
unfolding records_outcome first_bad free_after_all has_end is_record lines without_cr pair_values total all_digits
missing_end_of_two = refl

-- "a wrong form": a blank before the `:`, no `:`, another byte in its place, one digit more, a byte more or less than the count says.
wrong_form : each_tells (" :00000001FF" ∷ "00000001FF" ∷ ";00000001FF" ∷ ":00000001FF0" ∷ ":00000001FF00" ∷ ":0200000011ED" ∷ []) ≡ replicate 6 (refused 17 1)
unfolding records_outcome first_bad free_after_all has_end is_record lines without_cr pair_values total all_digits
wrong_form = refl

-- "digit or checksum": the value of `G` would give the right sum, in the address, the type, the data and the checksum; and in the count.
wrong_digit : each_tells (":00G00001FF" ∷ ":0000FG01FF" ∷ ":000000G1FF" ∷ ":010000000GEF" ∷ ":00000000FG" ∷ []) ≡ replicate 5 (refused 17 1)
unfolding records_outcome first_bad free_after_all has_end is_record lines without_cr pair_values total all_digits
wrong_digit = refl

wrong_count : records_outcome 256 ((bytes ":G0000000" ++ replicate 514 (code "0")) ∷ []) ≡ refused 17 1
unfolding records_outcome first_bad free_after_all has_end is_record pair_values total all_digits
wrong_count = refl

-- Wrong by 1, wrong by 128, and 00 on a data record.
wrong_checksum : each_tells (":00000001FE" ∷ ":000000017F" ∷ ":010000001100" ∷ []) ≡ replicate 3 (refused 17 1)
unfolding records_outcome first_bad free_after_all has_end is_record lines without_cr pair_values total all_digits
wrong_checksum = refl

-- "at the first bad record": 19 on line 2 is before 17 on line 3.
first_bad_lem : tells 8 ":0100000011EE\n:0100000011EE\nx\n" ≡ refused 19 2
unfolding records_outcome first_bad free_after_all has_end is_record lines without_cr pair_values total all_digits
first_bad_lem = refl

-- "in this order": another type with a wrong checksum and an end with data past the memory are 17; another type past the memory is 18.
order_17 : each_tells (":020000040000FB" ∷ ":01FFFF010000" ∷ []) ≡ replicate 2 (refused 17 1)
unfolding records_outcome first_bad free_after_all has_end is_record lines without_cr pair_values total all_digits
order_17 = refl

order_18 : tells 8 ":01FFFF0200FF" ≡ refused 18 1
unfolding records_outcome first_bad free_after_all has_end is_record lines without_cr pair_values total all_digits
order_18 = refl

-- "a first address not above the last byte named before it": the last byte's own address, and not the next one.
next_address : tells 8 ":020000001122CB\n:0100020033CA\n:00000001FF" ≡ accepted 0
unfolding records_outcome first_bad free_after_all has_end is_record lines without_cr pair_values total all_digits
next_address = refl

last-address_again : tells 8 ":020000001122CB\n:0100010033CB\n:00000001FF" ≡ refused 19 2
unfolding records_outcome first_bad free_after_all has_end is_record lines without_cr pair_values total all_digits
last-address_again = refl

-- A record may have 255 data bytes.
most_bytes_lem : records_outcome 255 (record_line (data_record 0 (replicate 255 0)) ∷ end_line ∷ []) ≡ accepted 0
unfolding records_outcome first_bad free_after_all has_end is_record pair_values total all_digits record_line byte_pairs digits
most_bytes_lem = refl

-- "another type": 04, of two bytes or three; 02, 10 and 80 without bytes; 03 and 05.
other_type : each_tells (":020000040000FA\n:00000001FF" ∷ ":03000004000000F9\n:00000001FF" ∷ ":00000002FE" ∷ ":00000010F0" ∷ ":0000008080" ∷ ":0400000300003800C1" ∷ ":04000005000000CD2A" ∷ []) ≡ replicate 7 (refused 18 1)
unfolding records_outcome first_bad free_after_all has_end is_record lines without_cr pair_values total all_digits
other_type = refl
