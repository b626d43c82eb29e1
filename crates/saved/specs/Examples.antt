-- The definitions computed on document 01's example, with edition 2, and on refusals.
use Rattle.std.specs.Prelude.{ℕ, ◌+◌, ◌-◌, ◌*◌, ◌^◌, ◌≡◌, refl, true, false, cond, eqb, List, [], ◌∷◌, ◌++◌, map, take, drop, set, replicate}
use Rattle.text.specs.Questions.{refused}
use Rattle.bitpack.specs.Bits.{bits}
use Rattle.bitpack.specs.Packed.{total, packed, bytes_of, number_of}
use Rattle.bitpack.specs.Words.{word_of}
use Rattle.isa.specs.Registers.{io_bits}
use Rattle.machine.specs.declared.Record.{Record}
use Rattle.bitpack.specs.Format.{bytes_of_record, fields_in}
use Rattle.devices.specs.Bus.{drive_of, free_drive}
use Rattle.saved.specs.Layout.{widths, fields_of, record_of, saved_bytes, widths_one, fields_one, record_one, edition_one}
use Rattle.saved.specs.Sound.{is_sound}
use Rattle.saved.specs.Calls.{fresh_record, save_outcome, format_of, load_outcome, load_record}

-- "94 bytes"; of edition 1 "728 bits", 91 bytes.
all-bits : (total widths ≡ 8 * 94) × (total widths_one ≡ 728)
unfolding widths widths_one io_bits
all-bits = (refl, refl)

-- 23 words and 2 bytes.
words-and-bytes : total widths ≡ 32 * 23 + 8 * 2
unfolding widths io_bits
words-and-bytes = refl

-- "the run above saves as 01 20 01 00 00 00 00 02 and on", and "now begins 02, its next seven bytes as before": halted at PC 1 after two cycles, leds 5, clks 2.
halted : Record
halted = record { core = record { status = 1; handler = 0; pc = 1; age = 2; drive = free_drive }; regs = replicate 13 0; io = replicate 8 0 ++ (2 ∷ 5 ∷ []) ++ replicate 13 0 }

first-bytes : take 8 (saved_bytes halted) ≡ 0x02 ∷ 0x20 ∷ 0x01 ∷ 0x00 ∷ 0x00 ∷ 0x00 ∷ 0x00 ∷ 0x02 ∷ []
unfolding halted bytes_of_record fields_of widths io_bits bytes_of bits
first-bytes = refl

all-bytes : drop 8 (saved_bytes halted) ≡ replicate 63 0 ++ (0x20 ∷ 0x00 ∷ 0x00 ∷ 0x00 ∷ 0x50 ∷ []) ++ replicate 18 0
unfolding halted bytes_of_record fields_of widths io_bits bytes_of bits
all-bytes = refl

is-sound : is_sound halted ≡ true
unfolding halted is_sound fields_of widths io_bits
is-sound = refl

reads_back : load_record (saved_bytes halted) ≡ halted
unfolding halted bytes_of_record format_of fields_in record_of is_sound fields_of widths io_bits bytes_of number_of bits
reads_back = refl

-- The fresh record.
fresh-sound : is_sound fresh_record ≡ true
unfolding is_sound fields_of widths io_bits
fresh-sound = refl

fresh-bytes : saved_bytes fresh_record ≡ 2 ∷ replicate 93 0
unfolding bytes_of_record fields_of widths io_bits bytes_of bits
fresh-bytes = refl

-- A record in which no two fields but those of one bit (`one-bits`) can be exchanged unseen. Its bytes were packed by a program that shares nothing
-- with this one.
busy : Record
busy =
    record {
      core = record { status = 5; handler = 1; pc = 0xABC; age = 0x0123456789; drive = drive_of 1000 0x2B 0xCEF };
      regs =
          0x03000000 ∷ 0x04010101 ∷ 0x05020202 ∷ 0x06030303 ∷ 0x07040404 ∷ 0x08050505 ∷ 0x09060606
          ∷ 0x0A070707 ∷ 0x0B080808 ∷ 0x0C090909 ∷ 0x0D0A0A0A ∷ 0x0E0B0B0B ∷ 0x0F0C0C0C ∷ [];
      io =
          1 ∷ 0 ∷ 1 ∷ 0 ∷ 1 ∷ 0 ∷ 0x123 ∷ 0x456 ∷ 0x89ABCDEF ∷ 0x01234567 ∷ 0x76543210 ∷ 1 ∷ 0xB ∷ 0xC ∷ 2 ∷ 0x55 ∷ 0x678 ∷ 1
          ∷ 0 ∷ 0 ∷ 0x9ABC ∷ 0xDE ∷ 0 ∷ [];
    }

busy-bytes : saved_bytes busy
    ≡ 0x02 ∷ 0xBA ∷ 0xBC ∷ 0x01 ∷ 0x23 ∷ 0x45 ∷ 0x67 ∷ 0x89 ∷ 0x7D ∷ 0x0A ∷ 0xF3 ∷ 0xBC ∷ 0x0C ∷ 0x00 ∷ 0x00 ∷ 0x00
    ∷ 0x10 ∷ 0x04 ∷ 0x04 ∷ 0x04 ∷ 0x14 ∷ 0x08 ∷ 0x08 ∷ 0x08 ∷ 0x18 ∷ 0x0C ∷ 0x0C ∷ 0x0C ∷ 0x1C ∷ 0x10 ∷ 0x10 ∷ 0x10
    ∷ 0x20 ∷ 0x14 ∷ 0x14 ∷ 0x14 ∷ 0x24 ∷ 0x18 ∷ 0x18 ∷ 0x18 ∷ 0x28 ∷ 0x1C ∷ 0x1C ∷ 0x1C ∷ 0x2C ∷ 0x20 ∷ 0x20 ∷ 0x20
    ∷ 0x30 ∷ 0x24 ∷ 0x24 ∷ 0x24 ∷ 0x34 ∷ 0x28 ∷ 0x28 ∷ 0x28 ∷ 0x38 ∷ 0x2C ∷ 0x2C ∷ 0x2C ∷ 0x3C ∷ 0x30 ∷ 0x30 ∷ 0x32
    ∷ 0xA1 ∷ 0x23 ∷ 0x45 ∷ 0x68 ∷ 0x9A ∷ 0xBC ∷ 0xDE ∷ 0xF0 ∷ 0x12 ∷ 0x34 ∷ 0x56 ∷ 0x77 ∷ 0x65 ∷ 0x43 ∷ 0x21 ∷ 0x08
    ∷ 0x00 ∷ 0x00 ∷ 0x00 ∷ 0x58 ∷ 0x00 ∷ 0x00 ∷ 0x00 ∷ 0x65 ∷ 0x55 ∷ 0x9E ∷ 0x33 ∷ 0x57 ∷ 0x9B ∷ 0xC0 ∷ []
unfolding busy bytes_of_record fields_of widths io_bits bytes_of bits
busy-bytes = refl

-- Its words are the same bytes, four by four: the first two and the last, after which 9B C0 are left over.
busy-words : map (word_of widths (fields_of busy)) (0 ∷ 1 ∷ 22 ∷ []) ≡ 0x02BABC01 ∷ 0x23456789 ∷ 0x559E3357 ∷ []
unfolding busy fields_of widths io_bits word_of bits
busy-words = refl

busy-back : load_record (saved_bytes busy) ≡ busy
unfolding busy bytes_of_record format_of fields_in record_of is_sound fields_of widths io_bits bytes_of number_of bits
busy-back = refl

-- ---- edition 1

-- The same run as document 01 saved it: "01 20 01 00 00 00 00 02 and on". It reads as that record, and these are that record's bytes in edition 1.
halted-one : List ℕ
halted-one = (0x01 ∷ 0x20 ∷ 0x01 ∷ 0x00 ∷ 0x00 ∷ 0x00 ∷ 0x00 ∷ 0x02 ∷ []) ++ replicate 60 0 ++ (0x01 ∷ 0x00 ∷ 0x00 ∷ 0x00 ∷ 0x02 ∷ 0x80 ∷ []) ++ replicate 17 0

reads_one : load_record halted-one ≡ halted
unfolding halted halted-one format_of fields_in record_one is_sound fields_of widths widths_one io_bits number_of bits
reads_one = refl

saves-one : bytes_of_record edition_one halted ≡ halted-one
unfolding halted halted-one bytes_of_record fields_one widths_one io_bits bytes_of bits
saves-one = refl

-- Edition 1 with left, diskcmd and diskstatus as given, and diskbuffer 4095: the bytes of its fields, all else 0.
disk-one : ℕ → ℕ → ℕ → List ℕ
disk-one left command status =
    bytes_of 91 (packed widths_one (1 ∷ 0 ∷ 0 ∷ 0 ∷ 0 ∷ left ∷ (replicate 13 0 ++ (replicate 14 0 ++ (command ∷ 0 ∷ 4095 ∷ status ∷ [])) ++ replicate 6 0)))

-- "a busy edition 1 (20)", whatever diskbuffer holds; "an unsound record (13)" comes first; free, it is read with sector and buffer zero.
busy-one : map load_outcome (disk-one 1 2 1 ∷ disk-one 1024 1 1 ∷ disk-one 1 2 0 ∷ disk-one 1025 1 1 ∷ disk-one 0 3 0 ∷ [])
    ≡ refused 20 0 ∷ refused 20 0 ∷ refused 13 0 ∷ refused 13 0 ∷ refused 13 0 ∷ []
unfolding disk-one format_of fields_in record_one is_sound fields_of widths widths_one io_bits bytes_of number_of bits
busy-one = refl

free_one : load_record (disk-one 0 0 0) ≡ record { core = fresh_record.core; regs = replicate 13 0; io = set (replicate 23 0) 16 4095 }
unfolding disk-one format_of fields_in record_one is_sound fields_of widths widths_one io_bits bytes_of number_of bits
free_one = refl

-- ---- refusals

-- "a length other than 91 or 94 (1)": 90, 92, 93 and 95 bytes, and none; asked before all else.
wrong_lengths : map (λ (k : ℕ). load_outcome (replicate k 1)) (0 ∷ 90 ∷ 92 ∷ 93 ∷ 95 ∷ []) ≡ replicate 5 (refused 1 0)
unfolding format_of fields_in record_of record_one is_sound fields_of widths widths_one io_bits number_of bits
wrong_lengths = refl

-- "then an edition that isn't that length's (14)", before soundness: these bytes are not sound (left is 8, diskcmd 0).
other_editions : map load_outcome ((2 ∷ replicate 90 1) ∷ (3 ∷ replicate 90 1) ∷ (1 ∷ replicate 93 1) ∷ (3 ∷ replicate 93 1) ∷ []) ≡ replicate 4 (refused 14 0)
unfolding format_of fields_in record_of record_one is_sound fields_of widths widths_one io_bits number_of bits
other_editions = refl

-- A refused call hands back the fresh record.
hands_back : load_record (2 ∷ replicate 90 1) ≡ fresh_record
unfolding format_of fields_in record_of record_one is_sound fields_of widths widths_one io_bits number_of bits
hands_back = refl

-- "an unsound record (13)": status 6, and another value than zero in the five bits at the end.
status_six : List ℕ
status_six = 2 ∷ 0xC0 ∷ replicate 92 0

unsound-bytes : map load_outcome (status_six ∷ ((2 ∷ replicate 92 0) ++ (0x01 ∷ [])) ∷ ((2 ∷ replicate 92 0) ++ (0x10 ∷ [])) ∷ []) ≡ replicate 3 (refused 13 0)
unfolding status_six format_of fields_in record_of record_one is_sound fields_of widths widths_one io_bits number_of bits
unsound-bytes = refl

hands_back-unsound : load_record status_six ≡ fresh_record
unfolding status_six format_of fields_in record_of record_one is_sound fields_of widths widths_one io_bits number_of bits
hands_back-unsound = refl

-- Saving asks for 94 bytes: 91 and 95 are refused.
one_more : (save_outcome halted (replicate 91 0) ≡ refused 1 0) × (save_outcome halted (replicate 95 0) ≡ refused 1 0)
unfolding halted is_sound fields_of widths io_bits
one_more = (refl, refl)

-- ---- soundness

-- The disk: its cycles to go, diskcmd and diskstatus; sector and buffer are zero.
with_disk : ℕ → ℕ → ℕ → Record
with_disk left command status =
    record { core = record { status = 0; handler = 0; pc = 0; age = 0; drive = drive_of left 0 0 }; regs = replicate 13 0; io = replicate 14 0 ++ (command ∷ 0 ∷ 0 ∷ status ∷ []) ++ replicate 5 0 }

-- Busy with a read or a write, or free; 3 is no command, "else diskcmd is 0"; busy exactly when cycles are to go, of which there are at most
-- 1,024.
disks : map is_sound (with_disk 1024 2 1 ∷ with_disk 1 1 1 ∷ with_disk 0 0 0 ∷ with_disk 0 3 0 ∷ with_disk 0 1 0 ∷ with_disk 0 2 0 ∷ with_disk 5 0 1 ∷ with_disk 5 3 1 ∷ with_disk 5 1 0 ∷ with_disk 0 0 1 ∷ with_disk 1025 1 1 ∷ [])
    ≡ true ∷ true ∷ true ∷ false ∷ false ∷ false ∷ false ∷ false ∷ false ∷ false ∷ false ∷ []
unfolding with_disk is_sound fields_of widths io_bits
disks = refl

-- "Saving: sound? 13", after the length.
unsound : save_outcome (with_disk 0 3 0) (replicate 94 0) ≡ refused 13 0
unfolding with_disk is_sound fields_of widths io_bits
unsound = refl

length-first : save_outcome (with_disk 0 3 0) (replicate 91 0) ≡ refused 1 0
unfolding with_disk is_sound fields_of widths io_bits
length-first = refl

-- The sector and the buffer taken: "both zero when free", "While busy the buffer is at most 3968". The registers disksector and diskbuffer hold 0.
with_taken : ℕ → ℕ → ℕ → Record
with_taken left sector buffer =
    let busy = with_disk left 1 1 in
    let free = with_disk 0 0 0 in
    record { core = record { status = 0; handler = 0; pc = 0; age = 0; drive = drive_of left sector buffer }; regs = replicate 13 0; io = cond (eqb left 0) free.io busy.io }

taken : map is_sound (with_taken 1 127 3968 ∷ with_taken 1 128 3968 ∷ with_taken 1 127 3969 ∷ with_taken 0 0 0 ∷ with_taken 0 1 0 ∷ with_taken 0 0 1 ∷ []) ≡ true ∷ false ∷ false ∷ true ∷ false ∷ false ∷ []
unfolding with_taken with_disk is_sound fields_of widths io_bits
taken = refl

-- The scalars: status, flag, PC and age.
with_scalars : ℕ → ℕ → ℕ → ℕ → Record
with_scalars status handler pc age =
    record { core = record { status = status; handler = handler; pc = pc; age = age; drive = free_drive }; regs = replicate 13 0; io = replicate 23 0 }

scalars : map is_sound (with_scalars 5 1 4095 (2 ^ 40 - 1) ∷ with_scalars 6 0 0 0 ∷ with_scalars 0 2 0 0 ∷ with_scalars 0 0 4096 0 ∷ with_scalars 0 0 0 (2 ^ 40) ∷ [])
    ≡ true ∷ false ∷ false ∷ false ∷ false ∷ []
unfolding with_scalars is_sound fields_of widths io_bits
scalars = refl

-- I/O register n holding x, all else 0: the widest value of disksector, diskbuffer and monitordata, one more of each; and the places 18, 19 and 22,
-- which hold 0 only.
with_io_register : ℕ × ℕ → Record
with_io_register (n, x) =
    record { core = record { status = 0; handler = 0; pc = 0; age = 0; drive = free_drive }; regs = replicate 13 0; io = set (replicate 23 0) n x }

io-registers : map (λ p. is_sound (with_io_register p)) ((15, 127) ∷ (15, 128) ∷ (16, 4095) ∷ (16, 4096) ∷ (21, 255) ∷ (21, 256) ∷ (18, 1) ∷ (19, 1) ∷ (22, 1) ∷ [])
    ≡ true ∷ false ∷ true ∷ false ∷ true ∷ false ∷ false ∷ false ∷ false ∷ []
unfolding with_io_register is_sound fields_of widths io_bits
io-registers = refl

-- Each I/O register of one bit, set alone, beside the edition: its place by hand from the order and widths of both documents, counted from the low end.
one-bits : map (λ (n : ℕ). packed widths (fields_of (with_io_register (n, 1)))) (0 ∷ 1 ∷ 2 ∷ 3 ∷ 4 ∷ 5 ∷ 11 ∷ 17 ∷ [])
    ≡ map (λ (p : ℕ). 2 ^ 745 + 2 ^ p) (241 ∷ 240 ∷ 239 ∷ 238 ∷ 237 ∷ 236 ∷ 115 ∷ 29 ∷ [])
unfolding with_io_register fields_of widths io_bits
one-bits = refl
