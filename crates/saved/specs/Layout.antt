-- The saved record in its two editions, each a format of bitpack's.
use Rattle.std.specs.Prelude.{ℕ, ◌+◌, List, [], ◌∷◌, ◌++◌, map, get_or, take, drop, replicate}
use Rattle.bitpack.specs.Format.{Format, bytes_of_record, fields_in}
use Rattle.devices.specs.declared.Drive.{Drive}
use Rattle.devices.specs.Bus.{drive_of}
use Rattle.machine.specs.declared.Record.{Record}
use Rattle.machine.specs.Soundness.{field_bits}

-- The record's places by I/O number. 18 and 19 are no registers, and monitorcmd, 22, "always holds 0": they have no bits, so a sound record
-- holds 0 there.
abbrev pub io_numbers : List ℕ
io_numbers = 0 ∷ 1 ∷ 2 ∷ 3 ∷ 4 ∷ 5 ∷ 6 ∷ 7 ∷ 8 ∷ 9 ∷ 10 ∷ 11 ∷ 12 ∷ 13 ∷ 14 ∷ 15 ∷ 16 ∷ 17 ∷ 18 ∷ 19 ∷ 20 ∷ 21 ∷ 22 ∷ []

-- "R3 to R15, then I/O 0 to 17, 20, 21 in their widths", and so many zero bits at the end.
abbrev pub register_widths : ℕ → List ℕ
register_widths zeros = replicate 13 32 ++ (map field_bits io_numbers ++ (zeros ∷ []))

abbrev pub register_fields : Record → List ℕ
register_fields r = r.regs ++ (r.io ++ (0 ∷ []))

-- The record of fields that begin with edition, status, flag, PC and age and have R3 at place n, and of a drive.
abbrev pub record_from : ℕ → Drive → List ℕ → Record
record_from n d f =
    record {
      core = record { status = get_or f 1 0; handler = get_or f 2 0; pc = get_or f 3 0; age = get_or f 4 0; drive = d };
      regs = take 13 (drop n f);
      io = take 23 (drop (n + 13) f);
    }

-- ---- edition 2: "after `left` come that sector (7 bits) and buffer (12), .. and five zero bits at the end, 94 bytes"

abbrev pub edition : ℕ
edition = 2

abbrev pub record_bytes : ℕ
record_bytes = 94

unfoldable pub widths : List ℕ
widths = 8 ∷ 3 ∷ 1 ∷ 12 ∷ 40 ∷ 11 ∷ 7 ∷ 12 ∷ register_widths 5

unfoldable pub fields_of : Record → List ℕ
fields_of r =
    edition ∷ r.core.status ∷ r.core.handler ∷ r.core.pc ∷ r.core.age ∷ r.core.drive.left ∷ r.core.drive.sector ∷ r.core.drive.buffer
    ∷ register_fields r

unfoldable pub record_of : List ℕ → Record
record_of f = record_from 8 (drive_of (get_or f 5 0) (get_or f 6 0) (get_or f 7 0)) f

abbrev pub edition_two : Format Record
edition_two = record { edition = edition; bytes = record_bytes; widths = widths; fields_of = fields_of; record_of = record_of }

-- The bytes of a record, and the fields of bytes.
abbrev pub saved_bytes : Record → List ℕ
saved_bytes r = bytes_of_record edition_two r

abbrev pub saved_fields : List ℕ → List ℕ
saved_fields bytes = fields_in edition_two bytes

-- ---- edition 1, which is read only: "91 bytes, bit-packed, most significant first: edition 8 (is 1), status 3, flag 1, PC 12, age 40, left 11, R3 to R15,
-- then I/O 0 to 17, 20, 21 in their widths: 728 bits." Its record has sector and buffer zero.

unfoldable pub widths_one : List ℕ
widths_one = 8 ∷ 3 ∷ 1 ∷ 12 ∷ 40 ∷ 11 ∷ register_widths 0

unfoldable pub fields_one : Record → List ℕ
fields_one r = 1 ∷ r.core.status ∷ r.core.handler ∷ r.core.pc ∷ r.core.age ∷ r.core.drive.left ∷ register_fields r

unfoldable pub record_one : List ℕ → Record
record_one f = record_from 6 (drive_of (get_or f 5 0) 0 0) f

abbrev pub edition_one : Format Record
edition_one = record { edition = 1; bytes = 91; widths = widths_one; fields_of = fields_one; record_of = record_one }
