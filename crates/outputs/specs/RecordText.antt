-- A record as `lab show` prints it: each field by its name, a line each, in the order of the saved record.
use Rattle.std.specs.Prelude.{ℕ, ◌-◌, List, [], ◌∷◌, ◌++◌, map, get_or}
use Rattle.text.specs.Bytes.{bytes}
use Rattle.text.specs.Lines.{unlines}
use Rattle.text.specs.Numerals.{digits, decimal}
use Rattle.trace.specs.LogLines.{field}
use Rattle.isa.specs.Registers.{register_name, io_name}
use Rattle.devices.specs.declared.Drive.{Drive}
use Rattle.machine.specs.declared.Core.{Core}
use Rattle.machine.specs.declared.Record.{Record}
use Rattle.outputs.specs.Statuses.{status_words}

-- ---- status, flag, PC, age, and the disk's part: left, sector, buffer

-- The number and its meaning, as `status 1 halted`.
unfoldable pub status_line : ℕ → List ℕ
status_line status = bytes "status " ++ decimal status ++ bytes " " ++ status_words status

unfoldable pub pc_line : ℕ → List ℕ
pc_line pc = bytes "pc " ++ digits 16 3 pc

unfoldable pub drive_lines : Drive → List (List ℕ)
drive_lines d =
    (bytes "left " ++ decimal d.left)
    ∷ (bytes "sector " ++ decimal d.sector)
    ∷ (bytes "buffer " ++ decimal d.buffer)
    ∷ []

unfoldable pub core_lines : Core → List (List ℕ)
core_lines c =
    status_line c.status
    ∷ (bytes "handler " ++ decimal c.handler)
    ∷ pc_line c.pc
    ∷ (bytes "age " ++ decimal c.age)
    ∷ drive_lines c.drive

-- ---- "R3 to R15, then I/O 0 to 17, 20, 21"

-- A name, a space and a word.
unfoldable pub word_line : List ℕ → ℕ → List ℕ
word_line name x = name ++ field (digits 16 8 x)

abbrev pub saved_registers : List ℕ
saved_registers = 3 ∷ 4 ∷ 5 ∷ 6 ∷ 7 ∷ 8 ∷ 9 ∷ 10 ∷ 11 ∷ 12 ∷ 13 ∷ 14 ∷ 15 ∷ []

abbrev pub register_line : List ℕ → ℕ → List ℕ
register_line regs n = word_line (register_name n) (get_or regs (n - 3) 0)

abbrev pub saved_io : List ℕ
saved_io = 0 ∷ 1 ∷ 2 ∷ 3 ∷ 4 ∷ 5 ∷ 6 ∷ 7 ∷ 8 ∷ 9 ∷ 10 ∷ 11 ∷ 12 ∷ 13 ∷ 14 ∷ 15 ∷ 16 ∷ 17 ∷ 20 ∷ 21 ∷ []

abbrev pub io_line : List ℕ → ℕ → List ℕ
io_line io n = word_line (io_name n) (get_or io n 0)

-- ---- the record

unfoldable pub record_text : Record → List ℕ
record_text r = unlines (core_lines r.core ++ map (register_line r.regs) saved_registers ++ map (io_line r.io) saved_io)
