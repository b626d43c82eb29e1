-- What the bytes are, which record was read last and how many turns were accepted, after so many turns.
use Rattle.std.specs.Prelude.{ℕ, zero, suc, ◌+◌, cond, List, eqb}
use Rattle.text.specs.declared.Outcome.{Outcome}
use Rattle.devices.specs.declared.Drive.{Drive}
use Rattle.machine.specs.declared.Record.{Record}
use Rattle.saved.specs.Calls.{fresh_record, save_outcome, save_bytes, load_outcome, load_record}

-- 1 for an accepted call.
abbrev pub one : Outcome → ℕ
one t = cond (eqb t.number 0) 1 0

-- The record of its parts.
abbrev pub given : ℕ → ℕ → ℕ → ℕ → Drive → List ℕ → List ℕ → Record
given status handler pc age drive regs io =
    record { core = record { status = status; handler = handler; pc = pc; age = age; drive = drive }; regs = regs; io = io }

-- A record k cycles older.
abbrev pub older : ℕ → Record → Record
older k r = given r.core.status r.core.handler r.core.pc (r.core.age + k) r.core.drive r.regs r.io

-- ---- saving

-- The bytes after n saves, each of a record one cycle older.
abbrev pub saves : Record → ℕ → List ℕ → List ℕ
saves r zero bytes = bytes
saves r (suc n) bytes = save_bytes (older n r) (saves r n bytes)

-- How many of them were accepted.
abbrev pub saves_done : Record → ℕ → List ℕ → ℕ
saves_done r zero bytes = 0
saves_done r (suc n) bytes = saves_done r n bytes + one (save_outcome (older n r) (saves r n bytes))

-- ---- reading

-- The record that was read last, of n readings; fresh before the first.
abbrev pub loads : ℕ → List ℕ → Record
loads zero bytes = fresh_record
loads (suc n) bytes = load_record bytes

-- How many of them were accepted.
abbrev pub loads_done : ℕ → List ℕ → ℕ
loads_done zero bytes = 0
loads_done (suc n) bytes = loads_done n bytes + one (load_outcome bytes)
