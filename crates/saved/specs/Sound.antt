-- Whether a record is sound, as a test; `Soundness.Sound` of machine says the same of its parts (`sound_yes`, `sound_test`).
use Rattle.std.specs.Prelude.{Bool, ◌&&◌, eqb, leb, length, get_or}
use Rattle.bitpack.specs.Packed.{fit}
use Rattle.devices.specs.Soundness.{is_sound_drive}
use Rattle.isa.specs.Registers.{diskcmd, diskstatus}
use Rattle.machine.specs.declared.Record.{Record}
use Rattle.saved.specs.Layout.{widths, fields_of}

-- "A record is sound when each field fits, status is at most 5", and what is said of the disk, which devices' Soundness quotes. A record has 13 registers and 23
-- places of I/O registers.
unfoldable pub is_sound : Record → Bool
is_sound r =
    eqb (length r.regs) 13
    && eqb (length r.io) 23
    && fit widths (fields_of r)
    && leb r.core.status 5
    && is_sound_drive r.core.drive (get_or r.io diskstatus 0) (get_or r.io diskcmd 0)
