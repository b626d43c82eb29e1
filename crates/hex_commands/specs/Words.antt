-- Which conversion two words name.
use Rattle.std.specs.Prelude.{ℕ, cond, List, Option, Some, None}
use Rattle.text.specs.Bytes.{bytes}
use Rattle.text.specs.Same.{same}
use Rattle.hex_commands.specs.declared.Conversion.{Conversion}
use Rattle.hex_commands.specs.declared.Conversion.TheVariants.{HexToData, HexToDisk, DataToHex, DiskToHex}

-- The one for the memory that a word names, of one for data and one for the disk.
abbrev pub for_memory : List ℕ → Conversion → Conversion → Option Conversion
for_memory memory «data» disk =
    cond (same memory (bytes "data")) (Some «data»)
    (cond (same memory (bytes "disk")) (Some disk)
    None)

abbrev pub conversion_of : (way memory : List ℕ) → Option Conversion
conversion_of way memory =
    cond (same way (bytes "read")) (for_memory memory HexToData HexToDisk)
    (cond (same way (bytes "write")) (for_memory memory DataToHex DiskToHex)
    None)
