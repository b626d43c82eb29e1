-- What the devices act on.
use Rattle.std.specs.Prelude.{ℕ, List}
use Rattle.devices.specs.declared.Drive.{Drive}

-- The disk's part of the record, the I/O registers, the data memory and the disk.
pub record Bus : Type 0 where
  pub drive : Drive
  pub io : List ℕ
  pub memory : List ℕ
  pub disk : List ℕ

abbrev pub bus : Drive → List ℕ → List ℕ → List ℕ → Bus
bus d io memory disk = record { drive = d; io = io; memory = memory; disk = disk }

abbrev pub with_io : List ℕ → Bus → Bus
with_io io b = bus b.drive io b.memory b.disk

abbrev pub drive_of : ℕ → ℕ → ℕ → Drive
drive_of left sector buffer = record { left = left; sector = sector; buffer = buffer }

-- "both zero when free"
abbrev pub free_drive : Drive
free_drive = drive_of 0 0 0
