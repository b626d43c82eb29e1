-- Steps 5 to 7 of a cycle, but for the age.
use Rattle.std.specs.Prelude.{ℕ, ◌+◌, ◌%◌, ◌^◌, List, slice_index, slice_set}
use Rattle.devices.specs.Numbers.{clks}
use Rattle.devices.specs.Bus.{Bus, with_io}
use Rattle.devices.specs.Timer.{timed}
use Rattle.devices.specs.Disk.{disk_stepped}

-- "7. clks + 1, wrapping"
unfoldable pub clocked : List ℕ → List ℕ
clocked io = slice_set io clks ((slice_index io clks + 1) % 2 ^ 32)

-- Steps 5, 6 and 7; `began` are the disk's cycles to go when the cycle began.
unfoldable pub devices_stepped : ℕ → Bus → Bus
devices_stepped began b =
    let d = disk_stepped began (with_io (timed b.io) b) in
    with_io (clocked d.io) d
