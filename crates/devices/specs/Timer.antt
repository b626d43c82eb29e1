-- Step 5 of a cycle: "Timer, if enabled now: where timercurrent = timermax, irq0status = 1 and timercurrent = 0; else timercurrent + 1,
-- wrapping."
use Rattle.std.specs.Prelude.{ℕ, ◌+◌, ◌%◌, ◌^◌, cond, List, ◌==◌, slice_index, slice_set}
use Rattle.devices.specs.Numbers.{irq0status, timerenable, timercurrent, timermax}

-- The I/O registers after the timer's step.
unfoldable pub timed : List ℕ → List ℕ
timed io =
    cond (slice_index io timerenable == 1)
    (cond (slice_index io timercurrent == slice_index io timermax)
    (slice_set (slice_set io irq0status 1) timercurrent 0)
    (slice_set io timercurrent ((slice_index io timercurrent + 1) % 2 ^ 32)))
    io
