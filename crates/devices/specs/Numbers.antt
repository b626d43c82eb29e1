-- The numbers of the I/O registers 0 to 9 and 11 to 17, the same in every computer that has these devices.
use Rattle.std.specs.Prelude.{ℕ}

abbrev pub irq0enable : ℕ
irq0enable = 0

abbrev pub irq1enable : ℕ
irq1enable = 1

abbrev pub irq2enable : ℕ
irq2enable = 2

abbrev pub irq0status : ℕ
irq0status = 3

abbrev pub irq1status : ℕ
irq1status = 4

abbrev pub irq2status : ℕ
irq2status = 5

abbrev pub irqhandler : ℕ
irqhandler = 6

abbrev pub irqreturn : ℕ
irqreturn = 7

abbrev pub clks : ℕ
clks = 8

abbrev pub leds : ℕ
leds = 9

abbrev pub timerenable : ℕ
timerenable = 11

abbrev pub timercurrent : ℕ
timercurrent = 12

abbrev pub timermax : ℕ
timermax = 13

abbrev pub diskcmd : ℕ
diskcmd = 14

abbrev pub disksector : ℕ
disksector = 15

abbrev pub diskbuffer : ℕ
diskbuffer = 16

abbrev pub diskstatus : ℕ
diskstatus = 17

-- One more than the largest of them: I/O registers of at least so many places have them all.
abbrev pub device_registers : ℕ
device_registers = 18
