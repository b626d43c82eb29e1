-- The definitions computed on document 01's examples.
use Rattle.std.specs.Prelude.{◌≡◌, true, false, [], ◌∷◌, map, refl}
use Rattle.text.specs.Bytes.{bytes}
use Rattle.isa.specs.Word.{fields_of, word_of, sign_extended}
use Rattle.isa.specs.Operations.{operation_of, operation_name, branch, bge, jal, halt, unknown}
use Rattle.isa.specs.Registers.{register_name, io_name, io_bits, is_listed, irq0enable, irq1enable, irq2enable, irq0status, irq1status, irq2status, irqhandler, irqreturn, clks, leds, display7seg, timerenable, timercurrent, timermax, diskcmd, disksector, diskbuffer, diskstatus, monitoraddr, monitordata, monitorcmd}

-- "sub with R8, R1, R2, R2 and 2, 3 encodes as 018122002003"
encoded : word_of (record { op = 1; rd = 8; rs = 1; rt = 2; rm = 2; imm1 = 2; imm2 = 3 }) ≡ 0x018122002003
encoded = refl

decoded : fields_of 0x018122002003 ≡ record { op = 1; rd = 8; rs = 1; rt = 2; rm = 2; imm1 = 2; imm2 = 3 }
decoded = refl

-- Bits above 47 are not read.
high_bits : fields_of 0xFFFF018122002003 ≡ fields_of 0x018122002003
high_bits = refl

-- "immediate 0x7FF stays, 0xFFF gives 0xFFFFFFFF"
stays : sign_extended 0x7FF ≡ 0x7FF
stays = refl

extended : sign_extended 0xFFF ≡ 0xFFFFFFFF
extended = refl

-- "halt (21)", and no operation above; bge is 14, and jal follows it.
last : operation_of 21 ≡ halt
unfolding operation_of
last = refl

above : operation_of 22 ≡ unknown
unfolding operation_of
above = refl

last-branch : operation_of 14 ≡ branch bge
unfolding operation_of
last-branch = refl

first_other : operation_of 15 ≡ jal
unfolding operation_of
first_other = refl

last_name : operation_name 21 ≡ bytes "halt"
unfolding operation_name
last_name = refl

last-register : register_name 15 ≡ bytes "$ra"
unfolding register_name
last-register = refl

-- The numbers that definitions use are the places of these names.
numbers : map io_name (irq0enable ∷ irq1enable ∷ irq2enable ∷ irq0status ∷ irq1status ∷ irq2status ∷ irqhandler ∷ irqreturn ∷ clks ∷ leds ∷ display7seg ∷ [])
    ≡ bytes "irq0enable" ∷ bytes "irq1enable" ∷ bytes "irq2enable" ∷ bytes "irq0status" ∷ bytes "irq1status" ∷ bytes "irq2status" ∷ bytes "irqhandler" ∷ bytes "irqreturn" ∷ bytes "clks" ∷ bytes "leds" ∷ bytes "display7seg" ∷ []
unfolding io_name
numbers = refl

more_numbers : map io_name (timerenable ∷ timercurrent ∷ timermax ∷ diskcmd ∷ disksector ∷ diskbuffer ∷ diskstatus ∷ monitoraddr ∷ monitordata ∷ monitorcmd ∷ [])
    ≡ bytes "timerenable" ∷ bytes "timercurrent" ∷ bytes "timermax" ∷ bytes "diskcmd" ∷ bytes "disksector" ∷ bytes "diskbuffer" ∷ bytes "diskstatus" ∷ bytes "monitoraddr" ∷ bytes "monitordata" ∷ bytes "monitorcmd" ∷ []
unfolding io_name
more_numbers = refl

-- "9 leds .. (32)"; 18 and 19 are not listed, 22 is the last.
leds-bits : io_bits leds ≡ 32
unfolding io_bits
leds-bits = refl

not_listed_lem : map is_listed (17 ∷ 18 ∷ 19 ∷ 20 ∷ 22 ∷ 23 ∷ 0xFFFFFFFF ∷ []) ≡ true ∷ false ∷ false ∷ true ∷ true ∷ false ∷ false ∷ []
unfolding io_bits
not_listed_lem = refl
