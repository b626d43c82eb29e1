-- The programs that are run: instruction words from address 0 on, each with its assembly. A word 0 is add $zero, $zero, $zero, $zero, 0, 0, which
-- changes nothing.
use Rattle.std.specs.Prelude.{ℕ, List, [], ◌∷◌, ◌++◌, replicate}

abbrev pub subtract : List ℕ
subtract =
    0x018122002003  -- sub $t1, $imm1, $imm2, $imm2, 2, 3
    ∷ []

abbrev pub immediates : List ℕ
immediates =
    0x0071007FFFFF  -- add $t0, $imm1, $zero, $zero, 0x7FF, 0xFFF
    ∷ 0x0082007FFFFF  -- add $t1, $imm2, $zero, $zero, 0x7FF, 0xFFF
    ∷ []

abbrev pub shifts : List ℕ
shifts =
    0x06712000101F  -- sll $t0, $imm1, $imm2, $zero, 1, 31: 0x80000000
    ∷ 0x07871001F000  -- sra $t1, $t0, $imm1, $zero, 31, 0
    ∷ 0x079710020000  -- sra $t2, $t0, $imm1, $zero, 32, 0
    ∷ []

abbrev pub less : List ℕ
less =
    0x0B0102FFF123  -- blt $zero, $imm1, $zero, $imm2, 0xFFF, 0x123
    ∷ []

abbrev pub product : List ℕ
product =
    0x067120001010  -- sll $t0, $imm1, $imm2, $zero, 1, 16: 0x10000
    ∷ 0x028771001000  -- mac $t1, $t0, $t0, $imm1, 1, 0
    ∷ []

abbrev pub link : List ℕ
link =
    0x00F100007000  -- add $ra, $imm1, $zero, $zero, 7, 0
    ∷ 0x090001FFF000  -- beq $zero, $zero, $zero, $imm1, 0xFFF, 0
    ∷ replicate 4093 0
    ++ (0x0FF001123000  -- jal $ra, $zero, $zero, $imm1, 0x123, 0: at 4095
    ∷ [])

abbrev pub timer : List ℕ
timer =
    0x14010200D002  -- out $zero, $imm1, $zero, $imm2, 13, 2: timermax = 2
    ∷ replicate 4 0
    ++ (0x14010200B001  -- out $zero, $imm1, $zero, $imm2, 11, 1: timerenable = 1, in cycle 5
    ∷ [])

abbrev pub disk : List ℕ
disk =
    replicate 10 0
    ++ (0x14010200E001  -- out $zero, $imm1, $zero, $imm2, 14, 1: diskcmd = 1, in cycle 10
    ∷ 0x137010011000  -- in $t0, $zero, $imm1, $zero, 17, 0: diskstatus, in cycles 11, 14, ..
    ∷ 0x138010011000  -- in $t1, $zero, $imm1, $zero, 17, 0: in cycles 12, 15, ..
    ∷ 0x09000100B000  -- beq $zero, $zero, $zero, $imm1, 11, 0
    ∷ [])

abbrev pub buffer3968 : List ℕ
buffer3968 =
    0x140102010F80  -- out $zero, $imm1, $zero, $imm2, 16, 0xF80: diskbuffer = 3968
    ∷ 0x14010200E001  -- out $zero, $imm1, $zero, $imm2, 14, 1: diskcmd = 1
    ∷ []

abbrev pub buffer3969 : List ℕ
buffer3969 =
    0x140102010F81  -- out $zero, $imm1, $zero, $imm2, 16, 0xF81: diskbuffer = 3969
    ∷ 0x14010200E001  -- out $zero, $imm1, $zero, $imm2, 14, 1: diskcmd = 1
    ∷ []

abbrev pub transfer : List ℕ
transfer =
    0x14010200F001  -- out $zero, $imm1, $zero, $imm2, 15, 1: disksector = 1
    ∷ 0x140102010064  -- out $zero, $imm1, $zero, $imm2, 16, 100: diskbuffer = 100
    ∷ 0x14010200E001  -- out $zero, $imm1, $zero, $imm2, 14, 1: diskcmd = 1, in cycle 2
    ∷ 0x14010200F002  -- out $zero, $imm1, $zero, $imm2, 15, 2: disksector = 2, while the disk is busy
    ∷ 0x140102010FFF  -- out $zero, $imm1, $zero, $imm2, 16, 0xFFF: diskbuffer = 4095
    ∷ []

abbrev pub loads : List ℕ
loads =
    0x06712000100C  -- sll $t0, $imm1, $imm2, $zero, 1, 12: 4096
    ∷ 0x108710FFF000  -- lw $t1, $t0, $imm1, $zero, -1, 0: address 4095
    ∷ 0x108700000000  -- lw $t1, $t0, $zero, $zero, 0, 0: address 4096
    ∷ []

abbrev pub two_lines : List ℕ
two_lines =
    0x140102009005  -- out $zero, $imm1, $zero, $imm2, 9, 5: leds = 5
    ∷ 0x150000000000  -- halt $zero, $zero, $zero, $zero, 0, 0
    ∷ []

-- ---- for "Mistakes to exclude"

abbrev pub requests_irq2 : List ℕ
requests_irq2 =
    0x140102006020  -- out $zero, $imm1, $zero, $imm2, 6, 0x20: irqhandler = 0x20
    ∷ 0x140102003001  -- out $zero, $imm1, $zero, $imm2, 3, 1: irq0status = 1
    ∷ 0x140102004001  -- out $zero, $imm1, $zero, $imm2, 4, 1: irq1status = 1
    ∷ 0x140102002001  -- out $zero, $imm1, $zero, $imm2, 2, 1: irq2enable = 1
    ∷ []

abbrev pub leds_twice : List ℕ
leds_twice =
    0x140102009005  -- out $zero, $imm1, $zero, $imm2, 9, 5: leds = 5
    ∷ 0x140102009005  -- out $zero, $imm1, $zero, $imm2, 9, 5
    ∷ []

abbrev pub equal_not_rd : List ℕ
equal_not_rd =
    0x092001123456  -- beq $imm2, $zero, $zero, $imm1, 0x123, 0x456
    ∷ []

abbrev pub unequal_rd : List ℕ
unequal_rd =
    0x0A2001123456  -- bne $imm2, $zero, $zero, $imm1, 0x123, 0x456
    ∷ []

abbrev pub opcode22 : List ℕ
opcode22 =
    0x160000000000  -- no operation
    ∷ []
