-- The names of the registers, and the I/O registers with their widths.
use Rattle.std.specs.Prelude.{ℕ, Bool, List, [], ◌∷◌, get_or, nat_lt, slice_index_or}
use Rattle.text.specs.Bytes.{bytes}
pub use Rattle.devices.specs.Numbers.{irq0enable, irq1enable, irq2enable, irq0status, irq1status, irq2status, irqhandler, irqreturn, clks, leds, timerenable, timercurrent, timermax, diskcmd, disksector, diskbuffer, diskstatus}

-- "Registers R0 to R15 ..: $zero $imm1 $imm2 $v0 $a0 $a1 $a2 $t0 $t1 $t2 $s0 $s1 $s2 $gp $sp $ra."
unfoldable pub register_names : List (List ℕ)
register_names =
    bytes "$zero"
    ∷ bytes "$imm1"
    ∷ bytes "$imm2"
    ∷ bytes "$v0"
    ∷ bytes "$a0"
    ∷ bytes "$a1"
    ∷ bytes "$a2"
    ∷ bytes "$t0"
    ∷ bytes "$t1"
    ∷ bytes "$t2"
    ∷ bytes "$s0"
    ∷ bytes "$s1"
    ∷ bytes "$s2"
    ∷ bytes "$gp"
    ∷ bytes "$sp"
    ∷ bytes "$ra"
    ∷ []

unfoldable pub register_name : ℕ → List ℕ
unfolding register_names
register_name n = slice_index_or register_names n []

-- An I/O register: its name and its bits.
pub record IoRegister : Type 0 where
  pub name : List ℕ
  pub bits : ℕ

abbrev pub register : List ℕ → ℕ → IoRegister
register name bits = record { name = name; bits = bits }

-- A number that is not listed: no name, no bits.
abbrev pub not_listed : IoRegister
not_listed = record { name = []; bits = 0 }

-- "I/O registers, number name (bits)": the number is the place in this list.
unfoldable pub io_registers : List IoRegister
io_registers =
    register (bytes "irq0enable") 1
    ∷ register (bytes "irq1enable") 1
    ∷ register (bytes "irq2enable") 1
    ∷ register (bytes "irq0status") 1
    ∷ register (bytes "irq1status") 1
    ∷ register (bytes "irq2status") 1
    ∷ register (bytes "irqhandler") 12
    ∷ register (bytes "irqreturn") 12
    ∷ register (bytes "clks") 32
    ∷ register (bytes "leds") 32
    ∷ register (bytes "display7seg") 32
    ∷ register (bytes "timerenable") 1
    ∷ register (bytes "timercurrent") 32
    ∷ register (bytes "timermax") 32
    ∷ register (bytes "diskcmd") 2
    ∷ register (bytes "disksector") 7
    ∷ register (bytes "diskbuffer") 12
    ∷ register (bytes "diskstatus") 1
    ∷ not_listed
    ∷ not_listed
    ∷ register (bytes "monitoraddr") 16
    ∷ register (bytes "monitordata") 8
    ∷ register (bytes "monitorcmd") 1
    ∷ []

unfoldable pub io_name : ℕ → List ℕ
unfolding io_registers
io_name n = (get_or io_registers n not_listed).name

unfoldable pub io_bits : ℕ → ℕ
unfolding io_registers
io_bits n = (get_or io_registers n not_listed).bits

-- "I/O number not listed" is status 4: those that have bits are listed.
abbrev pub is_listed : ℕ → Bool
is_listed n = nat_lt 0 (io_bits n)

-- ---- their numbers; 0 to 9 and 11 to 17 stand with the devices

abbrev pub display7seg : ℕ
display7seg = 10

abbrev pub monitoraddr : ℕ
monitoraddr = 20

abbrev pub monitordata : ℕ
monitordata = 21

abbrev pub monitorcmd : ℕ
monitorcmd = 22
