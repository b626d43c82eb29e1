-- What the code is lent.
use Rattle.std.specs.Prelude.{ℕ, ◌≡◌, cond, List, ltb, length, get_or, set, drop}
use Rattle.trace.specs.LogLines.{registers_text}
use Rattle.machine.specs.declared.Core.{Core}
use Rattle.machine.specs.State.{Machine}
use Rattle.machine.specs.Soundness.{FittingIo}

-- R0 to R15, of which R0 is 0, and beside them the text of R3 to R15. R1 and R2 hold any words: each cycle sets them before they are read.
pub record HaveText (registers text : List ℕ) : Type 0 where
  pub sixteen : length registers ≡ 16
  pub zero : get_or registers 0 0 ≡ 0
  pub is : text ≡ registers_text (drop 3 registers)

-- R0 to R15 where R[n] becomes x: "Writes to these three change nothing."
abbrev pub stored : ℕ → ℕ → List ℕ → List ℕ
stored n x registers = cond (ltb n 3) registers (set registers n x)

-- The memories: "The data memory is 4,096 words of 32 bits, the disk 16,384 such words (128 sectors of 128), the frame 65,536 bytes."
pub record Sized (memory disk frame : List ℕ) : Type 0 where
  pub memory_size : length memory ≡ 4096
  pub disk_size : length disk ≡ 16384
  pub frame_size : length frame ≡ 65536

-- What an out may rely on of the I/O registers and the frame.
pub record Ready (io frame : List ℕ) : Type 0 where
  pub all : length io ≡ 23
  pub fitting : FittingIo io
  pub frame_size : length frame ≡ 65536

-- A machine from the parts that the code holds: of R0 to R15, those from R3 on.
abbrev pub packed : Core → List ℕ → List ℕ → List ℕ → List ℕ → List ℕ → Machine
packed c registers io memory disk frame =
    record { core = c; regs = drop 3 registers; io = io; memory = memory; disk = disk; frame = frame }
