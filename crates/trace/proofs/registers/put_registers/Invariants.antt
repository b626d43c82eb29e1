use Rattle.std.proofs.Common.{◌≡◌, ◌+◌, ◌*◌, length, drop}
use Rattle.text.specs.Place.{put}
use Rattle.trace.specs.LogLines.{registers_text}
use Rattle.trace.proofs.registers.put_registers.Given as goal

abbrev pub invariant-loop-n : goal.invariant-loop-n
invariant-loop-n l = (put l.text l.at (registers_text (drop l.n l.regs)) ≡ put l.initial.text 0 (registers_text (drop 3 l.regs))) × (length l.text ≡ 118) × (l.n * 9 ≡ l.at + 27)
