use Prim.Native.Nat.{◌+◌, ◌*◌}
use mathlib.Core.Path.{◌≡◌}
use mathlib.Core.List.{map}
use lib.ListN.{length, take}
use Rattle.text.specs.Lines.{unlines}
use Rattle.outputs.specs.RecordText.{saved_registers, register_line}
use Rattle.outputs.proofs.PieceLaws.{Piece}
use Rattle.outputs.proofs.register_lines.put_register_lines.Given as goal

abbrev pub invariant-loop-i : goal.invariant-loop-i
invariant-loop-i l = Piece l.initial.out l.at (unlines (map (register_line l.regs) (take l.i saved_registers))) l.out l.end × (length l.out ≡ length l.initial.out) × (l.end ≡ l.at + l.i * 13)
