use Prim.Native.Nat.{◌+◌, ◌*◌}
use lib.ListN.{length}
use Rattle.files.proofs.FillLaws.{Filling}
use Rattle.files.proofs.fill.fill_words.Given as goal

abbrev pub invariant-loop-i : goal.invariant-loop-i
invariant-loop-i g l = Filling g.C.Cell.DIGITS (length l.initial.memory) l.text (g.C.Cell.numbers l.memory) (l.i * (g.C.Cell.DIGITS + 1)) l.i
