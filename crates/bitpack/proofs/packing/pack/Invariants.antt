use Rattle.bitpack.proofs.PackingLaws.{Packing}
use Rattle.bitpack.proofs.packing.pack.Given as goal

abbrev pub invariant-loop-i : goal.invariant-loop-i
invariant-loop-i l = Packing l.widths l.values l.initial.out l.out l.i l.k l.acc l.have
