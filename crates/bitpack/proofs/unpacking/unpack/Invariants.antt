use Prim.Native.Nat.{◌+◌, ◌-◌}
use lib.ListN.{length}
use Rattle.bitpack.specs.Packed.{number_of}
use Rattle.bitpack.proofs.ByteLaws.{eights}
use Rattle.bitpack.proofs.StreamLaws.{Loop}
use Rattle.bitpack.proofs.unpacking.unpack.Given as goal

abbrev pub invariant-loop-n : goal.invariant-loop-n
invariant-loop-n l = Loop (number_of l.bytes) (eights (length l.bytes)) l.widths l.values l.i l.n l.acc l.have

abbrev pub decreases-loop-n : goal.decreases-loop-n
decreases-loop-n l = (length l.bytes - l.i) + (length l.widths - l.n)
