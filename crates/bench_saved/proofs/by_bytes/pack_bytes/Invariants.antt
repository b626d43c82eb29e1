use Prim.Native.Nat.{◌+◌, ◌-◌, ◌%◌, ◌^◌}
use lib.ListN.{length}
use Rattle.bitpack.specs.Packed.{packed}
use Rattle.bitpack.proofs.ByteLaws.{eights}
use Rattle.bitpack.proofs.StreamLaws.{Loop}
use Rattle.bench_saved.proofs.by_bytes.pack_bytes.Given as goal

abbrev pub invariant-loop-n : goal.invariant-loop-n
invariant-loop-n l = Loop (packed l.widths l.values) l.widths (eights (length l.initial.out)) l.out l.i l.n (l.acc % 2 ^ l.have) l.have

abbrev pub decreases-loop-n : goal.decreases-loop-n
decreases-loop-n l = (length l.widths - l.i) + (length l.initial.out - l.n)
