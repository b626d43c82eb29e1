use Rattle.bitpack.proofs.LastBytes.{LastBytes}
use Rattle.bitpack.proofs.packing.put_low_bytes.Given as goal

abbrev pub invariant-loop-n : goal.invariant-loop-n
invariant-loop-n l = LastBytes l.x l.initial.out l.out l.rest l.n
